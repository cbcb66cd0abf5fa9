-- What the nodes of a lowered plan tell: whose they are, which causes they show there, and when they are large.
use Rattle.std.proofs.Common.{◌≡◌, ℕ, zero, suc, ◌+◌, ◌-◌, ◌<◌, ◌≤◌, ◌⊎◌, List, [], ◌∷◌, ◌++◌, length, Some, refl, sym, ap, subst, ◌∙◌, inl, inr, arith, length-append}
use Rattle.std.proofs.lemmas.List.{append_assoc}
use Rattle.std.proofs.lemmas.List.Elements.{Contains-append_cases}
use Rattle.std.proofs.lemmas.Option.{same_Some}
use Rattle.std.specs.Prelude.{Contains, slice_get, ⊤}
use Rattle.std.specs.List.{AllByRecursion}
use Rattle.origin_laws.proofs.Sources.{of_case, of_step}
use Rattle.origin_laws.specs.Origins.{all_broken}
use Rattle.ps_frame.proofs.Seams.{slice_get-behind}
use Rattle.ps_frame.specs.Causes.{Cause}
use Rattle.ps_frame.specs.Functions.{Functions}
use Rattle.ps_frame.specs.Tables.{Fields, Table}
use Rattle.ps_meaning.specs.Cases.{IsCaseBrokenBy}
use Rattle.ps_meaning.specs.Meaning.{AllMean, Choice, IsAnyLarge, IsBrokenBy, IsChosen, IsLarge, IsLargeCase}
use Rattle.ps_meaning.specs.PlanTrees.{PlanTree, PlanTrees, no_trees, node, tree}
use Rattle.ps_meaning.specs.Shape.{Feeds, IsLargeAt, PhysicalMayGive, PhysicalNode, Shape, itself, through}
use Rattle.ps_meaning.specs.Sound.{EachNode}
use Rattle.ps_meaning.specs.Steps.{Step}
use Rattle.ps_plan.specs.Lowering.{AreTablesOf, Cached, ServesCaches}
use Rattle.plan_laws.specs.Laws.{AllEndAlike, causes_of}
use Rattle.ps_rules.specs.Slots.{Stream}
use Rattle.plan_rules.specs.Plans.{LoweredPlan, LoweredPlans, Progress, stream_over}
use Rattle.step_keeps.specs.Kept.{EndsAsStep, IsMadeFor, ShowsOnlyStep, SomeIsLarge, tables_from}
use Rattle.step_keeps.proofs.Added.{given_earlier, large_earlier, restricted, stood}
use Rattle.plan_keeps.proofs.Alike.{node_broken, node_large, some_large}
use Rattle.plan_keeps.proofs.Inputs.{AreLowered, IsLowered}
use Rattle.plan_keeps.proofs.Lists.{in_none}
use Rattle.plan_keeps.proofs.OneStep.{rows_of_tables}
use Rattle.plan_keeps.specs.Kept.{AreSmall, HasNumber, IsKeptCall, IsPartOf, IsPartOfSome, SomeHasNumber, number_of}
use native.Mathlib.Decide.{dec_le}
use mathlib.Core.Logic.{dite}

-- each node reads earlier ones
abbrev pub IsEarlier : Shape → Type 0
IsEarlier shape = EachNode shape (λ n p. AllByRecursion (λ (i : Stream). i.0 < n) p.inputs)

-- in each shape that goes on from there, over tables of it
abbrev pub Later : Functions → Shape → (Shape → (ℕ → Table) → Type 0) → Type 0
Later F nodes P = (shape more : Shape) → shape ≡ nodes ++ more → IsEarlier shape → (tables : ℕ → Table) → AreTablesOf F shape tables → P shape tables

pub sooner : (F : Functions) (a b more : Shape) (P : Shape → (ℕ → Table) → Type 0) → b ≡ a ++ more → Later F a P → Later F b P
sooner F a b more P e h shape rest is early tables given = h shape (more ++ rest) (is ∙ ap (λ (xs : Shape). xs ++ rest) e ∙ append_assoc a more rest) early tables given

-- a stream of a tree: its causes were made by nodes of the tree, and where what feeds it is large the tree is
pub record TellsOf (F : Functions) (shape : Shape) (tables : ℕ → Table) (n : ℕ) (t : PlanTree) : Type 0 where
  pub numbers : (c : Cause) → Contains (tables n).broken c → HasNumber c.node t
  pub sizes : (m : ℕ) → Feeds F shape m n → IsLargeAt F shape tables m → IsLarge F t

abbrev pub AllTell : Functions → Shape → (ℕ → Table) → List Stream → PlanTrees → Type 0
AllTell F shape tables [] no_trees = ⊤
AllTell F shape tables (s ∷ ss) (tree t ts) = TellsOf F shape tables s.0 t × AllTell F shape tables ss ts
AllTell F shape tables _ _ = ⊥

-- a node that was made for a tree's node
pub record IsOf (F : Functions) (shape : Shape) (tables : ℕ → Table) (n : ℕ) (u : PlanTree) : Type 0 where
  pub causes : (U : Table) (c : Cause) → PhysicalMayGive F shape tables n U → Contains U.broken c → c.node ≡ number_of u → IsBrokenBy F u c
  pub sizes : (m : ℕ) → Feeds F shape m n → IsLargeAt F shape tables m → IsLarge F u

pub record IsOwned (F : Functions) (nodes : Shape) (n : ℕ) (u : PlanTree) : Type 0 where
  pub origin : (p : PhysicalNode) → slice_get nodes n ≡ Some p → p.origin ≡ number_of u
  pub later : Later F nodes (λ shape tables. IsOf F shape tables n u)

owned_later : (F : Functions) (a b more : Shape) → b ≡ a ++ more → (n : ℕ) (u : PlanTree) → n < length a → IsOwned F a n u → IsOwned F b n u
owned_later F a b more e n u inside o = record { origin = λ p there. o.origin p (stood F a b more e n p inside there); later = sooner F a b more (λ shape tables. IsOf F shape tables n u) e o.later }

-- some choice serves the caches, and their streams tell of their inputs
pub record IsTold (F : Functions) (p : Progress) : Type 0 where
  pub able : Later F p.state.nodes (λ shape tables. (choice : Choice) × ServesCaches F tables p.cached choice)
  pub caches : (c : Cached) → Contains p.cached c → Later F p.state.nodes (λ shape tables. TellsOf F shape tables c.from c.input)

pub record Tells (F : Functions) (p : Progress) (t : PlanTree) (q : LoweredPlan) : Type 0 where
  pub told : IsTold F q.progress
  pub stream : Later F q.progress.state.nodes (λ shape tables. TellsOf F shape tables q.stream.0 t)
  pub nodes : (n : ℕ) → length p.state.nodes ≤ n → n < length q.progress.state.nodes → (u : PlanTree) × IsPartOf u t × IsOwned F q.progress.state.nodes n u

pub record TellAll (F : Functions) (p : Progress) (ts : PlanTrees) (q : LoweredPlans) : Type 0 where
  pub told : IsTold F q.progress
  pub streams : Later F q.progress.state.nodes (λ shape tables. AllTell F shape tables q.streams ts)
  pub nodes : (n : ℕ) → length p.state.nodes ≤ n → n < length q.progress.state.nodes → (u : PlanTree) × IsPartOfSome u ts × IsOwned F q.progress.state.nodes n u

-- what serves caches before serves them after
pub able_after : (F : Functions) (stored : ℕ → PlanTree) (p : Progress) (t : PlanTree) (q : LoweredPlan) → IsLowered F stored p t q → Later F p.state.nodes (λ shape tables. (choice : Choice) × ServesCaches F tables p.cached choice)
    → Later F q.progress.state.nodes (λ shape tables. (choice : Choice) × ServesCaches F tables q.progress.cached choice)
able_after F stored p t q low able shape more is early tables given =
    let c = sooner F p.state.nodes q.progress.state.nodes low.more (λ shape tables. (choice : Choice) × ServesCaches F tables p.cached choice) low.nodes able shape more is early tables given in
    let r = low.lowers shape more is tables given c.0 c.1 in
    (r.0, r.2)

-- nothing stands behind itself
pub none_behind : {A : Type 0} (a b : ℕ) → a ≤ b → b < a → A
none_behind a b low high = absurd (omega arith)

pub none_told : (F : Functions) (p : Progress) → IsTold F p → TellAll F p no_trees (record { progress = p; streams = [] })
none_told F p told = record { told = told; streams = λ shape more is early tables given. tt; nodes = λ n low high. none_behind (length p.state.nodes) n low high }

pub more_told : (F : Functions) (stored : ℕ → PlanTree) (p : Progress) (t : PlanTree) (ts : PlanTrees) (q : LoweredPlan) (r : LoweredPlans) → AreLowered F stored q.progress ts r → Tells F p t q → TellAll F q.progress ts r
    → TellAll F p (tree t ts) (record { progress = r.progress; streams = q.stream ∷ r.streams })
more_told F stored p t ts q r low first others =
    record {
      told = others.told;
      streams = λ shape more is early tables given.
          (sooner F q.progress.state.nodes r.progress.state.nodes low.more (λ shape tables. TellsOf F shape tables q.stream.0 t) low.nodes first.stream shape more is early tables given, others.streams shape more is early tables given);
      nodes = λ n behind within.
          dite (dec_le (suc n) (length q.progress.state.nodes))
          (λ inside. let u = first.nodes n behind inside in (u.0, inl u.1, owned_later F q.progress.state.nodes r.progress.state.nodes low.more low.nodes n u.0 inside u.2))
          (λ outside. let u = others.nodes n (omega arith) within in (u.0, inr u.1, u.2));
    }

-- causes of several streams
some_number : (F : Functions) (shape : Shape) (tables : ℕ → Table) (ss : List Stream) (ts : PlanTrees) → AllTell F shape tables ss ts → (c : Cause) → Contains (causes_of (tables_from tables ss)) c → SomeHasNumber c.node ts
some_number F shape tables [] no_trees all c h = absurd (in_none c h)
some_number F shape tables [] (tree t ts) all c h = absurd all
some_number F shape tables (s ∷ ss) no_trees all c h = absurd all
some_number F shape tables (s ∷ ss) (tree t ts) all c h = by (Contains-append_cases (tables s.0).broken (causes_of (tables_from tables ss)) c h) (some_number F shape tables ss ts all.1 c)
  where
    by : Contains (tables s.0).broken c ⊎ Contains (causes_of (tables_from tables ss)) c → (Contains (causes_of (tables_from tables ss)) c → SomeHasNumber c.node ts) → HasNumber c.node t ⊎ SomeHasNumber c.node ts
    by (inl k) more = inl (all.0.numbers c k)
    by (inr k) more = inr (more k)

-- what feeds one of several streams
some_sizes : (F : Functions) (shape : Shape) (tables : ℕ → Table) (ss : List Stream) (ts : PlanTrees) → AllTell F shape tables ss ts → (i : Stream) → Contains ss i → (m : ℕ) → Feeds F shape m i.0 → IsLargeAt F shape tables m → (choice : Choice) × IsAnyLarge F choice ts
some_sizes F shape tables [] ts all i h m feeds large = absurd (in_none i h)
some_sizes F shape tables (s ∷ ss) no_trees all i h m feeds large = absurd all
some_sizes F shape tables (s ∷ ss) (tree t ts) all i (zero, within, e) m feeds large =
    let l = all.0.sizes m (subst (λ (s : Stream). Feeds F shape m s.0) (sym e) feeds) large in
    (l.0, inl l.1)
some_sizes F shape tables (s ∷ ss) (tree t ts) all i (suc k, within, e) m feeds large =
    let l = some_sizes F shape tables ss ts all.1 i (k, omega arith, e) m feeds large in
    (l.0, inr l.1)

-- an item behind others
all_at : {A : Type 0} (P : A → Type 0) (xs : List A) (n : ℕ) (x : A) → AllByRecursion P xs → slice_get xs n ≡ Some x → P x
all_at P [] n x all e = cc
all_at P (y ∷ xs) zero x all e = subst P (same_Some y x e) all.0
all_at P (y ∷ xs) (suc n) x all e = all_at P xs n x all.1 e

in_all : {A : Type 0} (P : A → Type 0) (xs : List A) (x : A) → AllByRecursion P xs → Contains xs x → P x
in_all P [] x all h = absurd (in_none x h)
in_all P (y ∷ xs) x all (zero, within, e) = subst P e all.0
in_all P (y ∷ xs) x all (suc k, within, e) = in_all P xs x all.1 (k, omega arith, e)

-- what breaks a step over streams was made there, or below
step_number : (F : Functions) (shape : Shape) (tables : ℕ → Table) (ss : List Stream) (below : PlanTrees) → AllTell F shape tables ss below → (at : ℕ) (step : Step) (c : Cause) → IsCaseBrokenBy F at step (tables_from tables ss) c → HasNumber c.node (node at step below)
step_number F shape tables ss below all at step c (U, inl k, h) = by (of_case F at step (tables_from tables ss) U k c h)
  where
    by : (c.node ≡ at) ⊎ Contains (all_broken (tables_from tables ss)) c → HasNumber c.node (node at step below)
    by (inl e) = inl e
    by (inr k) = inr (some_number F shape tables ss below all c k)
step_number F shape tables ss below all at step c (U, inr g, h) = by (of_step F at step (tables_from tables ss) U g c h)
  where
    by : (c.node ≡ at) ⊎ Contains (all_broken (tables_from tables ss)) c → HasNumber c.node (node at step below)
    by (inl e) = inl e
    by (inr k) = inr (some_number F shape tables ss below all c k)

module _ (F : Functions) (stored : ℕ → PlanTree) (p : Progress) (at : ℕ) (step : Step) (schema : Fields) (below : PlanTrees) (chosen : (choice : Choice) (T : Table) → IsChosen choice step T) (apart : SomeHasNumber at below → ⊥) (r : LoweredPlans)
    (low : AreLowered F stored p below r) (before : IsTold F p) (tells : TellAll F p below r) (kept : IsKeptCall F at step schema (AreSmall F below) r) where
  abbrev u : PlanTree
  u = node at step below

  abbrev old_nodes : Shape
  old_nodes = r.progress.state.nodes

  abbrev new_nodes : Shape
  new_nodes = (stream_over F at step schema r).progress.state.nodes

  abbrev to : Stream
  to = (stream_over F at step schema r).stream

  made_new : (n : ℕ) (q : PhysicalNode) → length old_nodes ≤ n → slice_get new_nodes n ≡ Some q → IsMadeFor at old_nodes r.streams q
  made_new n q behind e = all_at (IsMadeFor at old_nodes r.streams) kept.more (n - length old_nodes) q kept.made (sym (slice_get-behind old_nodes kept.more n behind) ∙ sym (ap (λ (xs : Shape). slice_get xs n) kept.nodes) ∙ e)

  module _ (shape rest : Shape) (is : shape ≡ new_nodes ++ rest) (early : IsEarlier shape) (tables : ℕ → Table) (given : AreTablesOf F shape tables) where
    from : shape ≡ old_nodes ++ (kept.more ++ rest)
    from = is ∙ ap (λ (xs : Shape). xs ++ rest) kept.nodes ∙ append_assoc old_nodes kept.more rest

    abbrev ps : List Table
    ps = tables_from tables r.streams

    all_tell : AllTell F shape tables r.streams below
    all_tell = tells.streams shape (kept.more ++ rest) from early tables given

    inputs : (choice : Choice) × ((Ls : List Table) × AllMean F choice below Ls × AllEndAlike ps Ls)
    inputs =
        let c = sooner F p.state.nodes old_nodes low.more (λ shape tables. (choice : Choice) × ServesCaches F tables p.cached choice) low.nodes before.able shape (kept.more ++ rest) from early tables given in
        let b = low.lowers shape (kept.more ++ rest) from tables given c.0 c.1 in
        (b.0, b.3)

    none_large : AreSmall F below → SomeIsLarge ps → ⊥
    none_large small large = let ls = inputs.1 in small inputs.0 (some_large F inputs.0 below ps ls.0 ls.1 ls.2 large)

    means : EndsAsStep F at step ps (tables to.0) × ShowsOnlyStep F old_nodes new_nodes tables at step ps
    means = kept.meaning tables (restricted F new_nodes shape rest is tables given.0) (rows_of_tables F old_nodes shape (kept.more ++ rest) from tables given r.streams low.there) none_large

    is_large : IsLargeCase F at step ps ⊎ SomeIsLarge ps → IsLarge F u
    is_large h = let ls = inputs.1 in node_large F at step below chosen inputs.0 ps ls.0 ls.1 ls.2 h

    is_broken : (c : Cause) → c.node ≡ at → IsCaseBrokenBy F at step ps c → IsBrokenBy F u c
    is_broken c e h = let ls = inputs.1 in node_broken F at step below chosen inputs.0 ps ls.0 ls.1 ls.2 c (λ k. apart (subst (λ (n : ℕ). SomeHasNumber n below) e (some_number F shape tables r.streams below all_tell c k))) h

    from_input : (i : Stream) → Contains r.streams i → (m : ℕ) → Feeds F shape m i.0 → IsLargeAt F shape tables m → IsLarge F u
    from_input i h m feeds large = let l = some_sizes F shape tables r.streams below all_tell i h m feeds large in (l.0, inl l.1)

    read_large : (i : Stream) → (length old_nodes ≤ i.0) ⊎ Contains r.streams i → (length old_nodes ≤ i.0 → IsLarge F u) → (m : ℕ) → Feeds F shape m i.0 → IsLargeAt F shape tables m → IsLarge F u
    read_large i (inl behind) new m feeds large = new behind
    read_large i (inr h) new m feeds large = from_input i h m feeds large

    new_large : {m n : ℕ} → Feeds F shape m n → length old_nodes ≤ n → n < length new_nodes → IsLargeAt F shape tables m → IsLarge F u
    new_large (itself {n = n}) behind within large = is_large (means.1.sizes n behind within (large_earlier F new_nodes shape rest is tables n within large))
    new_large (through {m = j} {n = n} {k = m} q port there reads feeds) behind within large =
        let sooner : j < n = in_all (λ (i : Stream). i.0 < n) q.inputs (j, port) (early n q there) reads in
        read_large (j, port) ((made_new n q behind (stood F new_nodes shape rest is n q within there)).reads (j, port) reads) (λ b. new_large feeds b (omega arith) large) m feeds large

    is_of : (n : ℕ) → length old_nodes ≤ n → n < length new_nodes → IsOf F shape tables n u
    is_of n behind within =
        record {
          causes = λ U c may h e. is_broken c e (means.1.causes n U c behind within (given_earlier F new_nodes shape rest is tables n U within may) h);
          sizes = λ m feeds large. new_large feeds behind within large;
        }

    stream_tells : TellsOf F shape tables to.0 u
    stream_tells =
        record {
          numbers = λ c h. step_number F shape tables r.streams below all_tell at step c (means.0.causes c h);
          sizes = λ m feeds large. read_large to kept.fed (λ behind. new_large feeds behind kept.there large) m feeds large;
        }

  pub step_tells : Tells F p u (stream_over F at step schema r)
  step_tells =
      record {
        told =
            record {
              able = sooner F old_nodes new_nodes kept.more (λ shape tables. (choice : Choice) × ServesCaches F tables r.progress.cached choice) kept.nodes tells.told.able;
              caches = λ c h. sooner F old_nodes new_nodes kept.more (λ shape tables. TellsOf F shape tables c.from c.input) kept.nodes (tells.told.caches c h);
            };
        stream = stream_tells;
        nodes = λ n behind within.
            dite (dec_le (suc n) (length old_nodes))
            (λ inside. let v = tells.nodes n behind inside in (v.0, inr v.1, owned_later F old_nodes new_nodes kept.more kept.nodes n v.0 inside v.2))
            (λ outside. let behind' : length old_nodes ≤ n = omega arith in (u, inl refl, record { origin = λ q there. (made_new n q behind' there).origin; later = λ shape rest is early tables given. is_of shape rest is early tables given n behind' within }));
      }

-- of one plan alone
pub one_told : (F : Functions) (p : Progress) (t : PlanTree) (q : LoweredPlan) → TellAll F p (tree t no_trees) (record { progress = q.progress; streams = q.stream ∷ [] }) → Tells F p t q
one_told F p t q all =
    record {
      told = all.told;
      stream = λ shape more is early tables given. (all.streams shape more is early tables given).0;
      nodes = λ n behind within. by n (all.nodes n behind within);
    }
  where
    only : (u : PlanTree) → IsPartOfSome u (tree t no_trees) → IsPartOf u t
    only u (inl h) = h
    only u (inr h) = absurd h

    by : (n : ℕ) → (u : PlanTree) × IsPartOfSome u (tree t no_trees) × IsOwned F q.progress.state.nodes n u → (u : PlanTree) × IsPartOf u t × IsOwned F q.progress.state.nodes n u
    by n (u, part, o) = (u, only u part, o)
