-- What the nodes of a lowered plan tell, unless some table is large: whose they are, which causes they show there, and when they are large.
use Rattle.std.proofs.Common.{◌≡◌, ℕ, zero, suc, ◌+◌, ◌-◌, ◌<◌, ◌≤◌, ◌⊎◌, List, [], ◌∷◌, ◌++◌, length, Some, refl, sym, ap, subst, ◌∙◌, inl, inr, arith}
use Rattle.std.proofs.lemmas.List.{append_assoc}
use Rattle.std.proofs.lemmas.List.Elements.{Contains-append_cases}
use Rattle.std.proofs.lemmas.Option.{same_Some}
use Rattle.std.specs.Prelude.{Contains, slice_get, ⊤}
use Rattle.std.specs.List.{AllByRecursion}
use Rattle.origin_laws.proofs.Sources.{of_case, of_step}
use Rattle.origin_laws.specs.Origins.{all_broken}
use Rattle.ps_frame.proofs.Seams.{slice_get-behind}
use Rattle.ps_frame.specs.Causes.{Cause}
use Rattle.ps_frame.specs.Functions.{Functions, IsLawful}
use Rattle.ps_frame.specs.Tables.{Fields, Table}
use Rattle.ps_meaning.specs.Cases.{Case, GivesBeforeCut, IsCaseBrokenBy}
use Rattle.ps_meaning.specs.Meaning.{AllMean, Choice, IsAnyLarge, IsBrokenBy, IsChosen, IsLarge, IsLargeCase, by_case}
use Rattle.ps_meaning.specs.PlanTrees.{PlanTree, PlanTrees, no_trees, node, tree}
use Rattle.ps_meaning.specs.Shape.{Feeds, IsLargeAt, PhysicalMayGive, PhysicalNode, Shape, itself, through}
use Rattle.ps_meaning.specs.Steps.{Step}
use Rattle.ps_plan.specs.Lowering.{AreTablesOf, Cached}
use Rattle.within_plans.specs.Within.{AllMet, IsWithinCall, ServesWithin}
use Rattle.plan_laws.specs.Laws.{AllEndAlike, causes_of}
use Rattle.ps_rules.specs.Slots.{Stream}
use Rattle.plan_rules.specs.Plans.{LoweredPlan, LoweredPlans, Progress, stream_over}
use Rattle.step_keeps.specs.Kept.{EndsAsStep, IsMadeFor, ShowsOnlyStep, SomeIsLarge, tables_from}
use Rattle.step_keeps.proofs.Added.{given_earlier, large_earlier, restricted, stood}
use Rattle.plan_keeps.proofs.Alike.{node_large}
use Rattle.plan_keeps.proofs.Told.{IsEarlier, Later, none_behind, sooner}
use Rattle.plan_laws.proofs.AlikeSteps.{befores-keep, steps-keep}
use Rattle.within_plans.proofs.Inputs.{AreLowered, IsLowered}
use Rattle.plan_keeps.proofs.Lists.{in_none}
use Rattle.plan_keeps.proofs.OneStep.{rows_of_tables}
use Rattle.within_plans.proofs.OneStep.{known}
use Rattle.plan_keeps.specs.Kept.{HasNumber, IsPartOf, IsPartOfSome, SomeHasNumber, number_of}
use native.Mathlib.Decide.{dec_le}
use mathlib.Core.Logic.{dite}

-- a stream of a tree: its causes were made by nodes of the tree, or something there is large; and where what feeds it is large the tree is
pub record TellsOf (F : Functions) (shape : Shape) (tables : ℕ → Table) (n : ℕ) (t : PlanTree) : Type 0 where
  pub numbers : (c : Cause) → Contains (tables n).broken c → HasNumber c.node t ⊎ IsLarge F t
  pub sizes : (m : ℕ) → Feeds F shape m n → IsLargeAt F shape tables m → IsLarge F t

abbrev pub AllTell : Functions → Shape → (ℕ → Table) → List Stream → PlanTrees → Type 0
AllTell F shape tables [] no_trees = ⊤
AllTell F shape tables (s ∷ ss) (tree t ts) = TellsOf F shape tables s.0 t × AllTell F shape tables ss ts
AllTell F shape tables _ _ = ⊥

-- a node that was made for a tree's node
pub record IsOf (F : Functions) (shape : Shape) (tables : ℕ → Table) (n : ℕ) (u : PlanTree) : Type 0 where
  pub causes : (U : Table) (c : Cause) → PhysicalMayGive F shape tables n U → Contains U.broken c → c.node ≡ number_of u → IsBrokenBy F u c ⊎ IsLarge F u
  pub sizes : (m : ℕ) → Feeds F shape m n → IsLargeAt F shape tables m → IsLarge F u

pub record IsOwned (F : Functions) (nodes : Shape) (n : ℕ) (u : PlanTree) : Type 0 where
  pub origin : (p : PhysicalNode) → slice_get nodes n ≡ Some p → p.origin ≡ number_of u
  pub later : Later F nodes (λ shape tables. IsOf F shape tables n u)

owned_later : (F : Functions) (a b more : Shape) → b ≡ a ++ more → (n : ℕ) (u : PlanTree) → n < length a → IsOwned F a n u → IsOwned F b n u
owned_later F a b more e n u inside o = record { origin = λ p there. o.origin p (stood F a b more e n p inside there); later = sooner F a b more (λ shape tables. IsOf F shape tables n u) e o.later }

-- some choice serves the caches, and their streams tell of their inputs
pub record IsTold (F : Functions) (p : Progress) : Type 0 where
  pub able : Later F p.state.nodes (λ shape tables. (choice : Choice) × ServesWithin F tables p.cached choice)
  pub caches : (c : Cached) → Contains p.cached c → Later F p.state.nodes (λ shape tables. TellsOf F shape tables c.from c.input)

pub record Tells (F : Functions) (p : Progress) (t : PlanTree) (q : LoweredPlan) : Type 0 where
  pub told : IsTold F q.progress
  pub stream : Later F q.progress.state.nodes (λ shape tables. TellsOf F shape tables q.stream.0 t)
  pub nodes : (n : ℕ) → length p.state.nodes ≤ n → n < length q.progress.state.nodes → (u : PlanTree) × IsPartOf u t × IsOwned F q.progress.state.nodes n u

pub record TellAll (F : Functions) (p : Progress) (ts : PlanTrees) (q : LoweredPlans) : Type 0 where
  pub told : IsTold F q.progress
  pub streams : Later F q.progress.state.nodes (λ shape tables. AllTell F shape tables q.streams ts)
  pub nodes : (n : ℕ) → length p.state.nodes ≤ n → n < length q.progress.state.nodes → (u : PlanTree) × IsPartOfSome u ts × IsOwned F q.progress.state.nodes n u

-- what serves caches before serves them after
pub able_after : (F : Functions) (stored : ℕ → PlanTree) (p : Progress) (t : PlanTree) (q : LoweredPlan) → IsLowered F stored p t q → Later F p.state.nodes (λ shape tables. (choice : Choice) × ServesWithin F tables p.cached choice)
    → Later F q.progress.state.nodes (λ shape tables. (choice : Choice) × ServesWithin F tables q.progress.cached choice)
able_after F stored p t q low able shape more is early tables given =
    let c = sooner F p.state.nodes q.progress.state.nodes low.more (λ shape tables. (choice : Choice) × ServesWithin F tables p.cached choice) low.nodes able shape more is early tables given in
    let r = low.lowers shape more is tables given c.0 c.1 in
    (r.0, r.2)

pub none_told : (F : Functions) (p : Progress) → IsTold F p → TellAll F p no_trees (record { progress = p; streams = [] })
none_told F p told = record { told = told; streams = λ shape more is early tables given. tt; nodes = λ n low high. none_behind (length p.state.nodes) n low high }

pub more_told : (F : Functions) (stored : ℕ → PlanTree) (p : Progress) (t : PlanTree) (ts : PlanTrees) (q : LoweredPlan) (r : LoweredPlans) → AreLowered F stored q.progress ts r → Tells F p t q → TellAll F q.progress ts r
    → TellAll F p (tree t ts) (record { progress = r.progress; streams = q.stream ∷ r.streams })
more_told F stored p t ts q r low first others =
    record {
      told = others.told;
      streams = λ shape more is early tables given.
          (sooner F q.progress.state.nodes r.progress.state.nodes low.more (λ shape tables. TellsOf F shape tables q.stream.0 t) low.nodes first.stream shape more is early tables given, others.streams shape more is early tables given);
      nodes = λ n behind within.
          dite (dec_le (suc n) (length q.progress.state.nodes))
          (λ inside. let u = first.nodes n behind inside in (u.0, inl u.1, owned_later F q.progress.state.nodes r.progress.state.nodes low.more low.nodes n u.0 inside u.2))
          (λ outside. let u = others.nodes n (omega arith) within in (u.0, inr u.1, u.2));
    }

-- something at or under these trees is large
abbrev AreLarge : Functions → PlanTrees → Type 0
AreLarge F ts = (choice : Choice) × IsAnyLarge F choice ts

-- causes of several streams
some_number : (F : Functions) (shape : Shape) (tables : ℕ → Table) (ss : List Stream) (ts : PlanTrees) → AllTell F shape tables ss ts → (c : Cause) → Contains (causes_of (tables_from tables ss)) c → SomeHasNumber c.node ts ⊎ AreLarge F ts
some_number F shape tables [] no_trees all c h = absurd (in_none c h)
some_number F shape tables [] (tree t ts) all c h = absurd all
some_number F shape tables (s ∷ ss) no_trees all c h = absurd all
some_number F shape tables (s ∷ ss) (tree t ts) all c h = by (Contains-append_cases (tables s.0).broken (causes_of (tables_from tables ss)) c h) (some_number F shape tables ss ts all.1 c)
  where
    first : HasNumber c.node t ⊎ IsLarge F t → SomeHasNumber c.node (tree t ts) ⊎ AreLarge F (tree t ts)
    first (inl n) = inl (inl n)
    first (inr l) = inr (l.0, inl l.1)

    others : SomeHasNumber c.node ts ⊎ AreLarge F ts → SomeHasNumber c.node (tree t ts) ⊎ AreLarge F (tree t ts)
    others (inl n) = inl (inr n)
    others (inr l) = inr (l.0, inr l.1)

    by : Contains (tables s.0).broken c ⊎ Contains (causes_of (tables_from tables ss)) c → (Contains (causes_of (tables_from tables ss)) c → SomeHasNumber c.node ts ⊎ AreLarge F ts) → SomeHasNumber c.node (tree t ts) ⊎ AreLarge F (tree t ts)
    by (inl k) more = first (all.0.numbers c k)
    by (inr k) more = others (more k)

-- what feeds one of several streams
some_sizes : (F : Functions) (shape : Shape) (tables : ℕ → Table) (ss : List Stream) (ts : PlanTrees) → AllTell F shape tables ss ts → (i : Stream) → Contains ss i → (m : ℕ) → Feeds F shape m i.0 → IsLargeAt F shape tables m → (choice : Choice) × IsAnyLarge F choice ts
some_sizes F shape tables [] ts all i h m feeds large = absurd (in_none i h)
some_sizes F shape tables (s ∷ ss) no_trees all i h m feeds large = absurd all
some_sizes F shape tables (s ∷ ss) (tree t ts) all i (zero, within, e) m feeds large =
    let l = all.0.sizes m (subst (λ (s : Stream). Feeds F shape m s.0) (sym e) feeds) large in
    (l.0, inl l.1)
some_sizes F shape tables (s ∷ ss) (tree t ts) all i (suc k, within, e) m feeds large =
    let l = some_sizes F shape tables ss ts all.1 i (k, omega arith, e) m feeds large in
    (l.0, inr l.1)

-- an item behind others
all_at : {A : Type 0} (P : A → Type 0) (xs : List A) (n : ℕ) (x : A) → AllByRecursion P xs → slice_get xs n ≡ Some x → P x
all_at P [] n x all e = cc
all_at P (y ∷ xs) zero x all e = subst P (same_Some y x e) all.0
all_at P (y ∷ xs) (suc n) x all e = all_at P xs n x all.1 e

in_all : {A : Type 0} (P : A → Type 0) (xs : List A) (x : A) → AllByRecursion P xs → Contains xs x → P x
in_all P [] x all h = absurd (in_none x h)
in_all P (y ∷ xs) x all (zero, within, e) = subst P e all.0
in_all P (y ∷ xs) x all (suc k, within, e) = in_all P xs x all.1 (k, omega arith, e)

-- what breaks a step over streams was made there, or below
step_number : (F : Functions) (shape : Shape) (tables : ℕ → Table) (ss : List Stream) (below : PlanTrees) → AllTell F shape tables ss below → (at : ℕ) (step : Step) (c : Cause) → IsCaseBrokenBy F at step (tables_from tables ss) c
    → HasNumber c.node (node at step below) ⊎ IsLarge F (node at step below)
step_number F shape tables ss below all at step c broken = by broken
  where
    under : SomeHasNumber c.node below ⊎ AreLarge F below → HasNumber c.node (node at step below) ⊎ IsLarge F (node at step below)
    under (inl n) = inl (inr n)
    under (inr l) = inr (l.0, inl l.1)

    parts : (c.node ≡ at) ⊎ Contains (all_broken (tables_from tables ss)) c → HasNumber c.node (node at step below) ⊎ IsLarge F (node at step below)
    parts (inl e) = inl (inl e)
    parts (inr k) = under (some_number F shape tables ss below all c k)

    by : IsCaseBrokenBy F at step (tables_from tables ss) c → HasNumber c.node (node at step below) ⊎ IsLarge F (node at step below)
    by (U, inl k, h) = parts (of_case F at step (tables_from tables ss) U k c h)
    by (U, inr g, h) = parts (of_step F at step (tables_from tables ss) U g c h)

-- a cause that breaks a step over tables breaks it over tables that end alike, or is one of theirs
breaks_or : (F : Functions) (at : ℕ) (step : Step) (ps ls : List Table) (c : Cause) → AllEndAlike ps ls → IsCaseBrokenBy F at step ps c → IsCaseBrokenBy F at step ls c ⊎ Contains (causes_of ps) c
breaks_or F at step ps ls c a (U, inl k, h) = let r = steps-keep F at step ps ls U a k in by r.0 r.1 (r.3 c h)
  where
    by : (K : Table) → Case F at step ls K → Contains K.broken c ⊎ Contains (causes_of ps) c → IsCaseBrokenBy F at step ls c ⊎ Contains (causes_of ps) c
    by K k (inl m) = inl (K, inl k, m)
    by K k (inr m) = inr m
breaks_or F at step ps ls c a (U, inr g, h) = let r = befores-keep F at step ps ls U a g in by r.0 r.1 (r.3 c h)
  where
    by : (K : Table) → GivesBeforeCut F at step ls K → Contains K.broken c ⊎ Contains (causes_of ps) c → IsCaseBrokenBy F at step ls c ⊎ Contains (causes_of ps) c
    by K k (inl m) = inl (K, inr k, m)
    by K k (inr m) = inr m

module _ (F : Functions) (lawful : IsLawful F) (stored : ℕ → PlanTree) (p : Progress) (at : ℕ) (step : Step) (schema : Fields) (below : PlanTrees) (chosen : (choice : Choice) (T : Table) → IsChosen choice step T) (apart : SomeHasNumber at below → ⊥) (r : LoweredPlans)
    (low : AreLowered F stored p below r) (before : IsTold F p) (tells : TellAll F p below r) (kept : IsWithinCall F at step schema r) where
  abbrev u : PlanTree
  u = node at step below

  abbrev old_nodes : Shape
  old_nodes = r.progress.state.nodes

  abbrev new_nodes : Shape
  new_nodes = (stream_over F at step schema r).progress.state.nodes

  abbrev to : Stream
  to = (stream_over F at step schema r).stream

  made_new : (n : ℕ) (q : PhysicalNode) → length old_nodes ≤ n → slice_get new_nodes n ≡ Some q → IsMadeFor at old_nodes r.streams q
  made_new n q behind e = all_at (IsMadeFor at old_nodes r.streams) kept.more (n - length old_nodes) q kept.made (sym (slice_get-behind old_nodes kept.more n behind) ∙ sym (ap (λ (xs : Shape). slice_get xs n) kept.nodes) ∙ e)

  module _ (shape rest : Shape) (is : shape ≡ new_nodes ++ rest) (early : IsEarlier shape) (tables : ℕ → Table) (given : AreTablesOf F shape tables) where
    from : shape ≡ old_nodes ++ (kept.more ++ rest)
    from = is ∙ ap (λ (xs : Shape). xs ++ rest) kept.nodes ∙ append_assoc old_nodes kept.more rest

    abbrev ps : List Table
    ps = tables_from tables r.streams

    all_tell : AllTell F shape tables r.streams below
    all_tell = tells.streams shape (kept.more ++ rest) from early tables given

    inputs : (choice : Choice) × ((Ls : List Table) × AllMean F choice below Ls × AllMet F below ps Ls)
    inputs =
        let c = sooner F p.state.nodes old_nodes low.more (λ shape tables. (choice : Choice) × ServesWithin F tables p.cached choice) low.nodes before.able shape (kept.more ++ rest) from early tables given in
        let b = low.lowers shape (kept.more ++ rest) from tables given c.0 c.1 in
        (b.0, b.3)

    abbrev choice : Choice
    choice = inputs.0

    abbrev Ls : List Table
    Ls = inputs.1.0

    ms : AllMean F choice below Ls
    ms = inputs.1.1

    -- the step is kept over tables that end as those of its inputs, or something is large
    means : (AllEndAlike ps Ls × (EndsAsStep F at step ps (tables to.0) × ShowsOnlyStep F old_nodes new_nodes tables at step ps)) ⊎ IsLarge F u
    means =
        known F lawful at step below choice ps Ls ms inputs.1.2 (tables to.0) (ShowsOnlyStep F old_nodes new_nodes tables at step ps)
        (kept.kept tables (restricted F new_nodes shape rest is tables given.0) (rows_of_tables F old_nodes shape (kept.more ++ rest) from tables given r.streams low.there))

    is_large : AllEndAlike ps Ls → IsLargeCase F at step ps ⊎ SomeIsLarge ps → IsLarge F u
    is_large alike h = node_large F at step below chosen choice ps Ls ms alike h

    is_broken : AllEndAlike ps Ls → (c : Cause) → c.node ≡ at → IsCaseBrokenBy F at step ps c → IsBrokenBy F u c ⊎ IsLarge F u
    is_broken alike c e h = by (breaks_or F at step ps Ls c alike h)
      where
        of_input : SomeHasNumber c.node below ⊎ AreLarge F below → IsBrokenBy F u c ⊎ IsLarge F u
        of_input (inl n) = absurd (apart (subst (λ (n : ℕ). SomeHasNumber n below) e n))
        of_input (inr l) = inr (l.0, inl l.1)

        by : IsCaseBrokenBy F at step Ls c ⊎ Contains (causes_of ps) c → IsBrokenBy F u c ⊎ IsLarge F u
        by (inl (K, inl k, q)) = inl (choice, K, inl (by_case ms k (chosen choice K)), q)
        by (inl (K, inr b, q)) = inl (choice, K, inr (Ls, ms, b, chosen choice K), q)
        by (inr q) = of_input (some_number F shape tables r.streams below all_tell c q)

    from_input : (i : Stream) → Contains r.streams i → (m : ℕ) → Feeds F shape m i.0 → IsLargeAt F shape tables m → IsLarge F u
    from_input i h m feeds large = let l = some_sizes F shape tables r.streams below all_tell i h m feeds large in (l.0, inl l.1)

    read_large : (i : Stream) → (length old_nodes ≤ i.0) ⊎ Contains r.streams i → (length old_nodes ≤ i.0 → IsLarge F u) → (m : ℕ) → Feeds F shape m i.0 → IsLargeAt F shape tables m → IsLarge F u
    read_large i (inl behind) new m feeds large = new behind
    read_large i (inr h) new m feeds large = from_input i h m feeds large

    abbrev IsKept : Type 0
    IsKept = AllEndAlike ps Ls × (EndsAsStep F at step ps (tables to.0) × ShowsOnlyStep F old_nodes new_nodes tables at step ps)

    new_large : IsKept → {m n : ℕ} → Feeds F shape m n → length old_nodes ≤ n → n < length new_nodes → IsLargeAt F shape tables m → IsLarge F u
    new_large k (itself {n = n}) behind within large = is_large k.0 (k.1.1.sizes n behind within (large_earlier F new_nodes shape rest is tables n within large))
    new_large k (through {m = j} {n = n} {k = m} q port there reads feeds) behind within large =
        let sooner : j < n = in_all (λ (i : Stream). i.0 < n) q.inputs (j, port) (early n q there) reads in
        read_large (j, port) ((made_new n q behind (stood F new_nodes shape rest is n q within there)).reads (j, port) reads) (λ b. new_large k feeds b (omega arith) large) m feeds large

    is_of : (n : ℕ) → length old_nodes ≤ n → n < length new_nodes → IsOf F shape tables n u
    is_of n behind within = by means
      where
        by : IsKept ⊎ IsLarge F u → IsOf F shape tables n u
        by (inr l) = record { causes = λ U c may h e. inr l; sizes = λ m feeds large. l }
        by (inl k) =
            record {
              causes = λ U c may h e. is_broken k.0 c e (k.1.1.causes n U c behind within (given_earlier F new_nodes shape rest is tables n U within may) h);
              sizes = λ m feeds large. new_large k feeds behind within large;
            }

    stream_tells : TellsOf F shape tables to.0 u
    stream_tells = by means
      where
        by : IsKept ⊎ IsLarge F u → TellsOf F shape tables to.0 u
        by (inr l) = record { numbers = λ c h. inr l; sizes = λ m feeds large. l }
        by (inl k) =
            record {
              numbers = λ c h. step_number F shape tables r.streams below all_tell at step c (k.1.0.causes c h);
              sizes = λ m feeds large. read_large to kept.fed (λ behind. new_large k feeds behind kept.there large) m feeds large;
            }

  pub step_tells : Tells F p u (stream_over F at step schema r)
  step_tells =
      record {
        told =
            record {
              able = sooner F old_nodes new_nodes kept.more (λ shape tables. (choice : Choice) × ServesWithin F tables r.progress.cached choice) kept.nodes tells.told.able;
              caches = λ c h. sooner F old_nodes new_nodes kept.more (λ shape tables. TellsOf F shape tables c.from c.input) kept.nodes (tells.told.caches c h);
            };
        stream = stream_tells;
        nodes = λ n behind within.
            dite (dec_le (suc n) (length old_nodes))
            (λ inside. let v = tells.nodes n behind inside in (v.0, inr v.1, owned_later F old_nodes new_nodes kept.more kept.nodes n v.0 inside v.2))
            (λ outside. let behind' : length old_nodes ≤ n = omega arith in (u, inl refl, record { origin = λ q there. (made_new n q behind' there).origin; later = λ shape rest is early tables given. is_of shape rest is early tables given n behind' within }));
      }

-- of one plan alone
pub one_told : (F : Functions) (p : Progress) (t : PlanTree) (q : LoweredPlan) → TellAll F p (tree t no_trees) (record { progress = q.progress; streams = q.stream ∷ [] }) → Tells F p t q
one_told F p t q all =
    record {
      told = all.told;
      stream = λ shape more is early tables given. (all.streams shape more is early tables given).0;
      nodes = λ n behind within. by n (all.nodes n behind within);
    }
  where
    only : (u : PlanTree) → IsPartOfSome u (tree t no_trees) → IsPartOf u t
    only u (inl h) = h
    only u (inr h) = absurd h

    by : (n : ℕ) → (u : PlanTree) × IsPartOfSome u (tree t no_trees) × IsOwned F q.progress.state.nodes n u → (u : PlanTree) × IsPartOf u t × IsOwned F q.progress.state.nodes n u
    by n (u, part, o) = (u, only u part, o)
