-- What makes a table: what is kept of it, and how that goes on while its inputs stay or grow.
use Rattle.std.proofs.Common.{◌≡◌, ℕ, suc, ◌⊎◌, Bool, true, false, cond, List, [], ◌∷◌, length, Option, Some, None, refl, sym, ap, subst, ◌∙◌, inl, inr, arith}
use Rattle.std.specs.Prelude.{Contains, get_or, map, nat_eq, slice_get, ◌+◌}
use Rattle.ps_frame.specs.Functions.{Functions}
use Rattle.ps_frame.specs.Tables.{Fields, Row}
use Rattle.ps_meaning.specs.Shape.{PhysicalCase, PhysicalKind, PhysicalNode, in_memory_join, in_memory_map, negative_slice}
use Rattle.ps_options.specs.declared.options.Options.{Options}
use Rattle.ps_turns.specs.Claims.{Claim, Next, claim_by, of_made, of_own}
use Rattle.ps_turns.specs.Cuts.{cut_of_source, is_exhausted}
use Rattle.ps_turns.specs.Ends.{HoldsEnd}
use Rattle.ps_turns.specs.Heads.{Head, stored_rows}
use Rattle.ps_turns.specs.Progress.{Progress, Stage, giving, is_giving, makes_table, spent, taking}
use Rattle.ps_turns.specs.Tables.{whole_tables}
use Rattle.ps_turns.specs.Tasks.{Piece, hands_on}
use Rattle.ps_turns.specs.Updates.{exhausted_rows, has_given_all}
use Rattle.ps_world.specs.Claims.{claim_at, inputs_in_phase, next_morsel}
use Rattle.ps_world.specs.Facts.{Facts}
use Rattle.ps_world.specs.World.{Node, Pipe, World, heads_of, inputs_done, pipes_in, rows_in_order, schemas_for, shape_of}
use Rattle.world_claims.specs.Numbering.{counts_own}
use Rattle.world_families.proofs.Members.{nothing_is}
use Rattle.world_families.specs.Keepers.{IsMadeOfAll, StoresAll, Stores}
use Rattle.world_families.specs.Sources.{HasGivenAll, KeepsNone, cut_work}
use Rattle.world_families.specs.Work.{AllComplete, Enters, Gives, IsComplete, Leaves, Work, asked_by, rows_read, rows_received, work_of}
use Rattle.family_pipes.proofs.Inputs.{enters, inputs_long}
use Rattle.family_pipes.proofs.Outputs.{MayCome, Onto, gives_keep, was_complete}
use Rattle.family_pipes.proofs.SourceSteps.{HasClaim, IsClaimed, StepOf}
use Rattle.family_keeps.proofs.Unions.{same_schemas}
use Rattle.orderly_worlds.proofs.ReadRows.{ReadsOn}
use Rattle.node_keeps.proofs.SameTurn.{SameTurn}
use Rattle.keeper_laws.proofs.Says.{IsKeeper, given_same}
use Rattle.keeper_laws.proofs.Turn.{KeepsTurn}

-- maps, in-memory joins and slices from the end
abbrev pub IsMaker : PhysicalKind → Type 0
IsMaker kind = makes_table kind ≡ true

pub keeps : (kind : PhysicalKind) → IsMaker kind → IsKeeper kind
keeps (in_memory_map step) m = refl
keeps (in_memory_join j) m = refl
keeps (negative_slice back n) m = refl
keeps kind m = absurd (let no : false ≡ true = m in cc)

pub counts : (kind : PhysicalKind) → IsMaker kind → counts_own kind ≡ true
counts (in_memory_map step) m = refl
counts (in_memory_join j) m = refl
counts (negative_slice back n) m = refl
counts kind m = absurd (let no : false ≡ true = m in cc)

-- the work of a number: a cut of what was made
abbrev pub MadeWork : Options → PhysicalNode → Option (List Row) → ℕ → Work → Type 0
MadeWork o p made k x = (rows : List Row) × (made ≡ Some rows) × (x ≡ cut_work o p.schema rows k)

pub record KeepsMade (F : Functions) (w : World) (n : ℕ) (node : Node) : Type 0 where
  pub turn : KeepsTurn w n node
  pub long : length node.progress.stores ≡ length node.node.inputs
  pub stores : StoresAll w n node
  pub made : (rows : List Row) → node.progress.made ≡ Some rows → IsMadeOfAll F w n node rows
  pub gives : Gives F w n (MadeWork w.options node.node node.progress.made) KeepsNone (HasGivenAll w node)

-- ITS CLAIM
pub record ClaimsMade (o : Options) (p : PhysicalNode) (kind : PhysicalKind) (a : Progress) (c : Claim) : Type 0 where
  pub gives : is_giving a.stage ≡ true
  pub work : MadeWork o p a.made c.gives (asked_by c)
  pub more : has_given_all o kind a ≡ false
  pub progress : c.progress ≡ record a { sent = a.sent + 1 }
  pub takes : c.takes_morsel ≡ false

of_cut : (o : Options) (p : PhysicalNode) (kind : PhysicalKind) (a : Progress) (rs : List Row) (c : Claim) (ss : List Fields) → is_giving a.stage ≡ true → a.made ≡ Some rs → has_given_all o kind a ≡ is_exhausted o rs a.sent → (b : Bool) → is_exhausted o rs a.sent ≡ b
    → cond b None (Some (of_own o p ss a hands_on (p.schema ∷ []) (cut_of_source o rs a.sent ∷ []))) ≡ Some c → ClaimsMade o p kind a c
of_cut o p kind a rs c ss g m all true e q = absurd (nothing_is c q)
of_cut o p kind a rs c ss g m all false e q =
    let x = of_own o p ss a hands_on (p.schema ∷ []) (cut_of_source o rs a.sent ∷ []) in
    let is : x ≡ c = (let r : Some x ≡ Some c = q in cc) in
    subst (ClaimsMade o p kind a) is (record { gives = g; work = (rs, m, refl); more = all ∙ e; progress = refl; takes = refl })

from_made : (o : Options) (p : PhysicalNode) (kind : PhysicalKind) (a : Progress) (c : Claim) (ss : List Fields) → has_given_all o kind a ≡ exhausted_rows o a.sent a.made → (b : Bool) (st : Stage) (rows : Option (List Row)) → a.stage ≡ st → a.made ≡ rows → cond b (of_made o p ss a st rows) None ≡ Some c → ClaimsMade o p kind a c
from_made o p kind a c ss all true giving (Some rs) s m q = of_cut o p kind a rs c ss (ap is_giving s) m (all ∙ ap (exhausted_rows o a.sent) m) (is_exhausted o rs a.sent) refl q
from_made o p kind a c ss all true giving None s m q = absurd (nothing_is c q)
from_made o p kind a c ss all true taking rows s m q = absurd (nothing_is c q)
from_made o p kind a c ss all true spent rows s m q = absurd (nothing_is c q)
from_made o p kind a c ss all false st rows s m q = absurd (nothing_is c q)

pub maker_claims : (o : Options) (p : PhysicalNode) (ss : List Fields) (a : Progress) (hs : List Head) (ds : List Bool) (i : ℕ) (next : Next) (c : Claim) (kind : PhysicalKind) → IsMaker kind → claim_by o p ss kind a hs ds i next ≡ Some c → ClaimsMade o p kind a c
maker_claims o p ss a hs ds i next c (in_memory_map step) m q = from_made o p (in_memory_map step) a c ss refl (nat_eq i 0) a.stage a.made refl refl q
maker_claims o p ss a hs ds i next c (in_memory_join j) m q = from_made o p (in_memory_join j) a c ss refl (nat_eq i 0) a.stage a.made refl refl q
maker_claims o p ss a hs ds i next c (negative_slice back n) m q = from_made o p (negative_slice back n) a c ss refl (nat_eq i 0) a.stage a.made refl refl q
maker_claims o p ss a hs ds i next c kind m q = absurd (let no : false ≡ true = m in cc)

pub claim_is : (w : World) (n i : ℕ) (node : Node) (c : Claim) → IsMaker node.node.kind → claim_at w n i node ≡ Some c → ClaimsMade w.options node.node node.node.kind node.progress c
claim_is w n i node c m e = maker_claims w.options node.node (schemas_for w node) node.progress (heads_of w n node) (inputs_done w n) i (next_morsel (inputs_in_phase w n i)) c node.node.kind m e

-- who sent nothing didn't give all
none_sent : (o : Options) (k : ℕ) (rows : Option (List Row)) → k ≡ 0 → exhausted_rows o k rows ≡ false
none_sent o k None e = refl
none_sent o k (Some rs) e = ap (λ j. is_exhausted o rs j) e

pub not_given : (o : Options) (kind : PhysicalKind) (a : Progress) → IsMaker kind → a.sent ≡ 0 → has_given_all o kind a ≡ false
not_given o (in_memory_map step) a m e = none_sent o a.sent a.made e
not_given o (in_memory_join j) a m e = none_sent o a.sent a.made e
not_given o (negative_slice back n) a m e = none_sent o a.sent a.made e
not_given o kind a m e = absurd (let no : false ≡ true = m in cc)

-- WHAT WAS MADE, WHILE COMPLETE INPUTS STAY
abbrev pub InputsStay : World → World → ℕ → Type 0
InputsStay w v n = (q : Pipe) → Enters v n q → (x : Pipe) × Enters w n x × (q.wire.input ≡ x.wire.input) × (IsComplete x → IsComplete q × (q.got ≡ x.got))

pub map_same : {A B : Type 0} (f g : A → B) (xs ys : List A) → length xs ≡ length ys → ((k : ℕ) (x y : A) → slice_get xs k ≡ Some x → slice_get ys k ≡ Some y → f y ≡ g x) → map f ys ≡ map g xs
map_same f g [] [] e h = refl
map_same f g [] (y ∷ ys) e h = absurd (omega arith)
map_same f g (x ∷ xs) [] e h = absurd (omega arith)
map_same f g (x ∷ xs) (y ∷ ys) e h = let first = h 0 x y refl refl in let rest = map_same f g xs ys (omega arith) (λ k a b. h (suc k) a b) in λ i. first i ∷ rest i

module _ (F : Functions) (w v : World) (n : ℕ) (node y : Node) (fw : Facts F w) (fv : Facts F v) (there : slice_get w.nodes n ≡ Some node) (at : slice_get v.nodes n ≡ Some y) (node_is : y.node ≡ node.node) (shape : shape_of v ≡ shape_of w) (stay : InputsStay w v n) where
  pub complete_on : AllComplete w n → AllComplete v n
  complete_on all q e = let x = stay q e in (x.3 (all x.0 x.1)).0

  pub received_same : AllComplete w n → rows_received v n ≡ rows_received w n
  received_same all = map_same (λ (q : Pipe). rows_in_order q.got) (λ (q : Pipe). rows_in_order q.got) (pipes_in w n) (pipes_in v n) (inputs_long F w fw n node there ∙ sym (ap (λ (p : PhysicalNode). length p.inputs) node_is) ∙ sym (inputs_long F v fv n y at)) each
    where
      each : (k : ℕ) (x q : Pipe) → slice_get (pipes_in w n) k ≡ Some x → slice_get (pipes_in v n) k ≡ Some q → rows_in_order q.got ≡ rows_in_order x.got
      each k x q e f =
          let a = enters F w fw n k x e in
          let b = enters F v fv n k q f in
          let z = stay q b.0 in
          let same : z.0 ≡ x = fw.one_input z.0 x z.1.0 a.0.0 (z.1.1 ∙ sym a.0.1) (sym z.2 ∙ b.1 ∙ sym a.1) in
          ap rows_in_order (z.3 (all z.0 z.1)).1 ∙ ap (λ (u : Pipe). rows_in_order u.got) same

  pub made_on : (rows : List Row) → IsMadeOfAll F w n node rows → IsMadeOfAll F v n y rows
  made_on rows (all, T, case, whole, is) = (
    complete_on all,
    T,
    subst (λ p. PhysicalCase F p (whole_tables (schemas_for v y) (rows_received v n)) T) (sym node_is)
        (subst (λ ss. PhysicalCase F node.node (whole_tables ss (rows_received v n)) T) (sym (same_schemas w v node y shape node_is))
        (subst (λ rr. PhysicalCase F node.node (whole_tables (schemas_for w node) rr) T) (sym (received_same all)) case)),
    whole,
    is,
  )

-- WHAT IS STORED
abbrev pub StoresBy : PhysicalKind → ℕ → List (List (List Row)) → ℕ → List Row → Type 0
StoresBy (negative_slice back count) booked stores i rows = HoldsEnd back rows booked (get_or stores i [])
StoresBy _ booked stores i rows = stored_rows (get_or stores i []) ≡ rows

pub to_stores : (kind : PhysicalKind) (a : Progress) (q : Pipe) → StoresBy kind a.booked a.stores q.wire.input (rows_read q) → Stores kind a q
to_stores (negative_slice back count) a q h = h
to_stores kind a q h = h

pub of_stores : (kind : PhysicalKind) (a : Progress) (q : Pipe) → Stores kind a q → StoresBy kind a.booked a.stores q.wire.input (rows_read q)
of_stores (negative_slice back count) a q h = h
of_stores kind a q h = h

pub stores_kept : (w v : World) (n : ℕ) (node y : Node) → y.node ≡ node.node → y.progress.booked ≡ node.progress.booked → y.progress.stores ≡ node.progress.stores → ReadsOn w v n → StoresAll w n node → StoresAll v n y
stores_kept w v n node y node_is booked stores reads h q e =
    let x = reads q e in
    let old = of_stores node.node.kind node.progress x.0 (h x.0 x.1) in
    to_stores y.node.kind y.progress q
    (subst (λ (p : PhysicalNode). StoresBy p.kind y.progress.booked y.progress.stores q.wire.input (rows_read q)) (sym node_is)
    (subst (λ b. StoresBy node.node.kind b y.progress.stores q.wire.input (rows_read q)) (sym booked)
    (subst (λ ss. StoresBy node.node.kind node.progress.booked ss q.wire.input (rows_read q)) (sym stores)
    (subst (λ i. StoresBy node.node.kind node.progress.booked node.progress.stores i (rows_read q)) (sym x.2)
    (subst (λ rs. StoresBy node.node.kind node.progress.booked node.progress.stores x.0.wire.input rs) (sym (ap rows_in_order x.3)) old)))))

-- WHAT IT GIVES, ALONG A STEP
module _ (F : Functions) (w v : World) (n : ℕ) (node y : Node) (at : slice_get v.nodes n ≡ Some y) (maker : IsMaker node.node.kind) (same : SameTurn node.progress y.progress) (s : StepOf F w v n node) where
  node_is : y.node ≡ node.node
  node_is = (s.sent y at).0

  work_on : (k : ℕ) (x : Work) → MadeWork w.options node.node node.progress.made k x → MadeWork v.options y.node y.progress.made k x
  work_on k x (rows, made, is) = (rows, same.made ∙ made, is ∙ (λ i. cut_work (sym s.options i) (sym node_is i).schema rows k))

  pub gives_step : Gives F w n (MadeWork w.options node.node node.progress.made) KeepsNone (HasGivenAll w node) → Gives F v n (MadeWork v.options y.node y.progress.made) KeepsNone (HasGivenAll v y)
  gives_step h =
      gives_keep F w v n (MadeWork w.options node.node node.progress.made) (MadeWork v.options y.node y.progress.made) KeepsNone KeepsNone (HasGivenAll w node) (HasGivenAll v y) work_on (λ q none. none) (λ q rs none r. absurd none)
      (λ p k rs l e. came p k rs (s.outputs p l) e) (λ q c e. piece q (s.pieces q c e)) (λ p l c. inl (let x = s.outputs p l in (x.0, x.1, was_complete x.0 p x.2 c, all_on (s.sent y at).1))) h
    where
      came : (p : Pipe) (k : ℕ) (rs : List Row) → (x : Pipe) × Leaves w n x × Onto (MayCome F w n) x p → slice_get p.got k ≡ Some (Some rs) → ((x : Pipe) × Leaves w n x × (slice_get x.got k ≡ Some (Some rs))) ⊎ MayCome F w n k rs
      came p k rs (x, l, o) e = by (o.got k rs e)
        where
          by : (slice_get x.got k ≡ Some (Some rs)) ⊎ MayCome F w n k rs → ((z : Pipe) × Leaves w n z × (slice_get z.got k ≡ Some (Some rs))) ⊎ MayCome F w n k rs
          by (inl old) = inl (x, l, old)
          by (inr new) = inr new

      piece : (q : Piece) → Contains w.outs q ⊎ IsClaimed w n node q → Contains w.outs q ⊎ MadeWork v.options y.node y.progress.made q.gives (work_of q) ⊎ KeepsNone q
      piece q (inl old) = inl old
      piece q (inr (i, worker, c, claim, new)) =
          let work = (claim_is w n i node c maker claim).work in
          inr (inl (subst (λ (z : Piece). MadeWork v.options y.node y.progress.made z.gives (work_of z)) new (work_on c.gives (asked_by c) work)))

      all_on : (y.progress.sent ≡ node.progress.sent) ⊎ HasClaim w n node → HasGivenAll w node → HasGivenAll v y
      all_on (inl sent) all = (λ i. has_given_all (s.options i) (node_is i).kind y.progress) ∙ given_same w.options node.node.kind node.progress y.progress (keeps node.node.kind maker) same sent ∙ all
      all_on (inr (i, c, claim)) all = absurd (let no : false ≡ true = sym (claim_is w n i node c maker claim).more ∙ all in cc)
