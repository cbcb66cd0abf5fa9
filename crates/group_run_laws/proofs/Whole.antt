-- All that came of the one input of a reduce or a group-by is kept, slot by slot.
use Rattle.std.proofs.Common.{◌≡◌, ℕ, suc, ◌<◌, List, [], ◌∷◌, ◌++◌, length, Option, Some, None, refl, sym, ap, subst, ◌∙◌, arith}
use Rattle.std.specs.Prelude.{get_or, map, slice_get}
use Rattle.ps_frame.specs.Functions.{Functions}
use Rattle.ps_frame.specs.Tables.{Row}
use Rattle.ps_turns.specs.Claims.{all_taken, taken_rows}
use Rattle.ps_turns.specs.Results.{IsResult, IsResultOf}
use Rattle.ps_turns.specs.Tables.{whole_tables}
use Rattle.ps_turns.specs.Tasks.{Piece, good}
use Rattle.ps_world.specs.World.{Node, Pipe, World, pipes_in, rows_in_order}
use Rattle.world_families.proofs.Members.{nothing_is}
use Rattle.world_families.specs.Keepers.{IsKeptOf, slots_at}
use Rattle.world_families.specs.Work.{AllComplete, Enters, Work, rows_received}
use Rattle.family_pipes.proofs.Inputs.{enters, inputs_long}
use Rattle.orderly_worlds.proofs.Orderly.{Orderly}
use Rattle.orderly_worlds.proofs.ReadRows.{came_to}
use Rattle.group_run_laws.proofs.Morsels.{IsSlotted, inputs_one, taken_one}
use Rattle.family_fronts.proofs.FrontsLaw.{only_one}

-- all that came is kept, slot by slot
abbrev pub WholeSlots : World → ℕ → Node → Type 0
WholeSlots w n node = AllComplete w n × ((q : Pipe) → Enters w n q → slots_at node 0 ≡ q.got)

-- a morsel that came in full is kept in full
all_rows : (slots : List (Option (List Row))) → ((k : ℕ) → k < length slots → (rs : List Row) × (slice_get slots k ≡ Some (Some rs))) → taken_rows slots ≡ rows_in_order slots
all_rows [] h = refl
all_rows (None ∷ slots) h = absurd (let r = h 0 (omega arith) in let q : Some None ≡ Some (Some r.0) = r.1 in nothing_is r.0 (let is : None ≡ Some r.0 = cc in is))
all_rows (Some rs ∷ slots) h = ap (λ zs. rs ++ zs) (all_rows slots (λ k less. h (suc k) (omega (arith, less))))

one_list : {A B : Type 0} (f : A → B) (xs : List A) (d : A) → length xs ≡ 1 → map f xs ≡ f (get_or xs 0 d) ∷ []
one_list f [] d e = absurd (omega (arith, e))
one_list f (x ∷ []) d e = refl
one_list f (x ∷ y ∷ xs) d e = absurd (omega (arith, e))

module _ (F : Functions) (w : World) (n : ℕ) (node : Node) (o : Orderly F w) (there : slice_get w.nodes n ≡ Some node) (sl : IsSlotted node.node.kind) where
  pub rows_kept : (q : Pipe) → Enters w n q → WholeSlots w n node → taken_rows (slots_at node 0) ≡ rows_in_order q.got
  rows_kept q e (all, slots) = let read = o.read q e.0 (all q e) in ap taken_rows (slots q e) ∙ all_rows q.got (λ k less. came_to F w o.known q e.0 k (let r = read in omega (arith, less, r)))

  pub has_all : WholeSlots w n node → all_taken node.progress ≡ rows_received w n
  has_all whole =
      let q = only_one (pipes_in w n) (inputs_long F w o.known.facts n node there ∙ inputs_one F w n node o.known there sl) in
      let e = enters F w o.known.facts n 0 q.0 (ap (λ qs. slice_get qs 0) q.1) in
      one_list taken_rows node.progress.taken [] (taken_one F w n node o.known there sl) ∙ ap (λ rows. rows ∷ []) (rows_kept q.0 e.0 whole) ∙ sym (ap (map (λ (p : Pipe). rows_in_order p.got)) q.1)

-- a partial is no rows, and rows no partial
pub silent : (F : Functions) (w : World) (n : ℕ) (node : Node) (q : Piece) (rs : List Row) → IsKeptOf w n node 0 q → IsResult F q (good rs) → ⊥
silent F w n node q rs (input, z, e, i, (b, at, work)) r = subst (λ (x : Work). IsResultOf F x.task q.input (whole_tables x.schemas x.tables) x.tables (good rs)) work r
