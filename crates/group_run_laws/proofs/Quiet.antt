-- What a reduce or a group-by keeps of its morsels while nothing comes and nothing is handed in; and where it turns, all that came is kept.
use Rattle.std.proofs.Common.{◌≡◌, ℕ, ◌<◌, ◌≤◌, ◌⊎◌, true, false, List, [], ◌∷◌, length, Option, Some, None, refl, sym, ap, subst, ◌∙◌, inl, inr, arith}
use Rattle.std.specs.Prelude.{Contains, get_or, map, slice_get}
use Rattle.std.proofs.lemmas.Bool.{cases_lt}
use Rattle.ps_frame.specs.Functions.{Functions}
use Rattle.ps_frame.specs.Tables.{Row}
use Rattle.ps_meaning.specs.Cases.{rows_table}
use Rattle.ps_meaning.specs.Shape.{PhysicalNode}
use Rattle.ps_ports.specs.Ports.{all_done, first_port, is_done}
use Rattle.ps_turns.specs.Progress.{is_taking}
use Rattle.ps_turns.specs.Results.{IsPartial}
use Rattle.ps_turns.specs.Tasks.{Piece, keeps as keeps_task}
use Rattle.ps_world.specs.Facts.{Joins, joins_of}
use Rattle.ps_world.specs.Opening.{pipes_from}
use Rattle.ps_world.specs.Updates.{given_at}
use Rattle.ps_world.specs.World.{Node, Pipe, World, running, shape_of}
use Rattle.world_claims.specs.Numbering.{Known}
use Rattle.world_families.specs.Keepers.{IsKeptOf, KeepsMorsels, schema_of_input, slots_at}
use Rattle.world_families.specs.Work.{AllComplete, Enters, IsComplete, Work}
use Rattle.world_laws.proofs.Agree.{from_map}
use Rattle.world_laws.proofs.InOrder.{contains_map}
use Rattle.family_keeps.proofs.Done.{DoneFits}
use Rattle.family_keeps.proofs.Unions.{same_schemas}
use Rattle.family_pipes.proofs.Inputs.{none_past, past_none, same_at}
use Rattle.orderly_worlds.proofs.Orderly.{Orderly}
use Rattle.keeper_laws.proofs.Says.{IsKeeper}
use Rattle.keeper_laws.proofs.Starts.{all_complete, none_out}
use Rattle.keeper_laws.proofs.Turn.{KeepsTurn}
use Rattle.keeper_laws.proofs.Made.{complete_on}
use Rattle.group_run_laws.proofs.Morsels.{IsSlotted, input_zero, one_pipe, slots_long}
use Rattle.group_run_laws.proofs.Whole.{WholeSlots}

-- WHILE NOTHING COMES AND NOTHING IS HANDED IN
-- each pipe has the joins and the morsels of one before, and what is complete stays so
abbrev pub Quiet : World → World → Type 0
Quiet w v = (q : Pipe) → Contains v.pipes q → (x : Pipe) × Contains w.pipes x × (joins_of q ≡ joins_of x) × (q.got ≡ x.got) × (IsComplete x → IsComplete q)

module _ (F : Functions) (w v : World) (n : ℕ) (node y : Node) (kw : Known F w) (kv : Known F v) (shape : shape_of v ≡ shape_of w) (there : slice_get w.nodes n ≡ Some node) (at : slice_get v.nodes n ≡ Some y) (node_is : y.node ≡ node.node) (sl : IsSlotted node.node.kind) (taken : y.progress.taken ≡ node.progress.taken)
    (outs : v.outs ≡ w.outs) (ends : v.ending ≡ running → w.ending ≡ running) (quiet : Quiet w v) (h : KeepsMorsels F w n node 0) where
  back : (q : Pipe) → Enters v n q → (x : Pipe) × Enters w n x × (q.got ≡ x.got) × (IsComplete x → IsComplete q)
  back q e = let x = quiet q e.0 in (x.0, (x.1, ap (λ (j : Joins). j.receiver) (sym x.2) ∙ e.1), x.3, x.4)

  forth : (x : Pipe) → Enters w n x → (q : Pipe) × Enters v n q × (q.wire.input ≡ x.wire.input) × (q.got ≡ x.got)
  forth x e =
      let same : map joins_of w.pipes ≡ map joins_of v.pipes = kw.facts.wires ∙ ap (λ s. map joins_of (pipes_from s 0)) (sym shape) ∙ sym kv.facts.wires in
      let r = from_map joins_of (joins_of x) v.pipes (subst (λ js. Contains js (joins_of x)) same (contains_map joins_of x w.pipes e.0)) in
      let enters : r.0.wire.receiver ≡ n = ap (λ (j : Joins). j.receiver) r.2 ∙ e.1 in
      let z = back r.0 (r.1, enters) in
      (r.0, (r.1, enters), ap (λ (j : Joins). j.input) r.2, z.2 ∙ ap (λ (u : Pipe). u.got) (one_pipe F w n node kw there sl z.0 x z.1 e))

  pub stay : (q : Pipe) → Enters v n q → (x : Pipe) × Enters w n x × (q.wire.input ≡ x.wire.input) × (IsComplete x → IsComplete q × (q.got ≡ x.got))
  stay q e = let x = quiet q e.0 in (x.0, (x.1, ap (λ (j : Joins). j.receiver) (sym x.2) ∙ e.1), ap (λ (j : Joins). j.input) x.2, λ c. (x.4 c, x.3))

  pub complete : AllComplete w n → AllComplete v n
  complete all = complete_on F w v n node y kw.facts kv.facts there at node_is shape stay all

  schema_is : schema_of_input v y 0 ≡ schema_of_input w node 0
  schema_is = λ i. get_or (same_schemas w v node y shape node_is i) 0 []

  partial_on : (rs : List Row) (size : ℕ) → IsPartial F node.node node.node.kind 0 (rows_table (schema_of_input w node 0) rs ∷ []) size → IsPartial F y.node y.node.kind 0 (rows_table (schema_of_input v y 0) rs ∷ []) size
  partial_on rs size h = subst (λ (p : PhysicalNode). IsPartial F p p.kind 0 (rows_table (schema_of_input v y 0) rs ∷ []) size) (sym node_is) (subst (λ s. IsPartial F node.node node.node.kind 0 (rows_table s rs ∷ []) size) (sym schema_is) h)

  slots_same : slots_at y 0 ≡ slots_at node 0
  slots_same = ap (λ t. get_or t 0 []) taken

  pub morsels_quiet : KeepsMorsels F v n y 0
  morsels_quiet =
      record {
        kept = λ q k rs e i s.
            let x = back q e in
            let old = h.kept x.0 k rs x.1 (input_zero F w n node kw there sl x.0 x.1) (ap (λ xs. slice_get xs k) (sym slots_same) ∙ s) in
            (ap (λ xs. slice_get xs k) x.2 ∙ old.0, old.1, partial_on rs old.1 old.2);
        awaited = λ on k s. let p = h.awaited (ends on) k (ap (λ xs. slice_get xs k) (sym slots_same) ∙ s) in (p.0, subst (λ qs. Contains qs p.0) (sym outs) p.1, p.2, p.3, p.4, p.5);
      }

  pub kept_quiet : (q : Piece) → IsKeptOf w n node 0 q → IsKeptOf v n y 0 q
  kept_quiet q (input, x, e, i, (rs, slot, work)) =
      let z = forth x e in
      (input, z.0, z.1, z.2 ∙ i, (rs, ap (λ xs. slice_get xs q.number) z.3 ∙ slot, work ∙ (λ k. let a : Work = record { task = keeps_task (sym node_is k); schemas = sym schema_is k ∷ []; tables = rs ∷ [] } in a)))

  pub whole_quiet : WholeSlots w n node → WholeSlots v n y
  whole_quiet old = (complete old.0, λ q e. let x = back q e in slots_same ∙ old.1 x.0 x.1 ∙ sym x.2)

-- WHAT CAME IS KEPT WHERE IT TURNS
module _ (F : Functions) (w : World) (m : ℕ) (other : Node) (o : Orderly F w) (shut : w.is_open ≡ false) (at_m : slice_get w.nodes m ≡ Some other) (keeping : IsKeeper other.node.kind) (sl : IsSlotted other.node.kind) (turn : KeepsTurn w m other) (morsels : KeepsMorsels F w m other 0) (run : w.ending ≡ running) (done : DoneFits w m) (takes : is_taking other.progress.stage ≡ true) (ins : all_done (given_at w m).inputs ≡ true)
    (out : is_done (first_port (given_at w m).outputs) ≡ false) where
  all : AllComplete w m
  all = all_complete F w m other o shut at_m keeping turn done takes ins out

  pub all_kept : WholeSlots w m other
  all_kept = (all, λ q e. same_at (slots_at other 0) q.got (λ k. by q e k (cases_lt k q.next)))
    where
      long : (q : Pipe) → Enters w m q → length (slots_at other 0) ≡ q.next
      long q e = slots_long F w m other o.known at_m sl q e

      slot : (q : Pipe) → Enters w m q → (k : ℕ) → (z : Option (Option (List Row))) → slice_get (slots_at other 0) k ≡ z → k < q.next → slice_get (slots_at other 0) k ≡ slice_get q.got k
      slot q e k (Some (Some rs)) s less = s ∙ sym (morsels.kept q k rs e (input_zero F w m other o.known at_m sl q e) s).0
      slot q e k (Some None) s less = let p = morsels.awaited run k s in absurd (none_out F w m other o shut at_m keeping turn p.0 p.1)
      slot q e k None s less = let short = past_none (slots_at other 0) k s in let l = long q e in absurd (omega (arith, short, l, less))

      by : (q : Pipe) → Enters w m q → (k : ℕ) → (k < q.next) ⊎ (q.next ≤ k) → slice_get (slots_at other 0) k ≡ slice_get q.got k
      by q e k (inl less) = slot q e k (slice_get (slots_at other 0) k) refl less
      by q e k (inr past) =
          let l = long q e in
          let read = o.read q e.0 (all q e) in
          none_past (slots_at other 0) k (omega (arith, l, past)) ∙ sym (none_past q.got k (omega (arith, read, past)))
