-- A state for each key; and what the keys so far tell stands at their ports.
use Rattle.std.proofs.Common.{◌≡◌, ℕ, Some, length, slice_get, take}
use Rattle.std.specs.Prelude.{IsTrue}
use Rattle.keyed_slots.specs.Slots.{value_at}
use Rattle.ps_ports.specs.Phases.{is_one_of}
use Rattle.ps_graph.specs.declared.graph.LogicalPipe.{LogicalPipe}
use Rattle.ps_graph.specs.Ends.{other_state, place_at}
use Rattle.ps_graph.specs.Shown.{numbers}
use Rattle.ps_graph.proofs.ends.given.Given as goal

abbrev pub invariant-loop : goal.invariant-loop
invariant-loop l = length l.states.items ≡ l.index

abbrev pub invariant-loop-key : goal.invariant-loop-key
invariant-loop-key l = record {
  long : length l.states.items ≡ length l.keys;
  at : (k : ℕ) (p : LogicalPipe) → IsTrue (is_one_of k (numbers (take l.key-index l.keys))) → value_at l.pipes.slots k ≡ Some p → slice_get l.states.items (place_at l.end p) ≡ Some (other_state l.end p);
}
