-- The nodes so far became those of a run, and the others stand.
use Rattle.std.proofs.Common.{◌≡◌, ℕ, ◌≤◌}
use Rattle.keyed_slots.specs.Slots.{value_at}
use Rattle.run_graphs.specs.Runs.{AreRunning}
use Rattle.run_graphs.proofs.graphs.add_all.Given as goal

abbrev pub invariant-loop-place : goal.invariant-loop-place
invariant-loop-place l = record {
  running : AreRunning l.place l.fn.nodes.slots l.schemas l.made.slots;
  others : (k : ℕ) → l.place ≤ k → value_at l.nodes.slots k ≡ value_at l.fn.nodes.slots k;
}
