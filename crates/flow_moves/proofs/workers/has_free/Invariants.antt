-- None so far.
use Rattle.std.proofs.Common.{◌≡◌, ℕ, ◌<◌, None, Some, slice_get}
use Rattle.flow_moves.proofs.workers.has_free.Given as goal

abbrev pub invariant-loop-worker : goal.invariant-loop-worker
invariant-loop-worker l = (k : ℕ) → k < l.worker → slice_get l.outs.by_worker.items k ≡ Some None → ⊥
