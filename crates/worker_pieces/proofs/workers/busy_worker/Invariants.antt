-- None so far.
use Rattle.std.proofs.Common.{◌≢◌, ℕ, ◌<◌, Some, slice_get}
use Rattle.worker_pieces.proofs.workers.busy_worker.Given as goal

abbrev pub invariant-loop-worker : goal.invariant-loop-worker
invariant-loop-worker g l = (k : ℕ) (piece : g.row.P.Denot) → k < l.worker → slice_get l.pieces k ≢ Some (Some piece)
