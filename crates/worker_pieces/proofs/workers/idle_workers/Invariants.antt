-- So many workers have no piece.
use Rattle.std.proofs.Common.{◌≡◌, None}
use Rattle.std.specs.Prelude.{replicate}
use Rattle.worker_pieces.proofs.workers.idle_workers.Given as goal

abbrev pub invariant-loop : goal.invariant-loop
invariant-loop g l = l.pieces.items ≡ replicate l.counter None
