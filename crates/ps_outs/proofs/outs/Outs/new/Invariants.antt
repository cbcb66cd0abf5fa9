-- So many workers have no piece.
use Rattle.std.proofs.Common.{◌≡◌, None}
use Rattle.std.specs.Prelude.{replicate}
use Rattle.ps_outs.proofs.outs.Outs.new.Given as goal

abbrev pub invariant-loop : goal.invariant-loop
invariant-loop l = l.by_worker.items ≡ replicate l.counter None
