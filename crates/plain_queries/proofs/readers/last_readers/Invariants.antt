use Rattle.std.proofs.Common.{length}
use Rattle.ps_survey.specs.Orders.{inputs_in}
use Rattle.plain_queries.proofs.Wanting.{WantedSoFar}
use Rattle.plain_queries.proofs.readers.last_readers.Given as goal

abbrev pub invariant-loop-place : goal.invariant-loop-place
invariant-loop-place l = WantedSoFar (length l.ir.items) (inputs_in l.ir.items) l.order l.place l.until.items
