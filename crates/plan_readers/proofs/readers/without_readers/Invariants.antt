use Rattle.std.proofs.Common.{◌≡◌, [], replicate}
use Rattle.plan_readers.proofs.readers.without_readers.Given as goal

abbrev pub invariant-loop : goal.invariant-loop
invariant-loop l = l.readers.items ≡ replicate l.counter []
