use Rattle.valid_plans.proofs.table.Schemas.new.Given as goal
use Rattle.std.proofs.Common.{◌≡◌, None, replicate}

abbrev pub invariant-loop : goal.invariant-loop
invariant-loop l = l.table.items ≡ replicate l.counter None
