use Rattle.std.proofs.Common.{◌≡◌, None, replicate}
use Rattle.plain_queries.proofs.held_tables.HeldTables.new.Given as goal

abbrev pub invariant-loop : goal.invariant-loop
invariant-loop l = l.slots.items ≡ replicate l.counter None
