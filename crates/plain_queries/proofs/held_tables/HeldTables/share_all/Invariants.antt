use Rattle.std.proofs.Common.{◌≡◌, take}
use Rattle.plain_queries.proofs.held_tables.HeldTables.share_all.Given as goal
use Rattle.plain_queries.specs.Held.{tables_in}

abbrev pub invariant-loop-node : goal.invariant-loop-node
invariant-loop-node l = l.tables.items ≡ tables_in l.self (take l.node-index l.nodes)
