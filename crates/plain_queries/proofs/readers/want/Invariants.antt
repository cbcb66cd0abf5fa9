use Rattle.plain_queries.proofs.Wanting.{Wanting}
use Rattle.plain_queries.proofs.readers.want.Given as goal

abbrev pub invariant-loop-node : goal.invariant-loop-node
invariant-loop-node l = Wanting l.fn.until.items l.nodes l.place l.node-index l.until.items
