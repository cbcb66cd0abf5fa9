use Rattle.node_bench.proofs.Typed.{typed-at}
use Rattle.node_bench.proofs.exprs.once.Goals as goal

pub evaluate-requires-clause-expression : goal.evaluate-requires-clause-expression
evaluate-requires-clause-expression c = (typed-at _ _ _ c.requires.entries c.requires.schema c.number.ensures).0

pub evaluate-requires-clause-kind : goal.evaluate-requires-clause-kind
evaluate-requires-clause-kind c = (typed-at _ _ _ c.requires.entries c.requires.schema c.number.ensures).1
