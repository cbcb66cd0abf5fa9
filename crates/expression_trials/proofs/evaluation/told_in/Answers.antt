use Rattle.expression_trials.proofs.Tested.{typed-at}
use Rattle.expression_trials.proofs.evaluation.told_in.Goals as goal

pub evaluate-requires-clause-expression : goal.evaluate-requires-clause-expression
evaluate-requires-clause-expression c = (typed-at _ _ _ c.requires.entries c.requires.schema c.requires.number).0

pub evaluate-requires-clause-kind : goal.evaluate-requires-clause-kind
evaluate-requires-clause-kind c = (typed-at _ _ _ c.requires.entries c.requires.schema c.requires.number).1
