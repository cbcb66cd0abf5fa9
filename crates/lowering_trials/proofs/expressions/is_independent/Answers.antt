use Rattle.lowering_trials.proofs.Tested.{expression-at}
use Rattle.lowering_trials.proofs.expressions.is_independent.Goals as goal

pub is_input_independent-requires-clause-expr : goal.is_input_independent-requires-clause-expr
is_input_independent-requires-clause-expr c = expression-at _ _ c.requires.entries c.requires.number
