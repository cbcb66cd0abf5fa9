use Rattle.step_keeps.proofs.Owned.{exprs_made, select_made}
use Rattle.step_keeps.proofs.laws.calls_own_their_nodes.Goals as goal

pub returns-clause-exprs : goal.returns-clause-exprs
returns-clause-exprs c = exprs_made

pub returns-clause-selects : goal.returns-clause-selects
returns-clause-selects c = select_made
