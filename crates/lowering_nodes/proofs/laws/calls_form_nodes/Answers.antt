use Rattle.lowering_nodes.proofs.Forming.{exprs_form_nodes, selects_form_nodes}
use Rattle.lowering_nodes.proofs.laws.calls_form_nodes.Goals as goal

pub returns-clause-exprs : goal.returns-clause-exprs
returns-clause-exprs c = exprs_form_nodes

pub returns-clause-selects : goal.returns-clause-selects
returns-clause-selects c = selects_form_nodes
