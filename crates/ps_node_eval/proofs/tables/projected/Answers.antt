use Rattle.ps_meaning.specs.Steps.{project}
use Rattle.ready_steps.proofs.OverInputs.{gives-at}
use Rattle.ps_node_eval.proofs.tables.projected.Goals as goal

pub returns-clause-table : goal.returns-clause-table
returns-clause-table c = gives-at c.args.at.0 (project c.args.names.now) _ _ c.project.result c.only.ensures c.project.ensures.projection
