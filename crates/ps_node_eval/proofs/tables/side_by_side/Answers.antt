use Rattle.std.proofs.Common.{refl}
use Rattle.ps_meaning.specs.Steps.{hconcat}
use Rattle.ready_steps.proofs.OverInputs.{gives-at}
use Rattle.ps_node_eval.proofs.TableSteps.{beside-columns}
use Rattle.ps_node_eval.proofs.tables.side_by_side.Goals as goal

pub hconcat-requires-clause-columns : goal.hconcat-requires-clause-columns
hconcat-requires-clause-columns c = beside-columns c.args.inputs.now c.args.schema.now c.requires

pub returns-clause-table : goal.returns-clause-table
returns-clause-table c = gives-at c.args.at.0 hconcat c.args.inputs.now _ c.hconcat.result refl c.hconcat.ensures.table
