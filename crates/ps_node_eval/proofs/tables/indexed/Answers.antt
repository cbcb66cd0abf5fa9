use Rattle.ps_node_eval.proofs.TableSteps.{row-faults, row-gives}
use Rattle.ps_node_eval.proofs.tables.indexed.Goals as goal

pub returns-clause-table : goal.returns-clause-table
returns-clause-table c = row-gives c.args.at.0 c.args.offset _ _ c.args.schema.now c.row_index.result c.only.ensures c.row_index.ensures.table

pub returns-clause-fault : goal.returns-clause-fault
returns-clause-fault c = row-faults c.args.at.0 c.args.offset _ _ c.row_index.result c.only.ensures c.row_index.ensures.fault
