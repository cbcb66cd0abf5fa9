use Rattle.ps_node_eval.proofs.TableSteps.{mapped-faults, mapped-gives}
use Rattle.ps_node_eval.proofs.tables.mapped.Goals as goal

pub returns-in-RowIndex-clause-table : goal.returns-in-RowIndex-clause-table
returns-in-RowIndex-clause-table g c =
    let F = g.F.Functions.told c.args.functions.now in
    mapped-gives F c.args.at.0 c.args.function.now _ _ c.args.inputs.now c.args.schema.now c.indexed.result c.in-RowIndex.is c.requires.ready c.indexed.ensures.table

pub returns-in-RowIndex-clause-fault : goal.returns-in-RowIndex-clause-fault
returns-in-RowIndex-clause-fault g c =
    let F = g.F.Functions.told c.args.functions.now in
    mapped-faults F c.args.at.0 c.args.function.now _ _ c.args.inputs.now c.indexed.result c.in-RowIndex.is c.indexed.ensures.fault
