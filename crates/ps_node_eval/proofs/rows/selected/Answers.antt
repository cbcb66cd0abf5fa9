use Rattle.ps_frame.specs.Trees.{tree_at}
use Rattle.ps_meaning.specs.Steps.{named_trees, select}
use Rattle.ready_steps.proofs.OverInputs.{faults-over, gives-over}
use Rattle.ready_steps.proofs.RowSteps.{select-fields, select-whole}
use Rattle.ps_node_eval.proofs.rows.selected.Goals as goal

pub select-requires-clause-expressions : goal.select-requires-clause-expressions
select-requires-clause-expressions c = select-whole (tree_at c.args.arena.now.items) c.args.exprs.now _ _ c.args.schema.now c.only.ensures c.requires.ready

pub select-requires-clause-fields : goal.select-requires-clause-fields
select-requires-clause-fields c = select-fields (tree_at c.args.arena.now.items) c.args.exprs.now _ _ c.args.schema.now c.only.ensures c.requires.ready

pub returns-clause-table : goal.returns-clause-table
returns-clause-table c = gives-over c.args.at.0 (select (named_trees (tree_at c.args.arena.now.items) c.args.exprs.now)) _ _ c.select.result c.only.ensures c.select.ensures.table

pub returns-clause-fault : goal.returns-clause-fault
returns-clause-fault c = faults-over c.args.at.0 (select (named_trees (tree_at c.args.arena.now.items) c.args.exprs.now)) _ _ c.select.result c.only.ensures c.select.ensures.fault
