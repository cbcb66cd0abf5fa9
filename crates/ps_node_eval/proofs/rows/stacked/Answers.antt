use Rattle.ps_frame.specs.Trees.{tree_at}
use Rattle.ps_meaning.specs.Steps.{hstack, named_trees}
use Rattle.ready_steps.proofs.OverInputs.{faults-over, gives-over}
use Rattle.ready_steps.proofs.RowSteps.{hstack-fields, hstack-names, hstack-whole}
use Rattle.ps_node_eval.proofs.rows.stacked.Goals as goal

pub hstack-requires-clause-expressions : goal.hstack-requires-clause-expressions
hstack-requires-clause-expressions c = hstack-whole (tree_at c.args.arena.now.items) c.args.exprs.now _ _ c.args.schema.now c.only.ensures c.requires.ready

pub hstack-requires-clause-fields : goal.hstack-requires-clause-fields
hstack-requires-clause-fields c = hstack-fields (tree_at c.args.arena.now.items) c.args.exprs.now _ _ c.args.schema.now c.only.ensures c.requires.ready

pub hstack-requires-clause-names_differ : goal.hstack-requires-clause-names_differ
hstack-requires-clause-names_differ c = hstack-names (tree_at c.args.arena.now.items) c.args.exprs.now _ _ c.args.schema.now c.only.ensures c.requires.ready

pub returns-clause-table : goal.returns-clause-table
returns-clause-table c = gives-over c.args.at.0 (hstack (named_trees (tree_at c.args.arena.now.items) c.args.exprs.now)) _ _ c.hstack.result c.only.ensures c.hstack.ensures.table

pub returns-clause-fault : goal.returns-clause-fault
returns-clause-fault c = faults-over c.args.at.0 (hstack (named_trees (tree_at c.args.arena.now.items) c.args.exprs.now)) _ _ c.hstack.result c.only.ensures c.hstack.ensures.fault
