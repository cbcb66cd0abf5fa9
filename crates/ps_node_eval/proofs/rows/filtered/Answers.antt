use Rattle.ps_frame.specs.Trees.{tree_at}
use Rattle.ps_meaning.specs.Steps.{filter}
use Rattle.ready_steps.proofs.OverInputs.{faults-over, gives-over}
use Rattle.ready_steps.proofs.RowSteps.{filter-kind, filter-whole}
use Rattle.ps_node_eval.proofs.rows.filtered.Goals as goal

pub filter-requires-clause-expression : goal.filter-requires-clause-expression
filter-requires-clause-expression c = filter-whole (tree_at c.args.arena.now.items c.args.predicate.now.node) c.args.inputs.now c.requires.ready.0 c.requires.ready.1

pub filter-requires-clause-kind : goal.filter-requires-clause-kind
filter-requires-clause-kind c = filter-kind (tree_at c.args.arena.now.items c.args.predicate.now.node) _ _ c.requires.ready.0 c.only.ensures c.requires.ready.1

pub returns-clause-table : goal.returns-clause-table
returns-clause-table c = gives-over c.args.at.0 (filter (tree_at c.args.arena.now.items c.args.predicate.now.node)) _ _ c.filter.result c.only.ensures c.filter.ensures.table

pub returns-clause-fault : goal.returns-clause-fault
returns-clause-fault c = faults-over c.args.at.0 (filter (tree_at c.args.arena.now.items c.args.predicate.now.node)) _ _ c.filter.result c.only.ensures c.filter.ensures.fault
