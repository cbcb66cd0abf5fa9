use Rattle.ps_frame.specs.Trees.{tree_at}
use Rattle.ps_meaning.specs.Steps.{sort_step}
use Rattle.ready_steps.proofs.OverInputs.{faults-over, gives-over}
use Rattle.ready_steps.proofs.RowSteps.{sort-typed}
use Rattle.ps_node_eval.proofs.rows.sorted.Goals as goal

pub sort-requires : goal.sort-requires
sort-requires c = sort-typed (tree_at c.args.arena.now.items) c.args.by.now _ _ c.requires.ready.0 c.only.ensures c.args.slice c.args.options.now c.requires.ready.1

pub returns-clause-table : goal.returns-clause-table
returns-clause-table c = gives-over c.args.at.0 (sort_step (tree_at c.args.arena.now.items) c.args.by.now c.args.slice c.args.options.now) _ _ c.sort.result c.only.ensures c.sort.ensures.table

pub returns-clause-fault : goal.returns-clause-fault
returns-clause-fault c = faults-over c.args.at.0 (sort_step (tree_at c.args.arena.now.items) c.args.by.now c.args.slice c.args.options.now) _ _ c.sort.result c.only.ensures c.sort.ensures.fault
