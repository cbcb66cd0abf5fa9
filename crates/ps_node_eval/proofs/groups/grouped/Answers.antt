use Rattle.std.specs.Prelude.{Bool}
use Rattle.ps_frame.specs.Trees.{tree_at}
use Rattle.ps_meaning.specs.Steps.{group_step}
use Rattle.group_steps.proofs.GroupSteps.{aggs-typed, group-fields, keys-typed}
use Rattle.ready_steps.proofs.OverInputs.{faults-with, gives-with}
use Rattle.ps_node_eval.proofs.groups.grouped.Goals as goal

pub group_by-requires-clause-keys : goal.group_by-requires-clause-keys
group_by-requires-clause-keys c = keys-typed (tree_at c.args.arena.now.items) c.args.keys.now c.args.aggs.now c.requires.ready.0 c.args.slice c.args.inputs.now _ c.args.schema.now c.only.ensures c.requires.ready.1

pub group_by-requires-clause-aggs : goal.group_by-requires-clause-aggs
group_by-requires-clause-aggs c = aggs-typed (tree_at c.args.arena.now.items) c.args.keys.now c.args.aggs.now c.requires.ready.0 c.args.slice c.args.inputs.now _ c.args.schema.now c.only.ensures c.requires.ready.1

pub group_by-requires-clause-schema : goal.group_by-requires-clause-schema
group_by-requires-clause-schema c = group-fields (tree_at c.args.arena.now.items) c.args.keys.now c.args.aggs.now c.requires.ready.0 c.args.slice c.args.inputs.now _ c.args.schema.now c.only.ensures c.requires.ready.1

pub returns-clause-table : goal.returns-clause-table
returns-clause-table c = gives-with c.args.at.0 (λ (maintained : Bool). group_step (tree_at c.args.arena.now.items) c.args.keys.now c.args.aggs.now maintained c.args.slice) c.args.inputs.now _ c.group_by.result c.only.ensures c.group_by.ensures.table

pub returns-clause-fault : goal.returns-clause-fault
returns-clause-fault c = faults-with c.args.at.0 (λ (maintained : Bool). group_step (tree_at c.args.arena.now.items) c.args.keys.now c.args.aggs.now maintained c.args.slice) c.args.inputs.now _ c.group_by.result c.only.ensures c.group_by.ensures.fault
