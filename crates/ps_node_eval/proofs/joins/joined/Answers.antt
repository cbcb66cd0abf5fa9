use Rattle.ps_frame.specs.Trees.{tree_at}
use Rattle.ps_joins.specs.JoinOf.{join_of}
use Rattle.ps_meaning.specs.Steps.{join}
use Rattle.ready_steps.proofs.JoinSteps.{join-schema, keys-paired, left-typed, right-typed}
use Rattle.ready_steps.proofs.OverInputs.{faults-over, gives-over}
use Rattle.ps_node_eval.proofs.joins.joined.Goals as goal

pub join-requires-clause-left_keys : goal.join-requires-clause-left_keys
join-requires-clause-left_keys c = left-typed (join_of (tree_at c.args.arena.now.items) c.args.left_on.now c.args.right_on.now c.args.args.now) c.args.inputs.now _ _ c.args.schema.now c.both.ensures c.requires.ready

pub join-requires-clause-right_keys : goal.join-requires-clause-right_keys
join-requires-clause-right_keys c = right-typed (join_of (tree_at c.args.arena.now.items) c.args.left_on.now c.args.right_on.now c.args.args.now) c.args.inputs.now _ _ c.args.schema.now c.both.ensures c.requires.ready

pub join-requires-clause-paired : goal.join-requires-clause-paired
join-requires-clause-paired c = keys-paired (join_of (tree_at c.args.arena.now.items) c.args.left_on.now c.args.right_on.now c.args.args.now) c.args.inputs.now _ _ c.args.schema.now c.both.ensures c.requires.ready

pub join-requires-clause-schema : goal.join-requires-clause-schema
join-requires-clause-schema c = join-schema (join_of (tree_at c.args.arena.now.items) c.args.left_on.now c.args.right_on.now c.args.args.now) c.args.inputs.now _ _ c.args.schema.now c.both.ensures c.requires.ready

pub returns-clause-table : goal.returns-clause-table
returns-clause-table c = gives-over c.args.at.0 (join (join_of (tree_at c.args.arena.now.items) c.args.left_on.now c.args.right_on.now c.args.args.now)) c.args.inputs.now _ c.join.result c.both.ensures c.join.ensures.table

pub returns-clause-fault : goal.returns-clause-fault
returns-clause-fault c = faults-over c.args.at.0 (join (join_of (tree_at c.args.arena.now.items) c.args.left_on.now c.args.right_on.now c.args.args.now)) c.args.inputs.now _ c.join.result c.both.ensures c.join.ensures.fault
