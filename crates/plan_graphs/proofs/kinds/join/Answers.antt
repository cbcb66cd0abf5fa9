use Rattle.ps_frame.specs.Trees.{tree_at}
use Rattle.plain_nodes.specs.Exprs.{join_shown}
use Rattle.ps_phys.specs.Shown.{join_of}
use Rattle.plan_graphs.proofs.Making.{copied_join, join_made}
use Rattle.keyed_slots.specs.Slots.{value_at}
use Rattle.ps_phys.specs.Shown.{stream_of}
use Rattle.graph_parts.specs.Read.{slot_schema}
use Rattle.plan_graphs.proofs.kinds.join.Goals as goal

pub returns-clause-made : goal.returns-clause-made
returns-clause-made c =
    let f = tree_at c.args.arena.now.items in
    let same = copied_join f c.args.left_on.now c.args.right_on.now c.in_ok-left_on.left_on.items c.in_ok-right_on.right_on.items c.args.args.now c.in_ok-args.args c.in_ok-left_on.ensures.shown c.in_ok-right_on.ensures.shown c.in_ok-args.ensures.same in
    join_made (join_of f c.args.left_on.now c.args.right_on.now c.args.args.now) (join_shown c.in_ok-left_on.left_on.items c.in_ok-right_on.right_on.items c.in_ok-args.args) c.args.output_schema.now c.in_ok-schema.schema c.in_ok-left.left c.in_ok-right.right
    (slot_schema (value_at c.args.phys.now.slots (stream_of c.args.input_left).0)) (slot_schema (value_at c.args.phys.now.slots (stream_of c.args.input_right).0)) c.new-node.result same c.in_ok-schema.ensures.same c.in_ok-left.ensures.schema c.in_ok-right.ensures.schema c.new-node.ensures.new
    c.new-node.ensures.cut
