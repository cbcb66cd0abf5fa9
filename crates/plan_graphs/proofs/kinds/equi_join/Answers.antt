use Rattle.std.proofs.Common.{[], ◌∷◌, ap, ◌∙◌}
use Rattle.ps_frame.specs.Trees.{tree_at}
use Rattle.ps_meaning.specs.Shape.{equi_join}
use Rattle.plain_nodes.specs.Exprs.{join_shown}
use Rattle.ps_nodes.specs.declared.flow.FlowNode.TheVariants as flow
use Rattle.ps_phys.specs.Shown.{join_of}
use Rattle.plan_graphs.proofs.Making.{copied_join, is_made}
use Rattle.ps_phys.specs.Shown.{stream_of}
use Rattle.graph_parts.specs.Read.{schemas_read}
use Rattle.plan_graphs.proofs.kinds.equi_join.Goals as goal

pub returns-clause-made : goal.returns-clause-made
returns-clause-made c =
    let f = tree_at c.args.arena.now.items in
    let same = copied_join f c.args.left_on.now c.args.right_on.now c.in_ok-left_on.left_on.items c.in_ok-right_on.right_on.items c.args.args.now c.in_ok-args.args c.in_ok-left_on.ensures.shown c.in_ok-right_on.ensures.shown c.in_ok-args.ensures.same in
    let first = c.new-node.ensures.left ∙ c.in_ok-left.ensures.schema in
    let second = c.new-node.ensures.right ∙ c.in_ok-right.ensures.schema in
    is_made (equi_join (join_of f c.args.left_on.now c.args.right_on.now c.args.args.now)) (equi_join (join_shown c.in_ok-left_on.left_on.items c.in_ok-right_on.right_on.items c.in_ok-args.args)) c.args.output_schema.now
    (schemas_read c.args.phys.now.slots (stream_of c.args.input_left ∷ stream_of c.args.input_right ∷ [])) (flow.EquiJoin c.new-node.result) (ap equi_join same) c.new-node.ensures.new (λ x. x) (c.new-node.ensures.output_schema ∙ c.in_ok-schema.ensures.same)
    (λ i. first i ∷ second i ∷ []) tt
