use Rattle.std.proofs.Common.{◌∙◌}
use Rattle.std.specs.Prelude.{length, map}
use Rattle.ps_frame.specs.Trees.{tree_at}
use Rattle.ps_meaning.specs.Schemas.{names_of}
use Rattle.ps_meaning.specs.Shape.{group_by_node}
use Rattle.ps_meaning.specs.Steps.{named_trees}
use Rattle.plain_nodes.specs.Exprs.{expr_shown}
use Rattle.plain_nodes.specs.Reductions.{reduced}
use Rattle.ps_nodes.specs.declared.flow.FlowNode.TheVariants as flow
use Rattle.plan_graphs.proofs.Making.{behind_keys, is_made}
use Rattle.std.proofs.Common.{drop}
use Rattle.plan_graphs.proofs.kinds.group_by.Goals as goal

pub returns-clause-made : goal.returns-clause-made
returns-clause-made c =
    λ ss.
    let f = tree_at c.args.arena.now.items in
    let own = reduced (drop (length c.in_ok-keys.keys.items) (names_of c.in_ok-schema.schema)) (map expr_shown c.in_ok-parts.parts.selectors.items) c.in_ok-parts.parts.reductions.items in
    let keys = c.in_ok-keys.ensures.shown in
    let aggregates = behind_keys f c.args.keys.now c.args.aggs.now c.in_ok-keys.keys.items c.in_ok-parts.parts.selectors.items c.in_ok-parts.parts.reductions.items c.args.output_schema.now c.in_ok-schema.schema keys c.requires.names c.in_ok-schema.ensures.same c.in_ok-parts.ensures.shown in
    is_made (group_by_node (named_trees f c.args.keys.now) (named_trees f c.args.aggs.now)) (group_by_node (map expr_shown c.in_ok-keys.keys.items) own) c.args.output_schema.now ss (flow.GroupBy c.new-node.result) (λ i. group_by_node (keys i) (aggregates i)) c.new-node.ensures.new
    (λ x. x) (c.new-node.ensures.output_schema ∙ c.in_ok-schema.ensures.same) tt c.new-node.ensures.cut
