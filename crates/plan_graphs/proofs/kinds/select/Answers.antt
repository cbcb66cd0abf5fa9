use Rattle.std.proofs.Common.{List, ap, ◌∙◌}
use Rattle.std.specs.Prelude.{map}
use Rattle.ps_frame.specs.Trees.{tree_at}
use Rattle.ps_meaning.specs.Shape.{select_node}
use Rattle.ps_meaning.specs.Steps.{Named, named_trees}
use Rattle.plain_nodes.specs.Exprs.{expr_shown}
use Rattle.ps_nodes.specs.declared.flow.FlowNode.TheVariants as flow
use Rattle.plan_graphs.proofs.Making.{is_made}
use Rattle.plan_graphs.proofs.kinds.select.Goals as goal

pub returns-clause-made : goal.returns-clause-made
returns-clause-made c =
    λ ss.
    let f = tree_at c.args.arena.now.items in
    is_made (select_node (named_trees f c.args.selectors.now) c.args.extend_original) (select_node (map expr_shown c.in_ok-selectors.selectors.items) c.args.extend_original) c.args.output_schema.now ss (flow.Select c.new-node.result)
    (ap (λ (es : List Named). select_node es c.args.extend_original) c.in_ok-selectors.ensures.shown) c.new-node.ensures.new (λ x. x) (c.new-node.ensures.schema ∙ c.in_ok-schema.ensures.same) tt tt
