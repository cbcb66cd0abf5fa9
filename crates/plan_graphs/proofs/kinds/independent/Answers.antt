use Rattle.std.proofs.Common.{ap}
use Rattle.std.specs.Prelude.{map}
use Rattle.ps_frame.specs.Trees.{tree_at}
use Rattle.ps_meaning.specs.Shape.{independent_select}
use Rattle.ps_meaning.specs.Steps.{named_trees}
use Rattle.plain_nodes.specs.Exprs.{expr_shown}
use Rattle.ps_nodes.specs.declared.flow.FlowNode.TheVariants as flow
use Rattle.plan_graphs.proofs.Making.{is_made}
use Rattle.plan_graphs.proofs.kinds.independent.Goals as goal

pub returns-clause-made : goal.returns-clause-made
returns-clause-made c =
    λ s ss.
    let f = tree_at c.args.arena.now.items in
    is_made (independent_select (named_trees f c.args.selectors.now)) (independent_select (map expr_shown c.in_ok-selectors.selectors.items)) s ss (flow.InputIndependentSelect c.new-node.result) (ap independent_select c.in_ok-selectors.ensures.shown) c.new-node.ensures (λ x. x) tt tt tt
