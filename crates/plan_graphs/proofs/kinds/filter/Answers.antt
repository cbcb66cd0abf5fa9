use Rattle.std.proofs.Common.{ap}
use Rattle.ps_frame.specs.Trees.{tree_at}
use Rattle.ps_meaning.specs.Shape.{filter_node}
use Rattle.ps_meaning.specs.Steps.{Named}
use Rattle.plain_nodes.specs.Exprs.{expr_shown}
use Rattle.ps_nodes.specs.declared.flow.FlowNode.TheVariants as flow
use Rattle.plan_graphs.proofs.Making.{is_made}
use Rattle.plan_graphs.proofs.kinds.filter.Goals as goal

pub returns-clause-made : goal.returns-clause-made
returns-clause-made c =
    λ s ss.
    let f = tree_at c.args.arena.now.items in
    is_made (filter_node (f c.args.predicate.now.node)) (filter_node (expr_shown c.in_ok-predicate.predicate).1) s ss (flow.Filter c.new-node.result) (ap (λ (e : Named). filter_node e.1) c.in_ok-predicate.ensures.same) c.new-node.ensures (λ x. x) tt tt tt
