use Rattle.std.proofs.Common.{ap}
use Rattle.ps_meaning.specs.Shape.{with_row_index}
use Rattle.ps_nodes.specs.declared.flow.FlowNode.TheVariants as flow
use Rattle.plan_graphs.proofs.Making.{is_made}
use Rattle.plan_graphs.proofs.kinds.row_index.Goals as goal

pub returns-clause-made : goal.returns-clause-made
returns-clause-made c =
    λ s ss.
    is_made (with_row_index c.args.name.now c.args.offset) (with_row_index c.in_ok-name.name c.args.offset) s ss (flow.WithRowIndex c.new-node.result) (ap (λ n. with_row_index n c.args.offset) c.in_ok-name.ensures.same) c.new-node.ensures (λ x. x) tt tt tt
