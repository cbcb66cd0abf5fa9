use Rattle.std.proofs.Common.{refl}
use Rattle.ps_meaning.specs.Shape.{streaming_slice}
use Rattle.ps_nodes.specs.declared.flow.FlowNode.TheVariants as flow
use Rattle.plan_graphs.proofs.Making.{is_made}
use Rattle.plan_graphs.proofs.kinds.slice.Goals as goal

pub returns : goal.returns
returns c = λ s ss. is_made (streaming_slice c.args.offset c.args.length) (streaming_slice c.args.offset c.args.length) s ss (flow.StreamingSlice c.new-node.result) refl c.new-node.ensures (λ x. x) tt tt tt
