use Rattle.std.proofs.Common.{refl}
use Rattle.ps_meaning.specs.Shape.{multiplexer}
use Rattle.ps_nodes.specs.declared.flow.FlowNode.TheVariants as flow
use Rattle.plan_graphs.proofs.Making.{is_made}
use Rattle.plan_graphs.proofs.kinds.multiplexer.Goals as goal

pub returns : goal.returns
returns c = λ s ss. is_made multiplexer multiplexer s ss (flow.Multiplexer c.new.result) refl c.new.ensures (λ x. x) tt tt tt
