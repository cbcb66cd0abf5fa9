use Rattle.std.proofs.Common.{refl}
use Rattle.ps_meaning.specs.Shape.{ordered_union}
use Rattle.ps_nodes.specs.declared.flow.FlowNode.TheVariants as flow
use Rattle.plan_graphs.proofs.Making.{is_made}
use Rattle.plan_graphs.proofs.kinds.union.Goals as goal

pub returns : goal.returns
returns c = λ s ss. is_made ordered_union ordered_union s ss (flow.OrderedUnion c.new.result) refl c.new.ensures (λ x. x) tt tt tt
