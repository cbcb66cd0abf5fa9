use Rattle.std.proofs.Common.{refl, ◌∙◌}
use Rattle.ps_meaning.specs.Shape.{in_memory_sink}
use Rattle.ps_nodes.specs.declared.flow.FlowNode.TheVariants as flow
use Rattle.plan_graphs.proofs.Making.{is_made}
use Rattle.plan_graphs.proofs.kinds.sink.Goals as goal

pub returns-clause-made : goal.returns-clause-made
returns-clause-made c =
    λ ss. is_made in_memory_sink in_memory_sink c.args.output_schema.now ss (flow.InMemorySink c.new-node.result) refl c.new-node.ensures.new (λ x. x) (c.new-node.ensures.schema ∙ c.in_ok-schema.ensures.same) tt tt
