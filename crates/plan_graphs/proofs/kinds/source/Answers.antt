use Rattle.std.proofs.Common.{◌∙◌, ap}
use Rattle.ps_meaning.specs.Shape.{in_memory_source}
use Rattle.ps_nodes.specs.declared.flow.FlowNode.TheVariants as flow
use Rattle.plan_graphs.proofs.Making.{is_made}
use Rattle.plan_graphs.proofs.kinds.source.Goals as goal

pub returns-clause-made : goal.returns-clause-made
returns-clause-made c =
    λ s ss.
    is_made (in_memory_source c.args.table.now) (in_memory_source c.in_ok-table.table) s ss (flow.InMemorySource c.new-node.result) (ap in_memory_source c.in_ok-table.ensures.same) c.new-node.ensures.new (λ x. x) tt tt (c.new-node.ensures.cut, c.new-node.ensures.seq_offset ∙ c.new.ensures)
