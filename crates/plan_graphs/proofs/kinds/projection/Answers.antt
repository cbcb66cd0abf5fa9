use Rattle.std.proofs.Common.{[], ◌∷◌, ap, ◌∙◌}
use Rattle.ps_frame.specs.Tables.{Fields}
use Rattle.ps_meaning.specs.Shape.{simple_projection}
use Rattle.ps_nodes.specs.declared.flow.FlowNode.TheVariants as flow
use Rattle.plan_graphs.proofs.Making.{is_made}
use Rattle.ps_phys.specs.Shown.{stream_of}
use Rattle.graph_parts.specs.Read.{schemas_read}
use Rattle.plan_graphs.proofs.kinds.projection.Goals as goal

pub returns-clause-made : goal.returns-clause-made
returns-clause-made c =
    λ s.
    let ss = schemas_read c.args.phys.now.slots (stream_of c.args.input ∷ []) in
    is_made (simple_projection c.args.columns.now) (simple_projection c.into_vec-columns.result.items) s ss (flow.SimpleProjection c.new-node.result) (ap simple_projection (c.into_vec-columns.ensures ∙ c.in_ok-copies.ensures.same)) c.new-node.ensures.new (λ x. x) tt
    (ap (λ (t : Fields). t ∷ []) (c.new-node.ensures.input_schema ∙ c.in_ok-schema.ensures.schema)) tt
