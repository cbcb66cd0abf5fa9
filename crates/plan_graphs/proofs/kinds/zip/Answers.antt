use Rattle.std.proofs.Common.{ap, ◌∙◌}
use Rattle.plan_graphs.proofs.Making.{zip_made}
use Rattle.ps_phys.specs.Shown.{streams_of}
use Rattle.graph_parts.specs.Read.{schemas_read}
use Rattle.plan_graphs.proofs.kinds.zip.Goals as goal

pub returns-clause-made : goal.returns-clause-made
returns-clause-made c =
    λ s. zip_made c.args.null_extend s (schemas_read c.args.phys.now.slots (streams_of c.args.inputs.now)) c.in_ok-schemas.schemas.items c.in_ok-node.node (c.in_ok-schemas.ensures.schemas ∙ ap (λ is. schemas_read c.args.phys.now.slots (streams_of is)) c.as_slice.ensures) c.in_ok-node.ensures.new c.in_ok-node.ensures.schemas
