use Rattle.lowering_parts.proofs.SchemaLemmas.{fields_step}
use Rattle.lowering_parts.proofs.schemas.projected_schema.Goals as goal

pub loop-name-preserved : goal.loop-name-preserved
loop-name-preserved c =
    let h = c.in_ok-push_column.ensures.added in
    fields_step c.args.names.now c.args.input.now c.loop-name.schema c.push_column.new.schema c.loop-name.name-index h.0 c.name-item.result c.loop-name-test.true c.name-item.is h.1 h.2 c.loop-name.invariant
