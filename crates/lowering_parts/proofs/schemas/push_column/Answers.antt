use Rattle.std.proofs.Common.{ap, sym, ◌∙◌}
use Rattle.ps_frame.specs.Tables.{field_index}
use Rattle.lowering_parts.proofs.SchemaLemmas.{column_pushed}
use Rattle.lowering_parts.proofs.schemas.push_column.Goals as goal

pub returns-clause-added : goal.returns-clause-added
returns-clause-added c =
    column_pushed c.push_new.result c.args.name.now c.in_ok-copied.field-0 c.in-Some.place c.kind.result c.args.input.now c.args.schema.now c.push_new.new.schema
    (ap (λ n. field_index n c.args.input.now) (sym c.as_str.ensures) ∙ sym c.index_of.ensures ∙ c.in-Some.is) c.kind.ensures c.in_ok-copied.ensures.same c.push_new.ensures.added
