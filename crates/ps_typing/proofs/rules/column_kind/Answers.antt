use Rattle.std.proofs.Common.{sym, ◌∙◌, ap}
use Rattle.ps_frame.specs.Tables.{field_index}
use Rattle.ps_typing.proofs.Columns.{kind-at, unknown}
use Rattle.ps_typing.proofs.rules.column_kind.Goals as goal

pub returns-in-Some-clause-kind : goal.returns-in-Some-clause-kind
returns-in-Some-clause-kind c =
    kind-at c.args.name.now c.args.schema.now c.in-Some.place c.kind.result (ap (λ n. field_index n c.args.schema.now) (sym c.as_str.ensures) ∙ sym c.index_of.ensures ∙ c.in-Some.is) c.kind.ensures

pub returns-in-None-clause-refused : goal.returns-in-None-clause-refused
returns-in-None-clause-refused c =
    unknown c.args.at c.args.schema.now c.args.name.now c.column_not_found.result (ap (λ n. field_index n c.args.schema.now) (sym c.as_str.ensures) ∙ sym c.index_of.ensures ∙ c.in-None.is) c.column_not_found.ensures
