use Rattle.std.proofs.Common.{◌≡◌, ap, sym, ◌∙◌}
use Rattle.std.specs.Prelude.{None, Some}
use Rattle.std.proofs.lemmas.Result.{IfOk-weaker}
use Rattle.ps_frame.specs.Tables.{field_index}
use Rattle.ps_frame.specs.Series.{Series}
use Rattle.ps_tables.proofs.Named.{kind-there, stands-somewhere}
use Rattle.ps_tables.proofs.project.column_of.Goals as goal

pub unreachable-requires : goal.unreachable-requires
unreachable-requires c =
    let none : field_index c.args.name.now c.args.df.now.schema ≡ None = rw (← c.as_str.ensures, ← c.schema.ensures) (sym c.index_of.ensures ∙ c.in-None.is) in
    stands-somewhere c.args.name.now c.args.df.now.schema c.requires none

pub returns-clause-kind : goal.returns-clause-kind
returns-clause-kind c =
    let there : field_index c.args.name.now c.args.df.now.schema ≡ Some c.in-Some.i = rw (← c.as_str.ensures, ← c.schema.ensures) (sym c.index_of.ensures ∙ c.in-Some.is) in
    let kind = kind-there c.args.name.now c.args.df.now.schema c.in-Some.i c.column.result.now.kind c.requires there c.column.ensures.kind in
    IfOk-weaker c.shared.result _ _ (λ x same. kind ∙ ap (λ (t : Series). Some t.kind) (sym same)) c.shared.ensures.same
