use Rattle.std.proofs.Common.{◌≡◌, sym, ◌∙◌}
use Rattle.std.specs.Prelude.{None, Some}
use Rattle.ps_frame.specs.Tables.{field_index}
use Rattle.ps_expr_eval.proofs.Evaluating.{column-evaluates, no_kind}
use Rattle.ps_expr_eval.proofs.sources.column_part.Goals as goal

pub unreachable-requires : goal.unreachable-requires
unreachable-requires c =
    let none : field_index c.args.name.now c.args.df.now.schema ≡ None = rw (← c.as_str.ensures, ← c.schema.ensures) (sym c.index_of.ensures ∙ c.in-None.is) in
    no_kind c.args.name.now c.args.df.now.schema none c.requires

pub returns : goal.returns
returns c =
    let there : field_index c.args.name.now c.args.df.now.schema ≡ Some c.in-Some.i = rw (← c.as_str.ensures, ← c.schema.ensures) (sym c.index_of.ensures ∙ c.in-Some.is) in
    column-evaluates c.args.df.now c.args.name.now c.in-Some.i c.column.result.now c.shared_part.result there c.column.ensures.kind c.column.ensures.values c.shared_part.ensures.kind c.shared_part.ensures.cells
