use Rattle.std.proofs.Common.{List, ap, sym, ◌∙◌}
use Rattle.ps_frame.specs.Frames.{frame_of}
use Rattle.ps_frame.specs.Tables.{Fields}
use Rattle.ps_frame.specs.Series.{Series}
use Rattle.tool_ends.proofs.ToolColumns.{negated-columns, negated-none, then_ok}
use Rattle.tool_ends.proofs.functions.negate.Goals as goal

pub returns-then-is_empty : goal.returns-then-is_empty
returns-then-is_empty c =
    let f = c.args.df.now in
    let cs = c.get_columns-columns.result.now in
    then_ok c.share.result (λ x e. e ∙ negated-none f cs c.get_columns-columns.ensures.rows (sym c.is_empty.ensures ∙ c.if-is_empty.true)) c.share.ensures.same

pub returns : goal.returns
returns c =
    let f = c.args.df.now in
    let cs = c.get_columns-columns.result.now in
    then_ok c.new.result
    (λ x e. e ∙ ap (λ (s : Fields). frame_of s c.in_ok-done.done.items) (c.in_ok-schema.ensures.same ∙ c.schema.ensures) ∙ ap (λ (ds : List Series). frame_of f.schema ds) c.in_ok-done.ensures
    ∙ negated-columns f cs c.get_columns-columns.ensures.fields c.get_columns-columns.ensures.rows (sym c.is_empty.ensures ∙ c.if-is_empty.false))
    c.new.ensures.made
