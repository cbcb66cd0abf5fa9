use Rattle.std.proofs.Common.{◌≡◌, ◌++◌, ap, sym, ◌∙◌}
use Rattle.std.specs.Prelude.{Some, slice_get}
use Rattle.std.proofs.lemmas.Option.{same_Some}
use Rattle.ps_frame.specs.Frames.{kinds_of}
use Rattle.ps_frame.specs.Tables.{Frame}
use Rattle.ps_frame.specs.Series.{Series}
use Rattle.ps_tables.proofs.Stacked.{all-at, values-more}
use Rattle.ps_tables.proofs.union.joined_column.Goals as goal

pub with_column-requires : goal.with_column-requires
with_column-requires c =
    let kind = all-at (λ (f : Frame). slice_get (kinds_of f.schema) c.args.i ≡ Some c.args.dtype) c.args.inputs.now c.loop-df.df-index c.df-item.result c.requires.kind c.loop-df-test.true c.df-item.is in
    ap (λ (t : Series). t.kind) c.loop-df.invariant ∙ same_Some _ _ (sym kind ∙ c.column.ensures.kind)

pub loop-df-preserved : goal.loop-df-preserved
loop-df-preserved c =
    let more = values-more c.args.i c.args.inputs.now c.loop-df.df-index c.df-item.result c.loop-df-test.true c.df-item.is in
    c.in_ok-builder.ensures.added ∙ (λ j. record { kind = (c.loop-df.invariant j).kind; values = (c.loop-df.invariant j).values ++ c.column.ensures.values j }) ∙ (λ j. record { kind = c.args.dtype; values = sym more j })
