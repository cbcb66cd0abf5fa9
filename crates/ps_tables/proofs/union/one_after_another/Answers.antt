use Rattle.std.proofs.Common.{ap, ◌∙◌, sym}
use Rattle.std.proofs.lemmas.Result.{IfOk-weaker}
use Rattle.ps_frame.specs.Tables.{Frame}
use Rattle.ps_tables.proofs.Stacked.{has-all, joined-frame, joined-rows}
use Rattle.ps_tables.proofs.union.one_after_another.Goals as goal

pub returns-then-height-clause-rows : goal.returns-then-height-clause-rows
returns-then-height-clause-rows c =
    let all = has-all c.args.inputs.now c.loop-df.df-index c.df-item.result c.loop-df-test.true c.df-item.is (sym c.height.ensures.rows ∙ c.if-height.true ∙ c.requires.counted) in
    IfOk-weaker c.pass.result _ _ (λ f same. ap (λ (t : Frame). t.rows) same ∙ all) c.pass.ensures.same

pub frame_of_height-requires : goal.frame_of_height-requires
frame_of_height-requires c =
    joined-frame c.args.schema.now c.args.inputs.now c.in_ok-columns.columns.items c.args.height c.requires.counted c.in_ok-columns.ensures.values c.requires.few c.in_ok-columns.ensures.kinds

pub returns-clause-rows : goal.returns-clause-rows
returns-clause-rows c =
    let rows = joined-rows c.args.schema.now c.args.inputs.now c.in_ok-columns.columns.items c.args.height c.requires.counted c.in_ok-columns.ensures.values c.requires.alike c.tables_fit.ensures in
    IfOk-weaker c.frame_of_height.result _ _ (λ f made. made ∙ rows) c.frame_of_height.ensures.rows
