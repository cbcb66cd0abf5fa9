use Rattle.std.proofs.Common.{List, ap, ◌∙◌}
use Rattle.ps_frame.specs.Frames.{column_values}
use Rattle.ps_frame.specs.Series.{Series}
use Rattle.ps_frame.specs.Tables.{rows_of}
use Rattle.ps_frame.proofs.frame_builder.FrameBuilder.finish.Goals as goal

pub new_with_height-requires : goal.new_with_height-requires
new_with_height-requires c = rw c.in_ok-columns.ensures.made c.self.invariant

pub returns-clause-made : goal.returns-clause-made
returns-clause-made c =
    let a = c.self.inside in
    let rows = c.new_with_height.ensures.rows ∙ ap (λ (cs : List Series). rows_of a.height (column_values cs)) c.in_ok-columns.ensures.made in
    (λ t. record { schema = c.new_with_height.ensures.schema t; rows = rows t }) ∙ c.self.view_is
