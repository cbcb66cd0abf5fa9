use Rattle.std.proofs.Common.{List, subst}
use Rattle.ps_frame.specs.Series.{Series}
use Rattle.ps_rows.proofs.Placing.{placed-frame}
use Rattle.ps_rows.specs.Placed.{TakesPlaces}
use Rattle.ps_rows.proofs.hstack.placed.Goals as goal

pub frame_of_height-requires : goal.frame_of_height-requires
frame_of_height-requires c =
    placed-frame c.args.old.now c.args.new.now c.args.zip.now.columns.items c.args.schema.now c.in-Ok.columns.items c.args.zip.now.height c.requires.places
    (subst (λ (cs : List Series). TakesPlaces c.args.old.now c.args.new.now cs c.args.schema.now c.in-Ok.columns.items) c.as_slice.ensures.value c.in-Ok.ensures) c.requires.zip.0 c.requires.zip.1
