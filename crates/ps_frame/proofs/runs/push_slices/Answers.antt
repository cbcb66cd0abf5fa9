use Rattle.std.proofs.Common.{length, refl, sym, ◌∙◌, arith}
use Rattle.std.proofs.lemmas.Option.{slice_get_read}
use Rattle.ps_frame.proofs.Seams.{part-later}
use Rattle.ps_frame.proofs.runs.push_slices.Goals as goal

pub loop-run-preserved : goal.loop-run-preserved
loop-run-preserved g c =
    let runs = c.args.runs.now in
    let here = slice_get_read runs (length runs) c.loop-run.run-index c.run-item.result refl (omega arith) c.run-item.is in
    let step = part-later runs c.loop-run.parts.items c.push_some.new.parts.items c.loop-run.run-index c.loop-run.left c.loop-run.skip c.run-item.result c.in_ok-part.part here c.in_ok-part.ensures.part c.in_ok-push_some.ensures.added in
    record {
      added = rw (c.saturating_sub-skip.ensures, c.len.ensures, c.len-left.ensures) (sym step ∙ c.loop-run.invariant.added);
      few = omega (arith, c.in_ok-push_some.ensures.few, c.loop-run.invariant.few);
    }
