use Rattle.std.proofs.Common.{length, refl, ◌∙◌, arith}
use Rattle.std.proofs.lemmas.Option.{slice_get_read}
use Rattle.ps_frame.proofs.Starts.{left-later, noted-later}
use Rattle.ps_frame.proofs.runs.starts_of.Goals as goal

pub loop-run-preserved : goal.loop-run-preserved
loop-run-preserved g c =
    let runs = c.args.runs.now in
    let here = slice_get_read runs (length runs) c.loop-run.run-index c.run-item.result refl (omega arith) c.run-item.is in
    rw c.len-next.ensures (record {
      noted = noted-later runs c.loop-run.starts.items c.push.new.self.items c.loop-run.run-index c.loop-run.next c.run-item.result here c.in_ok-push.ensures.items ∙ c.loop-run.invariant.noted;
      left = left-later runs c.loop-run.run-index c.loop-run.next c.run-item.result here ∙ c.loop-run.invariant.left;
    })
