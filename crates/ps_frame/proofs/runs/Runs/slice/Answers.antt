use Rattle.std.proofs.Common.{sym}
use Rattle.ps_frame.proofs.Seams.{part-seam}
use Rattle.ps_frame.specs.EndToEnd.{end_to_end}
use Rattle.ps_frame.proofs.runs.Runs.slice.Goals as goal

pub returns : goal.returns
returns g c =
    let a = c.self.inside in
    record {
      part = rw (c.in_ok-runs.ensures.laid, c.in_ok-push_slices.ensures.added, c.new-rest.ensures.items, c.as_slice.ensures.value, c.saturating_sub-skip.ensures, c.len.ensures, c.len-2.ensures, c.in_ok-first.ensures.part, ← c.self.view_is)
          (sym (part-seam c.args.length c.args.offset a.first (end_to_end a.rest.items)));
    }
