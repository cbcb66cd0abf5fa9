use Rattle.ps_frame.proofs.Lists.{take-window}
use Rattle.ps_frame.proofs.run.Run.slice.Goals as goal

pub returns : goal.returns
returns g c =
    let fields = c.self.inside in
    rw (← c.self.view_is, c.min.ensures, c.min-from.ensures, c.in_ok-shared.ensures.cases)
    (record { part = take-window fields.start fields.len c.args.offset c.args.length fields.shared.value.items })
