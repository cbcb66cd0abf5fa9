-- All out of the phase, and then some into it.
use Rattle.ps_flow.proofs.marks.Marks.open.Goals as goal

pub returns : goal.returns
returns c = c.take_in.ensures c.args.self.now.list.items c.leave_out.ensures
