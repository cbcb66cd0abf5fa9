-- The node and what leaves it are closed.
use Rattle.std.proofs.Common.{arith}
use Rattle.ps_flow.proofs.Stepping.{closes}
use Rattle.ps_flow.proofs.world.World.close.Goals as goal

pub returns-clause-closed : goal.returns-clause-closed
returns-clause-closed g c = λ w x stands at.
    let room = c.in-Ok.ensures.spare in
    let workers = c.workers.ensures in
    closes g.N.RunNode.Has w c.args.self.now stands c.args.node x c.close.new.self c.close_outputs.new.pipes c.reserve.new.self c.append.new.self at c.close.ensures c.close_outputs.ensures c.reserve.ensures.same (omega (arith, room, workers)) c.append.ensures.records c.append.ensures.spare
