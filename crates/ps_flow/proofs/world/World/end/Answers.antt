-- The phase is at its end.
use Rattle.std.proofs.Common.{arith}
use Rattle.ps_flow.proofs.Stepping.{ends}
use Rattle.ps_flow.proofs.world.World.end.Goals as goal

pub returns-clause-ended : goal.returns-clause-ended
returns-clause-ended g c = λ w stands.
    let room = c.in-Ok.ensures.spare in
    let workers = c.workers.ensures in
    ends g.N.RunNode.Has w c.args.self.now stands c.end.new.self c.end-2.new.self c.reserve.new.self c.append.new.self c.end.ensures c.end-2.ensures c.reserve.ensures.same (omega (arith, room, workers)) c.append.ensures.records c.append.ensures.spare
