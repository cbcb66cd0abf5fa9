-- Memory was taken, and else all is as before.
use Rattle.std.proofs.Common.{refl}
use Rattle.ps_flow.proofs.Moving.{reserved}
use Rattle.ps_flow.proofs.world.World.make_room.Goals as goal

pub returns-in_default-reserve_at-clause-stands : goal.returns-in_default-reserve_at-clause-stands
returns-in_default-reserve_at-clause-stands g c = λ w stands.
    reserved g.N.RunNode.Has w c.args.self.now stands c.args.node (record c.args.self.now.graph { nodes = c.reserve_at.new.nodes }) c.reserve_at.ensures.changed c.reserve_at.ensures.none refl c.reserve.new.self c.reserve.ensures.same c.reserve.ensures.kept

pub returns-clause-stands : goal.returns-clause-stands
returns-clause-stands g c = λ w stands.
    reserved g.N.RunNode.Has w c.args.self.now stands c.args.node (record c.args.self.now.graph { nodes = c.reserve_at.new.nodes }) c.reserve_at.ensures.changed c.reserve_at.ensures.none refl c.reserve.new.self c.reserve.ensures.same c.reserve.ensures.kept
