-- The morsel was moved.
use Rattle.ps_flow.proofs.world.World.pull.Goals as goal

pub returns-clause-pulled : goal.returns-clause-pulled
returns-clause-pulled g c = λ F w y p m stands may. c.move_in.ensures F w y p m (c.make_room.ensures.stands w stands) may
