-- A want of memory is marked.
use Rattle.ps_flow.proofs.Telling.{is_marked}
use Rattle.ps_flow.proofs.world.World.open_phase.Goals as goal

pub returns-in-Err-clause-marked : goal.returns-in-Err-clause-marked
returns-in-Err-clause-marked g c = is_marked c.try_open.new.self c.run_short.new.self c.run_short.ensures.mark
