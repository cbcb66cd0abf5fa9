-- Memory was taken, and then the claim is made.
use Rattle.ps_flow.proofs.world.World.carry_out.Goals as goal

pub returns-clause-made : goal.returns-clause-made
returns-clause-made g c = λ F w x cl stands may names gives. c.make.ensures.made F w x cl (c.in-Ok.ensures.placed F w c.args.seat.input c.args.seat.worker x cl stands may) may names gives
