use Rattle.keeper_laws.proofs.MadeLaw.{makers_hold}
use Rattle.keeper_laws.proofs.makers.makers_hold.Goals as goal

pub returns : goal.returns
returns c = λ F shape o w n p sound r e is. makers_hold F shape o w n p sound r e is
