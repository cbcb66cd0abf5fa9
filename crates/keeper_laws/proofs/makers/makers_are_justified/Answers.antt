use Rattle.keeper_laws.proofs.MadeLaw.{makers_are_justified}
use Rattle.keeper_laws.proofs.makers.makers_are_justified.Goals as goal

pub returns : goal.returns
returns c = λ F shape o w n p lawful sound r e is. makers_are_justified F shape o w n p lawful sound r e is
