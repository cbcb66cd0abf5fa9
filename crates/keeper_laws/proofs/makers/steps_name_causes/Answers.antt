use Rattle.keeper_laws.proofs.MadeReached.{maker_faults}
use Rattle.keeper_laws.proofs.makers.steps_name_causes.Goals as goal

pub returns : goal.returns
returns c = λ F shape o w sound r n node there maker on j cause f. maker_faults F shape o w sound r n node there maker on j cause f
