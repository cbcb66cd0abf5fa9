use Rattle.keeper_laws.proofs.MadeReached.{maker_opens}
use Rattle.keeper_laws.proofs.makers.updates_name_causes.Goals as goal

pub returns : goal.returns
returns c = λ F shape o w sound r n s shut run u node there maker cause found. maker_opens F shape o w sound r n s shut run u node there maker cause found
