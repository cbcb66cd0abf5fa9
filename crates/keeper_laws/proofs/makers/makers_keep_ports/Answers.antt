use Rattle.keeper_laws.proofs.MadeReached.{maker_ports}
use Rattle.keeper_laws.proofs.makers.makers_keep_ports.Goals as goal

pub returns : goal.returns
returns c = λ F shape o w sound r n s shut run u node there maker rest. maker_ports F shape o w sound r n s shut run u node there maker rest
