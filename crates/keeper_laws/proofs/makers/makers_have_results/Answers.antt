use Rattle.keeper_laws.proofs.MadeReached.{maker_results}
use Rattle.keeper_laws.proofs.makers.makers_have_results.Goals as goal

pub returns : goal.returns
returns c = λ F shape o w sound r n node there maker q d at. (maker_results F shape o w sound r n node there maker q d at).0
