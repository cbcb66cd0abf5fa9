use Rattle.family_fronts.proofs.UnionLaw.{unions_justified}
use Rattle.family_fronts.proofs.fronts.unions_are_justified.Goals as goal

pub returns : goal.returns
returns c = λ F w n p known e is_one h. unions_justified F w n p known e is_one h
