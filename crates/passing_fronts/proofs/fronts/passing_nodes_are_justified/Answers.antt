use Rattle.passing_fronts.proofs.PassingLaw.{passing_justified}
use Rattle.passing_fronts.proofs.fronts.passing_nodes_are_justified.Goals as goal

pub returns : goal.returns
returns c = λ F w n p known there passing holds. passing_justified F w n p known there passing holds
