use Rattle.join_run_laws.proofs.JoinLaw.{joins_justified}
use Rattle.join_run_laws.proofs.fronts.joins_are_justified.Goals as goal

pub returns : goal.returns
returns c = λ F w n p j known at is holds. joins_justified F w n p j known at is holds
