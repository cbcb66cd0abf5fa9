use Rattle.ps_walks.proofs.Walks.{faults-answer}
use Rattle.ps_walks.proofs.computed.faults_are_causes.Goals as goal

pub returns : goal.returns
returns c = faults-answer
