use Rattle.fault_origins.proofs.Results.{of_open}
use Rattle.fault_origins.proofs.faults.faults_of_opens.Goals as goal

pub returns : goal.returns
returns k = λ F s n p c e found. of_open F s n p c e found
