use Rattle.ps_nodes.proofs.Found.{found_in_runs}
use Rattle.ps_nodes.proofs.laws.faults_are_those_of_runs.Goals as goal

pub returns : goal.returns
returns c = found_in_runs
