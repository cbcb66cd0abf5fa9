use Rattle.fault_origins.proofs.Ended.{names_node}
use Rattle.fault_origins.proofs.faults.faulty_runs_name_a_node.Goals as goal

pub returns : goal.returns
returns k = λ F shape o w c sound r e. names_node F shape o w sound r c e
