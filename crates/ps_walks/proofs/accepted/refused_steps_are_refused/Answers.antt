use Rattle.ps_walks.proofs.Clean.{steps-refused}
use Rattle.ps_walks.proofs.accepted.refused_steps_are_refused.Goals as goal

pub returns : goal.returns
returns c = steps-refused
