use Rattle.join_laws.proofs.Laws.{hides}
use Rattle.join_laws.proofs.joining.faults_hide_pairs.Goals as goal

pub returns : goal.returns
returns c = λ F p j l r is x rest causes rights cause cs e. hides F p j l r is x rest causes rights cause cs e
