use Rattle.world_laws.proofs.OnwardLaw.{onward-justified}
use Rattle.passing_laws.proofs.piecewise.passing_nodes_are_justified.Goals as goal

pub returns : goal.returns
returns c = λ F p s law from to holds. onward-justified F p s law from to holds
