use Rattle.join_laws.proofs.Laws.{kept}
use Rattle.join_laws.proofs.joining.kept_morsels_are_whole.Goals as goal

pub returns : goal.returns
returns c = λ F p j l r is rights all. kept F p j l r is rights all
