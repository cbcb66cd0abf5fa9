use Rattle.select_keeps.proofs.Selects.{selects_keep}
use Rattle.select_keeps.proofs.laws.selects_are_kept.Goals as goal

pub returns : goal.returns
returns c = selects_keep
