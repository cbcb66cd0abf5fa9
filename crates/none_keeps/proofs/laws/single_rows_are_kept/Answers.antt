use Rattle.none_keeps.proofs.Singles.{single_distincts_keep}
use Rattle.none_keeps.proofs.laws.single_rows_are_kept.Goals as goal

pub returns : goal.returns
returns c = single_distincts_keep
