use Rattle.none_keeps.proofs.Singles.{single_distincts_stay}
use Rattle.none_keeps.proofs.laws.single_rows_stay_within.Goals as goal

pub returns : goal.returns
returns c = single_distincts_stay
