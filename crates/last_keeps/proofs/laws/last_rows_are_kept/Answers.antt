use Rattle.last_keeps.proofs.Lasts.{last_distincts_keep}
use Rattle.last_keeps.proofs.laws.last_rows_are_kept.Goals as goal

pub returns : goal.returns
returns c = last_distincts_keep
