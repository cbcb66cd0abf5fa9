use Rattle.join_keeps.proofs.Joins.{joins_keep}
use Rattle.join_keeps.proofs.laws.keyed_joins_are_kept.Goals as goal

pub returns : goal.returns
returns c = λ F at schema s l r o has keyed known sl sr first second low. joins_keep F at schema s l r o has keyed known sl sr first second low
