use Rattle.replacing_keeps.proofs.Replacing.{replacing_columns_keep}
use Rattle.replacing_keeps.proofs.laws.replacing_columns_are_kept.Goals as goal

pub returns : goal.returns
returns c = λ F at s i es gs cells some fields apart ready low. replacing_columns_keep F at s i es gs cells some fields apart ready low
