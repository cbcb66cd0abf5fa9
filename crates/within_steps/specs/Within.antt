-- Tables that lie within others, each within its own.
use Rattle.std.specs.Prelude.{List, [], ◌∷◌, ⊤}
use Rattle.ps_frame.specs.Tables.{Table}
use Rattle.ps_meaning.specs.Within.{Within}

abbrev pub AreWithin : List Table → List Table → Type 0
AreWithin [] [] = ⊤
AreWithin (p ∷ ps) (l ∷ ls) = Within p l × AreWithin ps ls
AreWithin _ _ = ⊥
