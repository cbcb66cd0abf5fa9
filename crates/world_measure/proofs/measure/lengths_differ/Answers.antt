use Rattle.std.proofs.Common.{◌≡◌, ℕ, List, [], ◌∷◌, length, arith}
use Rattle.world_measure.proofs.OrderEnds.{same_length}
use Rattle.world_measure.proofs.measure.lengths_differ.Goals as goal

pub returns : goal.returns
returns c = λ less. let shorter : List ℕ = 0 ∷ [] in let longer : List ℕ = 1 ∷ 1 ∷ [] in let e : length shorter ≡ length longer = same_length shorter longer less in omega arith
