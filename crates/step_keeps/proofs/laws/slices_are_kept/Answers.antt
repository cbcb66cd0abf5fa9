use Rattle.step_keeps.proofs.Cuts.{slices_keep, unions_keep}
use Rattle.step_keeps.proofs.laws.slices_are_kept.Goals as goal

pub returns-clause-slices : goal.returns-clause-slices
returns-clause-slices c = λ F at schema s offset n i. slices_keep F at s i schema offset n

pub returns-clause-unions : goal.returns-clause-unions
returns-clause-unions c = unions_keep
