use Rattle.std.proofs.Common.{[], ◌∷◌, refl}
use Rattle.group_steps.proofs.GroupSteps.{distinct-stands}
use Rattle.group_steps.proofs.laws.compared_names_stand.Goals as goal

pub returns : goal.returns
returns c = λ o d s ready. distinct-stands o (d ∷ []) d s refl ready
