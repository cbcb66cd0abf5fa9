use Rattle.family_pipes.proofs.Begins.{begins}
use Rattle.family_pipes.proofs.openings.openings_hold.Goals as goal

pub returns : goal.returns
returns c = λ F shape o n. begins F shape o n
