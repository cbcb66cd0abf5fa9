use Rattle.world_ends.proofs.Endless.{reaches_end}
use Rattle.world_ends.proofs.runs.ends_are_reached.Goals as goal

pub returns : goal.returns
returns c = λ F shape o w sound never_stuck results reached. reaches_end F shape o never_stuck results w (c.runs_end.ensures F shape o w sound reached) reached
