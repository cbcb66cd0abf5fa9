use Rattle.world_claims.proofs.ReachedFacts.{known_reached}
use Rattle.world_claims.proofs.reached.satisfied_slices_halt.Goals as goal
use Rattle.world_facts.proofs.Halting.{halts}

pub returns : goal.returns
returns c = λ F shape o w sound r. halts F w (known_reached F shape o w sound r).facts
