use Rattle.world_claims.proofs.ReachedFacts.{known_reached}
use Rattle.world_flight.proofs.Halted.{stays_halted}
use Rattle.world_flight.proofs.flight.halted_nodes_stay_so.Goals as goal

pub returns : goal.returns
returns c = λ F shape o w sound r. stays_halted F w (known_reached F shape o w sound r)
