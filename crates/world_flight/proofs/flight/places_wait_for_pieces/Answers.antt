use Rattle.world_claims.proofs.ReachedFacts.{known_reached}
use Rattle.world_flight.proofs.Few.{places_wait}
use Rattle.world_flight.proofs.flight.places_wait_for_pieces.Goals as goal

pub returns : goal.returns
returns c = λ F shape o w n p sound r fills. places_wait F w n p (known_reached F shape o w sound r).facts fills
