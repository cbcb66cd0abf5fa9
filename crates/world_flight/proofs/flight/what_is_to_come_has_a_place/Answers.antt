use Rattle.world_claims.proofs.ReachedFacts.{known_reached}
use Rattle.world_flight.proofs.Few.{loads_fit}
use Rattle.world_flight.proofs.flight.what_is_to_come_has_a_place.Goals as goal

pub returns : goal.returns
returns c = λ F shape o w n p sound r fills. loads_fit F w n p (known_reached F shape o w sound r).facts fills
