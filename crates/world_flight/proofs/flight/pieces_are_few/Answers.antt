use Rattle.world_claims.proofs.ReachedFacts.{known_reached}
use Rattle.world_flight.proofs.Few.{few_pieces}
use Rattle.world_flight.proofs.flight.pieces_are_few.Goals as goal

pub returns : goal.returns
returns c = λ F shape o w sound r. few_pieces F w (known_reached F shape o w sound r).facts
