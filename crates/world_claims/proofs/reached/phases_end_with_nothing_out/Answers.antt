use Rattle.world_claims.proofs.PhaseEnds.{none_out}
use Rattle.world_claims.proofs.ReachedFacts.{known_reached}
use Rattle.world_claims.proofs.reached.phases_end_with_nothing_out.Goals as goal

pub returns : goal.returns
returns c = λ F shape o w v phase sound r s. none_out F w v phase (known_reached F shape o w sound r).facts s
