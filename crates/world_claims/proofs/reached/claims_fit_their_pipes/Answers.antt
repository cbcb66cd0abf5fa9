use Rattle.world_claims.proofs.Claiming.{fits_whole}
use Rattle.world_claims.proofs.ReachedFacts.{known_reached}
use Rattle.world_claims.proofs.reached.claims_fit_their_pipes.Goals as goal

pub returns : goal.returns
returns g = λ F shape o w n i node c sound r at on is. let h = known_reached F shape o w sound r in fits_whole F w h.facts h.numbers h.outs n i node at on c is
