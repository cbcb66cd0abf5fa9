use Rattle.world_bounds.proofs.Spent.{claims_all}
use Rattle.world_bounds.proofs.bounds.sources_claim_all.Goals as goal

pub returns : goal.returns
returns c = λ F shape o w sound r. claims_all F shape o w sound r
