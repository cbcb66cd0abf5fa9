use Rattle.world_flight.proofs.Paid.{hands_all_in}
use Rattle.world_flight.proofs.flight.claims_are_handed_in.Goals as goal

pub returns : goal.returns
returns c = λ F shape o w sound r. hands_all_in F shape o w sound r
