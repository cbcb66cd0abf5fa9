use Rattle.world_claims.proofs.ReachedFacts.{known_reached}
use Rattle.world_bounds.proofs.Flight.{is_bounded_flight}
use Rattle.world_bounds.proofs.Givers.{reached_givers}
use Rattle.world_bounds.proofs.Rooms.{reached_room}
use Rattle.world_bounds.proofs.bounds.little_is_in_flight.Goals as goal

pub returns : goal.returns
returns c = λ F shape o w sound r. is_bounded_flight F w (known_reached F shape o w sound r) (reached_room F shape o w r) (reached_givers F shape o w sound r)
