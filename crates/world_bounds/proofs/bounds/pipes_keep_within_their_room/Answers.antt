use Rattle.world_bounds.proofs.Rooms.{reached_room, room_of}
use Rattle.world_bounds.proofs.bounds.pipes_keep_within_their_room.Goals as goal

pub returns : goal.returns
returns c = λ F shape o w p r there bounded. room_of w (reached_room F shape o w r) p there bounded
