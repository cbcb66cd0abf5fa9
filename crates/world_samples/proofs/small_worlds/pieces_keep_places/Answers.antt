use Rattle.std.proofs.Common.{refl}
use Rattle.world_samples.proofs.small_worlds.pieces_keep_places.Goals as goal

pub returns-clause-reduce : goal.returns-clause-reduce
returns-clause-reduce c = refl

pub returns-clause-filter : goal.returns-clause-filter
returns-clause-filter c = refl

pub returns-clause-flight : goal.returns-clause-flight
returns-clause-flight c = (refl, refl)

pub returns-clause-room : goal.returns-clause-room
returns-clause-room c = refl
