use Rattle.std.proofs.Common.{refl}
use Rattle.world_runs.proofs.small_worlds.pipes_by_port.Goals as goal

pub returns-clause-ports_in_order : goal.returns-clause-ports_in_order
returns-clause-ports_in_order c = refl

pub returns-clause-unread_not_live : goal.returns-clause-unread_not_live
returns-clause-unread_not_live c = refl
