use Rattle.std.proofs.Common.{refl}
use Rattle.world_runs.proofs.keepers.maps_wait.Goals as goal

pub returns-clause-it_waits : goal.returns-clause-it_waits
returns-clause-it_waits c = refl

pub returns-clause-blocked_while_waiting : goal.returns-clause-blocked_while_waiting
returns-clause-blocked_while_waiting c = refl

pub returns-clause-stays_while_waiting : goal.returns-clause-stays_while_waiting
returns-clause-stays_while_waiting c = refl

pub returns-clause-turns_once_filled : goal.returns-clause-turns_once_filled
returns-clause-turns_once_filled c = refl
