use Rattle.std.proofs.Common.{refl, arith}
use Rattle.world_runs.proofs.joins.joins_probe.Goals as goal

pub returns-clause-starts_probing : goal.returns-clause-starts_probing
returns-clause-starts_probing c = refl

pub returns-clause-probing_ports : goal.returns-clause-probing_ports
returns-clause-probing_ports c = refl

pub returns-clause-under_its_number : goal.returns-clause-under_its_number
returns-clause-under_its_number c = refl

pub returns-clause-over_all_right : goal.returns-clause-over_all_right
returns-clause-over_all_right c = refl

pub returns-clause-keeps_no_left : goal.returns-clause-keeps_no_left
returns-clause-keeps_no_left c = refl

pub returns-clause-probed : goal.returns-clause-probed
returns-clause-probed c = λ F. (refl, refl, refl, omega arith)
