use Rattle.std.proofs.Common.{refl}
use Rattle.world_runs.proofs.joins.joins_build.Goals as goal

pub returns-clause-builds_right : goal.returns-clause-builds_right
returns-clause-builds_right c = refl

pub returns-clause-keeps_a_place : goal.returns-clause-keeps_a_place
returns-clause-keeps_a_place c = refl

pub returns-clause-builds_not_left : goal.returns-clause-builds_not_left
returns-clause-builds_not_left c = refl

pub returns-clause-heavy_while_building : goal.returns-clause-heavy_while_building
returns-clause-heavy_while_building c = refl

pub returns-clause-building_ports : goal.returns-clause-building_ports
returns-clause-building_ports c = refl
