use Rattle.std.proofs.Common.{refl}
use Rattle.world_runs.proofs.joins.left_joins_end.Goals as goal

pub returns-clause-left_ends : goal.returns-clause-left_ends
returns-clause-left_ends c = refl

pub returns-clause-none_of_a_left_join : goal.returns-clause-none_of_a_left_join
returns-clause-none_of_a_left_join c = refl
