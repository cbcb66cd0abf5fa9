use Rattle.std.proofs.Common.{refl}
use Rattle.world_runs.proofs.joins.full_joins_end.Goals as goal

pub returns-clause-full_goes_on : goal.returns-clause-full_goes_on
returns-clause-full_goes_on c = refl

pub returns-clause-full_ready : goal.returns-clause-full_ready
returns-clause-full_ready c = refl

pub returns-clause-full_ends : goal.returns-clause-full_ends
returns-clause-full_ends c = refl

pub returns-clause-keeps_left : goal.returns-clause-keeps_left
returns-clause-keeps_left c = refl

pub returns-clause-its_number : goal.returns-clause-its_number
returns-clause-its_number c = refl

pub returns-clause-its_rows : goal.returns-clause-its_rows
returns-clause-its_rows c = refl

pub returns-clause-none_before : goal.returns-clause-none_before
returns-clause-none_before c = refl

pub returns-clause-none_after : goal.returns-clause-none_after
returns-clause-none_after c = refl
