use Rattle.std.proofs.Common.{refl}
use Rattle.world_runs.proofs.keepers.reduces_give.Goals as goal

pub returns-clause-its_row : goal.returns-clause-its_row
returns-clause-its_row c = refl

pub returns-clause-no_second_row : goal.returns-clause-no_second_row
returns-clause-no_second_row c = refl
