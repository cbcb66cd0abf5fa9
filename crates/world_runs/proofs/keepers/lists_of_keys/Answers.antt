use Rattle.std.proofs.Common.{refl}
use Rattle.world_runs.proofs.keepers.lists_of_keys.Goals as goal

pub returns-clause-its_keys : goal.returns-clause-its_keys
returns-clause-its_keys c = refl

pub returns-clause-part_of_one : goal.returns-clause-part_of_one
returns-clause-part_of_one c = refl

pub returns-clause-part_of_none : goal.returns-clause-part_of_none
returns-clause-part_of_none c = refl

pub returns-clause-second_list : goal.returns-clause-second_list
returns-clause-second_list c = refl
