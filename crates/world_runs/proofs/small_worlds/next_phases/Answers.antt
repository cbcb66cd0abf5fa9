use Rattle.std.proofs.Common.{refl}
use Rattle.world_runs.proofs.small_worlds.next_phases.Goals as goal

pub returns-clause-most_ready_first : goal.returns-clause-most_ready_first
returns-clause-most_ready_first c = refl

pub returns-clause-last_of_equals : goal.returns-clause-last_of_equals
returns-clause-last_of_equals c = refl

pub returns-clause-with_its_source : goal.returns-clause-with_its_source
returns-clause-with_its_source c = refl
