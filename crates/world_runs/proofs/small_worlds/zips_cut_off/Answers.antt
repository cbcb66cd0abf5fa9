use Rattle.std.proofs.Common.{refl}
use Rattle.world_runs.proofs.small_worlds.zips_cut_off.Goals as goal

pub returns-clause-heads_are_lost : goal.returns-clause-heads_are_lost
returns-clause-heads_are_lost c = refl

pub returns-clause-none_wait : goal.returns-clause-none_wait
returns-clause-none_wait c = refl
