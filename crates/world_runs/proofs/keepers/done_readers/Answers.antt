use Rattle.std.proofs.Common.{refl}
use Rattle.world_runs.proofs.keepers.done_readers.Goals as goal

pub returns : goal.returns
returns c = refl
