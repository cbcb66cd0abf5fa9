use Rattle.std.proofs.Common.{refl}
use Rattle.world_runs.proofs.ends.pulls_let_go.Goals as goal

pub returns : goal.returns
returns c = refl
