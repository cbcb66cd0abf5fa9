use Rattle.world_runs.proofs.RunEnd.{filter_result}
use Rattle.world_runs.proofs.runs.filters.Goals as goal

pub returns : goal.returns
returns c = λ F. filter_result F
