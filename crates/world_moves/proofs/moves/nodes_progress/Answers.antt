use Rattle.world_moves.proofs.GoesOn.{progresses}
use Rattle.world_moves.proofs.moves.nodes_progress.Goals as goal

pub returns : goal.returns
returns c = λ F shape o w n sound reached run. progresses F shape o sound w reached run n
