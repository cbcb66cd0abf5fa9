use Rattle.world_moves.proofs.GoesOn.{open_goes_on}
use Rattle.world_moves.proofs.moves.phases_go_on.Goals as goal

pub returns : goal.returns
returns c = λ F shape o w sound reached run on. open_goes_on F shape o sound w reached run on
