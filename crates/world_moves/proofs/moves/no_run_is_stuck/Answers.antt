use Rattle.world_rest.proofs.Rest.{rest_from_known}
use Rattle.world_moves.proofs.GoesOn.{not_stuck}
use Rattle.world_moves.proofs.moves.no_run_is_stuck.Goals as goal

pub returns : goal.returns
returns c = λ F shape o sound w reached run. not_stuck F shape o sound w reached run (rest_from_known F)
