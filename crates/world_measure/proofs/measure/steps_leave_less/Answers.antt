use Rattle.world_measure.proofs.Phase.{reached_fall}
use Rattle.world_measure.proofs.measure.steps_leave_less.Goals as goal

pub returns : goal.returns
returns c = λ F shape o w v r sound reached inside s. reached_fall F shape o w v r sound reached inside s
