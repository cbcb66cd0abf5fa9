use Rattle.world_measure.proofs.OrderEnds as order
use Rattle.world_measure.proofs.measure.lists_end.Goals as goal

pub returns : goal.returns
returns c = λ ns. order.lists_end ns
