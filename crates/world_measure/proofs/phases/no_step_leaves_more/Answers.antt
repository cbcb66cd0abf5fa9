use Rattle.world_measure.proofs.OverPhases.{reached_never_more, reached_takes_less}
use Rattle.world_measure.proofs.phases.no_step_leaves_more.Goals as goal

pub returns-clause-no_more : goal.returns-clause-no_more
returns-clause-no_more c = λ F shape o w v r sound reached s. reached_never_more F shape o w v r sound reached s

pub returns-clause-less : goal.returns-clause-less
returns-clause-less c = λ F shape o w v r sound reached taken s. reached_takes_less F shape o w v r sound reached taken s
