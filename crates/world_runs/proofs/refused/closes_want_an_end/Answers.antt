use Rattle.world_runs.proofs.RefusedSteps.{all_given as it-all_given, one_left as it-one_left, one_out as it-one_out}
use Rattle.world_runs.proofs.refused.closes_want_an_end.Goals as goal

pub returns-clause-all_given : goal.returns-clause-all_given
returns-clause-all_given c = it-all_given

pub returns-clause-one_left : goal.returns-clause-one_left
returns-clause-one_left c = it-one_left

pub returns-clause-one_out : goal.returns-clause-one_out
returns-clause-one_out c = it-one_out
