use Rattle.world_runs.proofs.RefusedSteps.{its_row as it-its_row, two_rows as it-two_rows, other_worker as it-other_worker, nothing_out as it-nothing_out}
use Rattle.world_runs.proofs.refused.hand_ins_want_a_result.Goals as goal

pub returns-clause-its_row : goal.returns-clause-its_row
returns-clause-its_row c = it-its_row

pub returns-clause-two_rows : goal.returns-clause-two_rows
returns-clause-two_rows c = it-two_rows

pub returns-clause-other_worker : goal.returns-clause-other_worker
returns-clause-other_worker c = it-other_worker

pub returns-clause-nothing_out : goal.returns-clause-nothing_out
returns-clause-nothing_out c = it-nothing_out
