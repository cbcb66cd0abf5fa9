use Rattle.world_runs.proofs.RefusedSteps.{free as it-free, busy as it-busy, absent as it-absent, other_number as it-other_number}
use Rattle.world_runs.proofs.refused.claims_want_a_free_worker.Goals as goal

pub returns-clause-free : goal.returns-clause-free
returns-clause-free c = it-free

pub returns-clause-busy : goal.returns-clause-busy
returns-clause-busy c = it-busy

pub returns-clause-absent : goal.returns-clause-absent
returns-clause-absent c = it-absent

pub returns-clause-other_number : goal.returns-clause-other_number
returns-clause-other_number c = it-other_number
