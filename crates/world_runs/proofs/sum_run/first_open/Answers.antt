use Rattle.std.proofs.Common.{refl}
use Rattle.world_runs.specs.SumRun.{s1}
use Rattle.world_runs.proofs.Settled.{six}
use Rattle.world_runs.proofs.sum_run.first_open.Goals as goal

pub returns-clause-first_updates : goal.returns-clause-first_updates
returns-clause-first_updates c = refl

pub returns-clause-first_settled : goal.returns-clause-first_settled
returns-clause-first_settled c = six s1 refl (record { stage = refl; states = refl; agrees = refl; filled = refl }) (record { stage = refl; states = refl; agrees = refl; filled = refl }) (record { stage = refl; states = refl; agrees = refl; filled = refl })
    (record { stage = refl; states = refl; agrees = refl; filled = refl }) (record { stage = refl; states = refl; agrees = refl; filled = refl }) (record { stage = refl; states = refl; agrees = refl; filled = refl })

pub returns-clause-first_blockers : goal.returns-clause-first_blockers
returns-clause-first_blockers c = refl

pub returns-clause-first_phase : goal.returns-clause-first_phase
returns-clause-first_phase c = refl

pub returns-clause-first_pipes : goal.returns-clause-first_pipes
returns-clause-first_pipes c = refl
