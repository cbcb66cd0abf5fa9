use Rattle.std.proofs.Common.{refl}
use Rattle.world_runs.specs.SumRun.{s2}
use Rattle.world_runs.proofs.Settled.{six}
use Rattle.world_runs.proofs.sum_run.second_open.Goals as goal

pub returns-clause-second_settled : goal.returns-clause-second_settled
returns-clause-second_settled c = six s2 refl (record { stage = refl; states = refl; agrees = refl; filled = refl }) (record { stage = refl; states = refl; agrees = refl; filled = refl }) (record { stage = refl; states = refl; agrees = refl; filled = refl })
    (record { stage = refl; states = refl; agrees = refl; filled = refl }) (record { stage = refl; states = refl; agrees = refl; filled = refl }) (record { stage = refl; states = refl; agrees = refl; filled = refl })

pub returns-clause-second_blockers : goal.returns-clause-second_blockers
returns-clause-second_blockers c = refl

pub returns-clause-second_phase : goal.returns-clause-second_phase
returns-clause-second_phase c = refl

pub returns-clause-not_known : goal.returns-clause-not_known
returns-clause-not_known c = refl
