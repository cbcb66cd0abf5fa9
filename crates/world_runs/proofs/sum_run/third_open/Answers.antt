use Rattle.std.proofs.Common.{refl}
use Rattle.world_runs.specs.SumRun.{s3}
use Rattle.world_runs.proofs.Settled.{six}
use Rattle.world_runs.proofs.sum_run.third_open.Goals as goal

pub returns-clause-third_settled : goal.returns-clause-third_settled
returns-clause-third_settled c = six s3 refl (record { stage = refl; states = refl; agrees = refl; filled = refl }) (record { stage = refl; states = refl; agrees = refl; filled = refl }) (record { stage = refl; states = refl; agrees = refl; filled = refl })
    (record { stage = refl; states = refl; agrees = refl; filled = refl }) (record { stage = refl; states = refl; agrees = refl; filled = refl }) (record { stage = refl; states = refl; agrees = refl; filled = refl })

pub returns-clause-third_phase : goal.returns-clause-third_phase
returns-clause-third_phase c = refl

pub returns-clause-now_ready : goal.returns-clause-now_ready
returns-clause-now_ready c = refl

pub returns-clause-it_broadcasts : goal.returns-clause-it_broadcasts
returns-clause-it_broadcasts c = refl
