use Rattle.std.proofs.Common.{refl}
use Rattle.world_runs.specs.SumRun.{s4}
use Rattle.world_runs.proofs.Settled.{six}
use Rattle.world_runs.proofs.sum_run.fourth_open.Goals as goal

pub returns-clause-fourth_settled : goal.returns-clause-fourth_settled
returns-clause-fourth_settled c = six s4 refl (record { stage = refl; states = refl; agrees = refl; filled = refl }) (record { stage = refl; states = refl; agrees = refl; filled = refl }) (record { stage = refl; states = refl; agrees = refl; filled = refl })
    (record { stage = refl; states = refl; agrees = refl; filled = refl }) (record { stage = refl; states = refl; agrees = refl; filled = refl }) (record { stage = refl; states = refl; agrees = refl; filled = refl })

pub returns-clause-nothing_left : goal.returns-clause-nothing_left
returns-clause-nothing_left c = refl

pub returns-clause-is_finished : goal.returns-clause-is_finished
returns-clause-is_finished c = refl
