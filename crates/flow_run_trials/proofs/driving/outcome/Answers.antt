-- The run is finished.
use Rattle.flow_run_trials.proofs.driving.outcome.Goals as goal

pub output-requires-clause-over : goal.output-requires-clause-over
output-requires-clause-over g c κs within =
    let F = c.requires.0 in
    let u = c.requires.1 in
    (F, u.shape, u.options, u.world, u.at, (c.finished.ensures F u.shape u.options u.world u.at).0 c.if-not-finished.false, u.one_sink)
