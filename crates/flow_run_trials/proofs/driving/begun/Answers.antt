-- The run is at the opening of the graph's shape.
use Rattle.ps_world.specs.Opening.{opening}
use Rattle.flow_run_trials.proofs.driving.begun.Goals as goal

pub returns-in-Ok : goal.returns-in-Ok
returns-in-Ok g c = λ F ready. record { shape = ready.shape; one_sink = ready.one_sink; options = c.args.options.now; world = opening ready.shape c.args.options.now; at = c.in-Ok.ensures.begun F ready.shape ready.driven ready.built }
