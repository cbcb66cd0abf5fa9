-- Nothing was claimed of a new one.
use Rattle.std.proofs.Common.{ap}
use Rattle.turn_laws.specs.Updating.{SeenNode}
use Rattle.turn_trials.proofs.equi_joins.join.Goals as goal

pub returns : goal.returns
returns c = ap (λ (s : SeenNode). s.progress.sent) c.new-join.ensures.new
