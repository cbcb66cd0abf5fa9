-- Of a new select none was claimed.
use Rattle.std.proofs.Common.{ap}
use Rattle.turn_laws.specs.Updating.{SeenNode}
use Rattle.turn_trials.proofs.selects.select.Goals as goal

pub returns : goal.returns
returns c = ap (λ (s : SeenNode). s.progress.sent) c.new-select.ensures
