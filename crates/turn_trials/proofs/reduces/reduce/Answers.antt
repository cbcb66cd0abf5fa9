-- Of a new reduce none was claimed.
use Rattle.std.proofs.Common.{ap}
use Rattle.turn_laws.specs.Updating.{SeenNode}
use Rattle.turn_trials.proofs.reduces.reduce.Goals as goal

pub returns : goal.returns
returns c = ap (λ (s : SeenNode). s.progress.sent) c.new-reduce.ensures.new
