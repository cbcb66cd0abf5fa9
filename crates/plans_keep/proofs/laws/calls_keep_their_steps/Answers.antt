use Rattle.plans_keep.proofs.Plans.{root_kept}
use Rattle.plans_keep.proofs.laws.calls_keep_their_steps.Goals as goal

pub returns : goal.returns
returns c = root_kept
