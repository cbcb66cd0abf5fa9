use Rattle.origin_laws.proofs.Sources.{of_physical}
use Rattle.origin_laws.proofs.origins.causes_over_whole_inputs.Goals as goal

pub returns : goal.returns
returns k = λ F p ts U whole b c there. of_physical F p ts U whole b c there
