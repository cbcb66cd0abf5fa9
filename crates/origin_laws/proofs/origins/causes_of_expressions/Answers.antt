use Rattle.origin_laws.proofs.Sources.{of_expression}
use Rattle.origin_laws.proofs.origins.causes_of_expressions.Goals as goal

pub returns : goal.returns
returns c = λ node t e. of_expression node t e
