use Rattle.origin_laws.proofs.Sources.{of_case, of_step}
use Rattle.origin_laws.proofs.origins.causes_of_steps.Goals as goal

pub returns-clause-before : goal.returns-clause-before
returns-clause-before c = λ F at step ts U g. of_step F at step ts U g

pub returns-clause-after : goal.returns-clause-after
returns-clause-after c = λ F at step ts T g. of_case F at step ts T g
