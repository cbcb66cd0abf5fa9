use Rattle.part_laws.proofs.OneCause.{column-is, lost-over}
use Rattle.part_laws.proofs.reduces.elementwise_expressions_make_one_cause.Goals as goal

pub returns-clause-found : goal.returns-clause-found
returns-clause-found c = λ node s t h k rows cause m. column-is node s t h k rows cause m

pub returns-clause-lost : goal.returns-clause-lost
returns-clause-lost c = λ node s t h k rows cause m. lost-over node s t h k rows cause m
