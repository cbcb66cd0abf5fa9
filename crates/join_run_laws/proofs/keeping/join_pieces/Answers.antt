use Rattle.join_run_laws.proofs.Held.{opens_find_none, reached_names, reached_result}
use Rattle.join_run_laws.proofs.keeping.join_pieces.Goals as goal

pub returns-clause-results : goal.returns-clause-results
returns-clause-results c = λ F shape o w n p j sound r at is q cq e. reached_result F shape o w sound r n p j at is q cq e

pub returns-clause-causes : goal.returns-clause-causes
returns-clause-causes c = λ F shape o w n p j sound r at is q cq e cause result. reached_names F shape o w sound r n p j at is q cq e cause result

pub returns-clause-opens : goal.returns-clause-opens
returns-clause-opens c = λ F s n node j cause there is found. opens_find_none F s n node j cause there is found
