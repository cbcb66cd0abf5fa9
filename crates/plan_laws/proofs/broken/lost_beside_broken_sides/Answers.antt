use Rattle.plan_laws.proofs.BrokenRows.{lost-left, lost-right}
use Rattle.plan_laws.proofs.broken.lost_beside_broken_sides.Goals as goal

pub returns-clause-of_the_right : goal.returns-clause-of_the_right
returns-clause-of_the_right c = lost-right

pub returns-clause-of_the_left : goal.returns-clause-of_the_left
returns-clause-of_the_left c = lost-left
