use Rattle.plan_laws.proofs.ShapeRows.{sum-means, sum-only, sum-sound}
use Rattle.plan_laws.proofs.shapes.sum_beside_a_column.Goals as goal

pub returns-clause-sound : goal.returns-clause-sound
returns-clause-sound c = sum-sound

pub returns-clause-means : goal.returns-clause-means
returns-clause-means c = sum-means

pub returns-clause-nothing_else : goal.returns-clause-nothing_else
returns-clause-nothing_else c = sum-only
