use Rattle.std.proofs.Common.{refl, arith}
use Rattle.world_runs.proofs.joins.full_joins_give.Goals as goal

pub returns-clause-full_front : goal.returns-clause-full_front
returns-clause-full_front c = λ F. (refl, refl, refl, omega arith)

pub returns-clause-ends_with_right : goal.returns-clause-ends_with_right
returns-clause-ends_with_right c = λ F. (refl, refl, refl, omega arith)
