use Rattle.valid_plans.specs.Valid.{plan_with}
use Rattle.plain_queries.proofs.Walking.{Walking}
use Rattle.plain_queries.proofs.walk.walk.Given as goal

abbrev pub invariant-loop-place : goal.invariant-loop-place
invariant-loop-place g l = Walking (g.F.Functions.told l.functions) (plan_with l.valid l.exprs.items) l.order l.until l.place l.tables
