use Rattle.std.proofs.Common.{[], None, ap}
use Rattle.std.specs.Prelude.{unwrap_or}
use Rattle.ps_plan.specs.Plans.{tree_of}
use Rattle.ps_meaning.specs.Schemas.{tree_schema}
use Rattle.valid_plans.proofs.laws.schemas_are_known.Goals as goal
use Rattle.valid_plans.specs.Valid.{plan_with}

pub returns-clause-known : goal.returns-clause-known
returns-clause-known c = λ F v exprs n h reached. (tree_schema F (tree_of (plan_with v exprs) n), h.schemas n reached)

pub returns-clause-schema : goal.returns-clause-schema
returns-clause-schema c = λ F v exprs n h reached. ap (λ o. unwrap_or (unwrap_or o None) []) (h.schemas n reached)
