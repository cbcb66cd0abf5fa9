-- Valid plans with the schemas of their nodes.
use Rattle.std.specs.Prelude.{◌≡◌, ℕ, List, Some, slice_get}
use Rattle.pu_base.specs.declared.arena.Node.{Node}
use Rattle.ps_frame.specs.Functions.{Functions}
use Rattle.ps_frame.specs.declared.expr.AExpr.{AExpr}
use Rattle.ps_plan.specs.Graph.{Reached}
use Rattle.ps_plan.specs.Plans.{Plan, tree_of}
use Rattle.ps_plan.specs.Refusals.{IsValid}
use Rattle.ps_meaning.specs.Schemas.{tree_schema}
use Rattle.ps_plan.specs.declared.ir.IR.{IR}
use Rattle.ps_walks.specs.Fit.{HasSchemas}
use Rattle.valid_plans.specs.Known.{Known}
use Rattle.valid_plans.specs.Surveys.{IsSurvey}

-- the schema of each node that the root leads to is known
abbrev pub HaveSchemas : Functions → Plan → Known → Type 0
HaveSchemas F plan known = (n : ℕ) → Reached plan n → slice_get known n ≡ Some (Some (tree_schema F (tree_of plan n)))

-- a root and an arena of nodes, with schemas of nodes and an order of them
pub record ValidNodes : Type 0 where
  pub root : Node
  pub nodes : List IR
  pub schemas : Known
  pub order : List ℕ

-- the plan that these nodes are with an arena of expressions
abbrev pub plan_with : ValidNodes → List AExpr → Plan
plan_with v exprs = record { nodes = v.nodes; exprs = exprs; root = v.root }

-- with these expressions the plan is valid, the schemas are those of its nodes, each step has its schema over those of its inputs, and the order is a survey of the plan
pub record IsValidWith (F : Functions) (v : ValidNodes) (exprs : List AExpr) : Type 0 where
  pub valid : IsValid F (plan_with v exprs)
  pub schemas : HaveSchemas F (plan_with v exprs) v.schemas
  pub typed : HasSchemas F (plan_with v exprs)
  pub survey : IsSurvey (plan_with v exprs) v.order
