-- Arenas of nodes and expressions that grow.
use Rattle.std.specs.Prelude.{◌≡◌, List}
use Rattle.pu_base.specs.declared.arena.Node.{Node}
use Rattle.ps_frame.specs.Trees.{IsExpression, tree_at}
use Rattle.ps_frame.specs.declared.expr.AExpr.{AExpr}
use Rattle.ps_plan.specs.Plans.{IsPlan, plan_at}
use Rattle.ps_plan.specs.declared.ir.IR.{IR}

-- each expression has its tree in the greater arena too
abbrev pub KeepsTrees : List AExpr → List AExpr → Type 0
KeepsTrees exprs more = (n : Node) → IsExpression exprs n → tree_at more n ≡ tree_at exprs n

-- each node has its tree in the greater arenas too
abbrev pub KeepsPlans : (nodes : List IR) (exprs : List AExpr) (more_nodes : List IR) (more_exprs : List AExpr) → Type 0
KeepsPlans nodes exprs more_nodes more_exprs = (n : Node) → IsPlan nodes exprs n → plan_at more_nodes more_exprs n ≡ plan_at nodes exprs n
