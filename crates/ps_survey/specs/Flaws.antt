-- The flaws of a plan that its two arenas decide.
use Rattle.std.specs.Prelude.{◌≡◌, ℕ, ◌<◌, ◌≤◌, List, length, Contains}
use Rattle.pu_base.specs.declared.arena.Node.{Node}
use Rattle.ps_frame.specs.declared.expr.AExpr.{AExpr}
use Rattle.ps_frame.specs.declared.refusal.PolarsError.{PolarsError}
use Rattle.ps_frame.specs.declared.refusal.PolarsError.TheVariants as error
use Rattle.ps_frame.specs.declared.refusal.Why.{Why}
use Rattle.ps_frame.specs.declared.refusal.Why.TheVariants as why
use Rattle.ps_meaning.specs.Errors.{refusal_error}
use Rattle.ps_plan.specs.Graph.{ExprReachesItself, HasNoCircle, Names, ReachesItself, Reached, inputs_at}
use Rattle.ps_meaning.specs.PlanTrees.{depth, occurrences}
use Rattle.ps_plan.specs.Plans.{Plan, tree_of}
use Rattle.ps_meaning.specs.StepRefusals.{invalid_plan}
use Rattle.ps_plan.specs.declared.ir.IR.{IR}

-- the plan of a root and two arenas
abbrev pub plan_of : Node → List IR → List AExpr → Plan
plan_of root nodes exprs = record { nodes = nodes; exprs = exprs; root = root }

-- a number is out of range, something reaches itself, or a limit is passed; it is held against the node
pub data Flaw (plan : Plan) (n : ℕ) : Why → Type 0 where
  root_missing : n ≡ plan.root.0 → length plan.nodes ≤ n → Flaw plan n why.Shape
  input_missing : (m : ℕ) → Contains (inputs_at plan n) m → length plan.nodes ≤ m → Flaw plan n why.Shape
  expr_missing : (e : ℕ) → Names plan n e → length plan.exprs ≤ e → Flaw plan n why.Shape
  in_circle : ReachesItself plan n → Flaw plan n why.Shape
  expr_in_circle : (e : ℕ) → Names plan n e → ExprReachesItself plan e → Flaw plan n why.Shape
  too_deep : HasNoCircle plan n → 256 < depth (tree_of plan n) → Flaw plan n why.Limits
  too_large : HasNoCircle plan n → 65536 < occurrences (tree_of plan n) → Flaw plan n why.Limits

-- a flaw of a reached node, as it is answered
pub record IsFlaw (plan : Plan) (e : PolarsError) : Type 0 where
  pub node : ℕ
  pub reason : Why
  pub is : e ≡ refusal_error node (invalid_plan reason)
  pub reached : Reached plan node
  pub flaw : Flaw plan node reason

-- a flaw of a reached node, or want of memory
pub data IsFlawOrMemory (plan : Plan) : PolarsError → Type 0 where
  flawed : {e : PolarsError} → IsFlaw plan e → IsFlawOrMemory plan e
  memory : IsFlawOrMemory plan error.OutOfMemory
