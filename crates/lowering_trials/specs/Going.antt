-- What the trials ask of a plan, of the arena of its expressions and of a lowering, while the plan's nodes are lowered.
use Rattle.std.specs.Prelude.{List, slice_get}
use Rattle.std.specs.List.{AllByRecursion}
use Rattle.pu_base.specs.declared.arena.Node.{Node}
use Rattle.ps_frame.specs.Functions.{Functions}
use Rattle.ps_frame.specs.Trees.{IsComplete, tree_at}
use Rattle.ps_frame.specs.declared.expr.AExpr.{AExpr}
use Rattle.ps_fresh.specs.Known.{Remembers}
use Rattle.ps_fresh.specs.declared.lowering.Lowering.{Lowering}
use Rattle.ps_meaning.specs.Steps.{step_exprs}
use Rattle.ps_plan.specs.Entries.{entry_inputs, entry_step}
use Rattle.ps_plan.specs.Graph.{Path, named_by}
use Rattle.ps_plan.specs.declared.ir.IR.{IR}
use Rattle.valid_plans.specs.Valid.{IsValidWith, ValidNodes}

-- the plan is valid with the expressions of this arena, and what is known of them is right
pub record Stands (v : ValidNodes) (exprs : List AExpr) (low : Lowering) : Type 0 where
  pub functions : Functions
  pub valid : IsValidWith functions v exprs
  pub cache : Remembers exprs low.cache

-- the root leads to the node
abbrev pub IsReached : ValidNodes → Node → Type 0
IsReached v n = Path (λ k. named_by entry_inputs (slice_get v.nodes k)) v.root.0 n.0

-- the expressions that a step names are there, with all that is below them
abbrev pub HasWholeExprs : List AExpr → IR → Type 0
HasWholeExprs exprs e = AllByRecursion IsComplete (step_exprs (entry_step (tree_at exprs) e))
