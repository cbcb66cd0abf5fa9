-- Expressions that are lowered together with all columns of their input.
use Rattle.std.specs.Prelude.{◌≡◌, ℕ, List, ◌++◌, drop, length, take}
use Rattle.pu_base.specs.declared.arena.Node.{Node}
use Rattle.ps_frame.specs.Trees.{Tree}
use Rattle.ps_frame.specs.declared.expr.AExpr.{AExpr}
use Rattle.ps_phys.specs.Shown.{stream_of}
use Rattle.ps_phys.specs.declared.phys.PhysStream.{PhysStream}
use Rattle.ps_rules.specs.Calls.{Answer}
use Rattle.ps_rules.specs.Lowered.{lower_exprs}
use Rattle.ps_rules.specs.Slots.{State, Stream}
use Rattle.plan_rules.specs.Groups.{columns_over}
use Rattle.ps_fresh.specs.declared.lowering.Lowering.{Lowering}
use Rattle.lowering_parts.specs.Gathered.{GoesOn, Later, state_of, trees_at}

-- what stands, a stream, and expressions over it
abbrev pub answer_of : (Node → Tree) → Lowering → PhysStream → List Node → Answer
answer_of f low s es = record { state = state_of f low; stream = stream_of s; exprs = trees_at f es }

-- what a call for expressions answers, as a rule says
pub record Answers (rule : State → Answer) (arena arena' : List AExpr) (low low' : Lowering) (stream : PhysStream) (exprs : List Node) : Type 0 where
  pub by_rule : Later arena' (λ f. answer_of f low' stream exprs ≡ rule (state_of f low))
  pub goes_on : GoesOn arena arena' low low'

module _ (at : ℕ) (input : Stream) where
  -- all columns and expressions behind them are lowered together: what stands for the expressions
  abbrev pub behind_columns : List Tree → State → Answer
  behind_columns es s =
      let columns = columns_over input s in
      let a = lower_exprs at input (columns ++ es) s in
      record a { exprs = drop (length columns) a.exprs }

  -- the same of expressions before all columns
  abbrev pub before_columns : List Tree → State → Answer
  before_columns es s = let a = lower_exprs at input (es ++ columns_over input s) s in record a { exprs = take (length es) a.exprs }
