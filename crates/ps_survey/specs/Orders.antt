-- The nodes that a root leads to, and the expressions that these name, each once and after what it names.
use Rattle.std.specs.Prelude.{ℕ, ◌<◌, ◌⊎◌, ◌++◌, List, length, slice_get, Contains}
use Rattle.ps_frame.specs.declared.expr.AExpr.{AExpr}
use Rattle.ps_plan.specs.Graph.{Names, Path, exprs_at, inputs_at, named_by, operands, operands_at}
use Rattle.ps_plan.specs.Plans.{Plan}
use Rattle.ps_plan.specs.Entries.{entry_exprs, entry_inputs}
use Rattle.ps_plan.specs.declared.ir.IR.{IR}
use Rattle.ps_survey.specs.Search.{AtRest, IsOrderFrom}
use Rattle.valid_plans.specs.Surveys.{NamedFirst, Once}
use Rattle.ps_survey.specs.declared.search.Mark.{Mark}

-- the reached nodes
abbrev pub IsNodeOrder : Plan → List ℕ → Type 0
IsNodeOrder plan order = IsOrderFrom (inputs_at plan) (length plan.nodes) plan.root.0 order

-- the expressions that these nodes name
pub record IsExprOrder (plan : Plan) (nodes order : List ℕ) : Type 0 where
  pub named : (e : ℕ) → Contains order e → (n : ℕ) × Contains nodes n × Names plan n e
  pub own : (n e : ℕ) → Contains nodes n → Contains (exprs_at plan n) e → Contains order e
  pub within : (e : ℕ) → Contains order e → e < length plan.exprs
  pub once : Once order
  pub first : NamedFirst (operands_at plan) order

-- what the expressions and the nodes of these arenas name
abbrev pub operands_in : List AExpr → ℕ → List ℕ
operands_in exprs e = named_by operands (slice_get exprs e)

abbrev pub inputs_in : List IR → ℕ → List ℕ
inputs_in nodes n = named_by entry_inputs (slice_get nodes n)

abbrev pub exprs_in : List IR → ℕ → List ℕ
exprs_in nodes n = named_by entry_exprs (slice_get nodes n)

-- the inputs of a node, and then its expressions
abbrev pub all_in : List IR → ℕ → List ℕ
all_in nodes n = inputs_in nodes n ++ exprs_in nodes n

-- a search that is at rest went on to all that these starts lead to
pub record HasVisited (next : ℕ → List ℕ) (starts before order : List ℕ) (marks : List Mark) : Type 0 where
  pub rest : AtRest next order marks
  pub own : (e : ℕ) → Contains starts e → Contains order e
  pub kept : (e : ℕ) → Contains before e → Contains order e
  pub more : (e : ℕ) → Contains order e → Contains before e ⊎ ((s : ℕ) × Contains starts s × Path next s e)
