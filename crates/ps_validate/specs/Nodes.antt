-- The schema that a node gives over inputs of known schemas, and what it is refused for.
use Rattle.std.specs.Prelude.{◌≡◌, List, Contains, Some, ◌⊎◌, ⊤}
use Rattle.pu_base.specs.declared.arena.Node.{Node}
use Rattle.ps_frame.specs.Functions.{Functions}
use Rattle.ps_frame.specs.Tables.{Fields}
use Rattle.ps_frame.specs.Trees.{Tree}
use Rattle.ps_frame.specs.declared.expr.What.{What}
use Rattle.ps_frame.specs.declared.refusal.PolarsError.{PolarsError}
use Rattle.ps_frame.specs.declared.refusal.PolarsError.TheVariants as error
use Rattle.ps_meaning.specs.StepRefusals.{Refusal, TypingRefused, column_not_found, duplicate, schema_mismatch, unsupported}
use Rattle.ps_meaning.specs.Schemas.{output_schema}
use Rattle.ps_meaning.specs.Steps.{Step, cache, sink, slice, step_exprs}
use Rattle.valid_plans.specs.Fields.{all_parts}

-- a part of one of the step's expressions is left out
abbrev pub HoldsLeftOut : Step → What → Type 0
HoldsLeftOut step w = Contains (all_parts (step_exprs step)) (Tree.left_out w)

-- An error at a node, with its cause in the node's step over inputs with these schemas: a rule on names or kinds, or a part of one of its expressions that is left out. Want of memory needs no cause.
abbrev pub IsNodeError : Functions → Node → Step → List Fields → PolarsError → Type 0
IsNodeError F at step ss (error.ColumnNotFound node name) = (node ≡ at) × TypingRefused F step ss (column_not_found name)
IsNodeError F at step ss (error.Duplicate node name) = (node ≡ at) × TypingRefused F step ss (duplicate name)
IsNodeError F at step ss (error.SchemaMismatch node) = (node ≡ at) × TypingRefused F step ss schema_mismatch
IsNodeError F at step ss (error.Unsupported node w) = (node ≡ at) × (TypingRefused F step ss (unsupported w) ⊎ HoldsLeftOut step w)
IsNodeError F at step ss error.OutOfMemory = ⊤
IsNodeError F at step ss _ = ⊥

-- the schema of a step over inputs with these schemas; no rule on names or kinds refuses the step, and no part of its expressions is left out
pub record GivesSchema (F : Functions) (step : Step) (ss : List Fields) (s : Fields) : Type 0 where
  pub schema : output_schema F step ss ≡ Some s
  pub rules : (R : Refusal) → ¬ TypingRefused F step ss R
  pub supported : (w : What) → ¬ HoldsLeftOut step w

-- a step that passes its input's columns on, whatever they are
abbrev pub PassesColumns : Step → Type 0
PassesColumns (slice offset n) = ⊤
PassesColumns (sink payload) = ⊤
PassesColumns (cache id) = ⊤
PassesColumns _ = ⊥
