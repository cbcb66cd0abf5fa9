-- How the nodes are formed that the rules on expressions make.
use Rattle.std.specs.Prelude.{◌≡◌, ℕ, ◌<◌, ◌≤◌, List, length, Some, slice_get}
use Rattle.std.specs.List.{AllByRecursion}
use Rattle.ps_frame.specs.Functions.{Functions}
use Rattle.ps_frame.specs.Trees.{Tree}
use Rattle.ps_meaning.specs.Schemas.{schema_or_empty}
use Rattle.ps_meaning.specs.Shape.{PhysicalNode, Shape}
use Rattle.ps_meaning.specs.Sound.{HasFitParameters, HasInputs, input_schemas, rules_of}
use Rattle.ps_meaning.specs.Steps.{Named, exprs_of}
use Rattle.ps_rules.specs.Lowered.{lower_exprs, select_stream}
use Rattle.ps_rules.specs.Slots.{State, Stream}
use Rattle.ps_shares.specs.Kept.{IsReady}

-- The node reads earlier ones, as many as its kind takes, its parameters fit its kind, and its schema is the one that its kind gives over theirs, or none where the kind gives none.
pub record IsFormed (F : Functions) (shape : Shape) (n : ℕ) (p : PhysicalNode) : Type 0 where
  pub earlier : AllByRecursion (λ (i : Stream). i.0 < n) p.inputs
  pub inputs : HasInputs p.kind (length p.inputs)
  pub parameters : HasFitParameters F p.kind
  pub schema : p.schema ≡ schema_or_empty F (rules_of p.kind) (input_schemas shape p)

-- each node from the first new one on
abbrev pub NewAreFormed : Functions → (before after : Shape) → Type 0
NewAreFormed F before after = (n : ℕ) (p : PhysicalNode) → length before ≤ n → slice_get after n ≡ Some p → IsFormed F after n p

abbrev pub ExprsFormNodes : Type 0
ExprsFormNodes = (F : Functions) (at : ℕ) (input : Stream) (s : State) (es : List Tree) → IsReady s input es → NewAreFormed F s.nodes (lower_exprs at input es s).state.nodes

abbrev pub SelectsFormNodes : Type 0
SelectsFormNodes = (F : Functions) (at : ℕ) (input : Stream) (s : State) (es : List Named) → IsReady s input (exprs_of es) → NewAreFormed F s.nodes (select_stream at input es s).state.nodes
