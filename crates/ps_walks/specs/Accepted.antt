-- Schemas kept by the numbers of nodes: each node is accepted over those of its inputs.
use Rattle.std.specs.Prelude.{◌≡◌, ℕ, List, map, Contains, Some, IfSome, slice_get}
use Rattle.pu_base.specs.declared.arena.Node.{Node}
use Rattle.ps_frame.specs.Functions.{Functions}
use Rattle.ps_frame.specs.Tables.{Fields}
use Rattle.ps_frame.specs.Trees.{tree_at}
use Rattle.ps_plan.specs.Graph.{Path, inputs_at}
use Rattle.ps_plan.specs.Plans.{Plan}
use Rattle.ps_meaning.specs.StepRefusals.{Refusal, HasOwnNumbers, TypingRefused}
use Rattle.ps_plan.specs.Refusals.{GraphRefused}
use Rattle.ps_meaning.specs.Schemas.{output_schema}
use Rattle.ps_meaning.specs.Steps.{Step}
use Rattle.ps_plan.specs.Entries.{entry_inputs, entry_step}

-- the schema of each number
abbrev pub NodeSchemas : Type 0
NodeSchemas = ℕ → Fields

-- the schemas of these nodes
abbrev pub schemas_at : NodeSchemas → List Node → List Fields
schemas_at S ns = map (λ (m : Node). S m.0) ns

-- the step has this schema over those of its inputs, and no rule on names or kinds refuses it
pub record IsTypedTo (F : Functions) (step : Step) (ss : List Fields) (s : Fields) : Type 0 where
  pub schema : output_schema F step ss ≡ Some s
  pub rules : (R : Refusal) → ¬ TypingRefused F step ss R

-- nothing refuses the node over the schemas of its inputs
pub record IsAccepted (F : Functions) (plan : Plan) (S : NodeSchemas) (n : ℕ) : Type 0 where
  pub graph : (R : Refusal) → ¬ GraphRefused F plan n R
  pub typed : IfSome (slice_get plan.nodes n) (λ e. IsTypedTo F (entry_step (tree_at plan.exprs) e) (schemas_at S (entry_inputs e)) (S n))

-- each node below this one is accepted
abbrev pub EachBelowAccepted : Functions → Plan → NodeSchemas → ℕ → Type 0
EachBelowAccepted F plan S n = (i m : ℕ) → Contains (inputs_at plan n) i → Path (inputs_at plan) i m → IsAccepted F plan S m

-- the node's own numbers are in range, and the refusal holds of its step over the schemas of its inputs
abbrev pub IsRefusedAt : Functions → Plan → NodeSchemas → ℕ → Refusal → Type 0
IsRefusedAt F plan S n R =
    IfSome (slice_get plan.nodes n) (λ e. HasOwnNumbers F (entry_step (tree_at plan.exprs) e) × TypingRefused F (entry_step (tree_at plan.exprs) e) (schemas_at S (entry_inputs e)) R)
