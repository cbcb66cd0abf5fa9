-- What a valid plan gives of the step of each node that is reached.
use Rattle.std.specs.Prelude.{◌≡◌, ◌≢◌, ℕ, List, [], Some, slice_get}
use Rattle.std.specs.List.{AllByRecursion}
use Rattle.ps_frame.specs.Functions.{Functions}
use Rattle.ps_frame.specs.Tables.{Fields}
use Rattle.ps_frame.specs.Trees.{IsComplete, tree_at}
use Rattle.ps_plan.specs.Graph.{Reached}
use Rattle.ps_meaning.specs.Laws.{IsBuilt}
use Rattle.ps_meaning.specs.Laws.{IsTypedStep}
use Rattle.ps_plan.specs.Plans.{Plan, tree_of}
use Rattle.ps_meaning.specs.StepRefusals.{HasBadKeys, HasNoKey, IsFileSink, IsValidated, NamesMissingFunction, NeedsInput}
use Rattle.ps_meaning.specs.Schemas.{output_schema, tree_schema}
use Rattle.ps_meaning.specs.Steps.{Step, step_exprs}
use Rattle.ps_plan.specs.Entries.{entry_inputs, entry_step}
use Rattle.ps_plan.specs.declared.ir.IR.{IR}
use Rattle.ps_walks.specs.Accepted.{NodeSchemas, schemas_at}

-- Over inputs of these schemas the step's expressions are whole and have kinds, no rule refuses it, it is one that the engine has, and each input has a column.
pub record IsFit (F : Functions) (step : Step) (ss : List Fields) : Type 0 where
  pub complete : AllByRecursion IsComplete (step_exprs step)
  pub typed : IsTypedStep F step ss
  pub keys : ¬ HasBadKeys step
  pub key : ¬ HasNoKey step
  pub unvalidated : ¬ IsValidated step
  pub in_memory : ¬ IsFileSink step
  pub known : ¬ NamesMissingFunction F.count step
  pub built : IsBuilt step
  pub input : NeedsInput step → ss ≢ []
  pub columns : AllByRecursion (λ s. s ≢ []) ss

-- the schema of each node of a plan
abbrev pub plan_schemas : Functions → Plan → NodeSchemas
plan_schemas F plan n = tree_schema F (tree_of plan n)

-- the step of each reached node has the node's schema over those of its inputs
abbrev pub HasSchemas : Functions → Plan → Type 0
HasSchemas F plan =
    (n : ℕ) (e : IR) → Reached plan n → slice_get plan.nodes n ≡ Some e → output_schema F (entry_step (tree_at plan.exprs) e) (schemas_at (plan_schemas F plan) (entry_inputs e)) ≡ Some (plan_schemas F plan n)
