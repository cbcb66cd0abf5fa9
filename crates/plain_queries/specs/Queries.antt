-- What a query may be answered.
use Rattle.std.specs.Prelude.{◌≡◌, ◌++◌, ◌⊎◌, ℕ, List}
use Rattle.ps_frame.specs.Functions.{Functions}
use Rattle.ps_frame.specs.Tables.{Frame, whole}
use Rattle.ps_frame.specs.declared.expr.AExpr.{AExpr}
use Rattle.ps_frame.specs.declared.refusal.PolarsError.{PolarsError}
use Rattle.ps_frame.specs.declared.refusal.PolarsError.TheVariants as error
use Rattle.ps_frame.specs.declared.value.DataFault.{DataFault}
use Rattle.ps_meaning.specs.Errors.{fault_error, refusal_error}
use Rattle.ps_meaning.specs.Meaning.{IsWholeMeaning}
use Rattle.ps_plan.specs.PlanMeanings.{NodeMayFault}
use Rattle.ps_plan.specs.Plans.{Plan, tree_of}
use Rattle.ps_meaning.specs.StepRefusals.{Refusal}
use Rattle.ps_plan.specs.Refusals.{IsRefused, IsValid}

-- the plan is valid, and the table is a whole one that its root means
pub record IsQueryAnswer (F : Functions) (plan : Plan) (f : Frame) : Type 0 where
  pub valid : IsValid F plan
  pub meaning : IsWholeMeaning F (tree_of plan plan.root.0) (whole f)

-- the error stands for a refusal of the plan
pub record IsRefusal (F : Functions) (plan : Plan) (e : PolarsError) : Type 0 where
  pub node : ℕ
  pub refusal : Refusal
  pub is : e ≡ refusal_error node refusal
  pub refused : IsRefused F plan node refusal

-- the error stands for a fault with which the plan may end
pub record IsFault (F : Functions) (plan : Plan) (e : PolarsError) : Type 0 where
  pub node : ℕ
  pub fault : DataFault
  pub is : e ≡ fault_error node fault
  pub may : NodeMayFault F plan node fault

-- an error of a run of a valid plan: want of memory, or such a fault
abbrev pub IsRunError : Functions → Plan → PolarsError → Type 0
IsRunError F plan e = (e ≡ error.OutOfMemory) ⊎ IsFault F plan e

-- want of memory, a refusal, or a fault of a valid plan
abbrev pub IsQueryError : Functions → Plan → PolarsError → Type 0
IsQueryError F plan e = (e ≡ error.OutOfMemory) ⊎ IsRefusal F plan e ⊎ (IsValid F plan × IsFault F plan e)

-- the old entries stand unchanged in front of the new ones
abbrev pub BeginsWith : List AExpr → List AExpr → Type 0
BeginsWith old new = (more : List AExpr) × (new ≡ old ++ more)
