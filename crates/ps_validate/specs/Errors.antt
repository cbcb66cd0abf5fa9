-- What an error that is answered for a plan stands for.
use Rattle.std.specs.Prelude.{◌≡◌, ◌⊎◌, ℕ}
use Rattle.ps_frame.specs.Functions.{Functions}
use Rattle.ps_frame.specs.declared.refusal.PolarsError.{PolarsError}
use Rattle.ps_frame.specs.declared.refusal.PolarsError.TheVariants as error
use Rattle.ps_meaning.specs.Errors.{refusal_error}
use Rattle.ps_meaning.specs.StepRefusals.{Refusal}
use Rattle.ps_plan.specs.Plans.{Plan}
use Rattle.ps_plan.specs.Refusals.{IsRefused}

-- the error stands for a refusal of the plan, or it is want of memory
abbrev pub IsPlanError : Functions → Plan → PolarsError → Type 0
IsPlanError F plan e = (e ≡ error.OutOfMemory) ⊎ ((n : ℕ) × (R : Refusal) × (e ≡ refusal_error n R) × IsRefused F plan n R)
