-- Which errors of a query are refusals of its plan, and which are faults of its run.
use Rattle.std.specs.Prelude.{◌≡◌, Bool, true, false, string_bytes, ⊤}
use Rattle.ps_frame.specs.declared.refusal.Compute.TheVariants as compute
use Rattle.ps_frame.specs.declared.refusal.PolarsError.{PolarsError}
use Rattle.ps_frame.specs.declared.refusal.PolarsError.TheVariants as error
use Rattle.tool_run.specs.Answers.{error_line}
use Rattle.tool_run.specs.declared.outcome.Outcome.{Outcome}
use Rattle.tool_run.specs.declared.outcome.Outcome.TheVariants as outcome

-- whether the error speaks of the plan alone
abbrev pub is_refusal : PolarsError → Bool
is_refusal (error.ComputeError n compute.NoKey) = true
is_refusal (error.ComputeError n w) = false
is_refusal (error.ShapeMismatch n) = false
is_refusal (error.OutOfBounds n w) = false
is_refusal error.OutOfMemory = false
is_refusal _ = true

-- the outcome of a query that ended with the error
abbrev pub IsOutcomeOf : PolarsError → Outcome → Type 0
IsOutcomeOf e (outcome.Refused line) = (is_refusal e ≡ true) × (string_bytes line ≡ error_line e)
IsOutcomeOf error.OutOfMemory (outcome.Faulted line) = ⊥
IsOutcomeOf e (outcome.Faulted line) = (is_refusal e ≡ false) × (string_bytes line ≡ error_line e)
IsOutcomeOf e outcome.OutOfMemory = ⊤
IsOutcomeOf e _ = ⊥
