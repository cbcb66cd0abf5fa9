-- What a step is refused for, its entry is refused for.
use Rattle.std.proofs.Common.{ℕ, List, inl}
use Rattle.pu_base.specs.declared.arena.Node.{Node}
use Rattle.ps_frame.specs.declared.refusal.Compute.{Compute}
use Rattle.ps_frame.specs.declared.refusal.Compute.TheVariants as compute
use Rattle.ps_frame.specs.declared.refusal.PolarsError.{PolarsError}
use Rattle.ps_frame.specs.declared.refusal.PolarsError.TheVariants as error
use Rattle.ps_frame.specs.declared.refusal.Why.{Why}
use Rattle.ps_frame.specs.declared.refusal.Why.TheVariants as why
use Rattle.ps_meaning.specs.Steps.{Step}
use Rattle.ps_validate.specs.Entries.{IsStepError}
use Rattle.ps_validate.specs.Fit.{IsEntryError}

-- what a step is refused for by itself its entry is refused for
pub step-error : (count : ℕ) (at : Node) (step : Step) (inputs : List Node) (e : PolarsError) → IsStepError at step e → IsEntryError count at step inputs e
step-error count at step inputs (error.InvalidPlan node w) h = by w h
  where
    by : (w : Why) → IsStepError at step (error.InvalidPlan node w) → IsEntryError count at step inputs (error.InvalidPlan node w)
    by why.Keys h = h
    by _ h = absurd h
step-error count at step inputs (error.Unsupported node w) h = (h.0, inl h.1)
step-error count at step inputs (error.ComputeError node w) h = by w h
  where
    by : (w : Compute) → IsStepError at step (error.ComputeError node w) → IsEntryError count at step inputs (error.ComputeError node w)
    by compute.NoKey h = h
    by _ h = absurd h
step-error count at step inputs (error.ColumnNotFound node name) h = absurd h
step-error count at step inputs (error.Duplicate node name) h = absurd h
step-error count at step inputs (error.SchemaMismatch node) h = absurd h
step-error count at step inputs (error.ShapeMismatch node) h = absurd h
step-error count at step inputs (error.OutOfBounds node w) h = absurd h
step-error count at step inputs error.OutOfMemory h = absurd h
