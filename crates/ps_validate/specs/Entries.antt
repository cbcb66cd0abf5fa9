-- What the step of a node refuses by itself, whatever its inputs.
use Rattle.std.specs.Prelude.{◌≡◌}
use Rattle.pu_base.specs.declared.arena.Node.{Node}
use Rattle.ps_frame.specs.declared.expr.What.{What}
use Rattle.ps_frame.specs.declared.expr.What.TheVariants as what
use Rattle.ps_frame.specs.declared.refusal.Compute.TheVariants as compute
use Rattle.ps_frame.specs.declared.refusal.PolarsError.{PolarsError}
use Rattle.ps_frame.specs.declared.refusal.PolarsError.TheVariants as error
use Rattle.ps_frame.specs.declared.refusal.Why.TheVariants as why
use Rattle.ps_meaning.specs.StepRefusals.{HasBadKeys, HasNoKey, IsFileSink, IsValidated}
use Rattle.ps_meaning.specs.Steps.{Step}

-- what isn't supported of a step
abbrev pub IsUnsupportedStep : Step → What → Type 0
IsUnsupportedStep step what.Validation = IsValidated step
IsUnsupportedStep step what.FileSink = IsFileSink step
IsUnsupportedStep step _ = ⊥

-- An error at a node, with its cause in the step of the node: keys or flags that don't fit, no key, or what isn't supported.
abbrev pub IsStepError : Node → Step → PolarsError → Type 0
IsStepError at step (error.InvalidPlan node why.Keys) = (node ≡ at) × HasBadKeys step
IsStepError at step (error.ComputeError node compute.NoKey) = (node ≡ at) × HasNoKey step
IsStepError at step (error.Unsupported node w) = (node ≡ at) × IsUnsupportedStep step w
IsStepError at step _ = ⊥
