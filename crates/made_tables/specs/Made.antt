-- By which errors a node that doesn't know where it stands makes no table of whole inputs.
use Rattle.std.specs.Prelude.{◌≡◌, ◌⊎◌, List}
use Rattle.ps_frame.specs.Causes.{Cause}
use Rattle.ps_frame.specs.Functions.{Functions}
use Rattle.ps_frame.specs.Tables.{Table}
use Rattle.ps_frame.specs.declared.refusal.PolarsError.{PolarsError}
use Rattle.ps_frame.specs.declared.refusal.PolarsError.TheVariants as error
use Rattle.ps_meaning.specs.Errors.{cause_error}
use Rattle.ps_meaning.specs.Shape.{PhysicalNode}
use Rattle.ps_turns.specs.Results.{BreaksRows}

-- the error is want of memory, or stands for a cause by which the node makes no table of the inputs
abbrev pub MayBreak : Functions → PhysicalNode → List Table → PolarsError → Type 0
MayBreak F p ts e = (e ≡ error.OutOfMemory) ⊎ ((c : Cause) × BreaksRows F p ts c × (e ≡ cause_error c))
