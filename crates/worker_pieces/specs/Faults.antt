-- The errors of faults.
use Rattle.ps_frame.specs.declared.refusal.PolarsError.{PolarsError}
use Rattle.ps_frame.specs.declared.refusal.PolarsError.TheVariants as error

-- the error of a fault as it is, and of what is none want of memory
abbrev pub as_fault : PolarsError → PolarsError
as_fault (error.ComputeError n why) = error.ComputeError n why
as_fault (error.ShapeMismatch n) = error.ShapeMismatch n
as_fault (error.OutOfBounds n why) = error.OutOfBounds n why
as_fault _ = error.OutOfMemory
