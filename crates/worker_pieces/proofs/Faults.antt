-- The error of a fault once more.
use Rattle.std.proofs.Common.{◌≡◌, ◌∙◌, ℕ, ap, refl}
use Rattle.ps_frame.specs.Causes.{Cause}
use Rattle.ps_frame.specs.declared.refusal.PolarsError.{PolarsError}
use Rattle.ps_frame.specs.declared.value.DataFault.{DataFault}
use Rattle.ps_frame.specs.declared.value.DataFault.TheVariants as fault
use Rattle.ps_meaning.specs.Errors.{cause_error, fault_error}
use Rattle.worker_pieces.specs.Faults.{as_fault}

by_fault : (n : ℕ) (x : DataFault) → as_fault (fault_error n x) ≡ fault_error n x
by_fault n fault.StrictCast = refl
by_fault n fault.SliceBound = refl
by_fault n fault.Function = refl
by_fault n fault.Shape = refl
by_fault n fault.RowIndex = refl
by_fault n fault.Gather = refl
by_fault n fault.Rows = refl

pub same_error : (e : PolarsError) (c : Cause) → e ≡ cause_error c → as_fault e ≡ cause_error c
same_error e c is = ap as_fault is ∙ by_fault c.node c.fault
