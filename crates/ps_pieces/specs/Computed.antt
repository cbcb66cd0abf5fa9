-- What computing a step over one table may fail by.
use Rattle.std.specs.Prelude.{◌≡◌, ◌⊎◌, ◌<◌, ℕ, [], ◌∷◌, length, Contains, Option, Some, None}
use Rattle.ps_frame.specs.Aggregates.{max_rows}
use Rattle.ps_frame.specs.Functions.{Functions}
use Rattle.ps_frame.specs.Tables.{Frame, Table, whole}
use Rattle.ps_frame.specs.declared.refusal.Bound.TheVariants as bound
use Rattle.ps_frame.specs.declared.refusal.Compute.TheVariants as compute
use Rattle.ps_frame.specs.declared.refusal.PolarsError.{PolarsError}
use Rattle.ps_frame.specs.declared.refusal.PolarsError.TheVariants as error
use Rattle.ps_frame.specs.declared.value.DataFault.{DataFault}
use Rattle.ps_frame.specs.declared.value.DataFault.TheVariants as fault
use Rattle.ps_meaning.specs.Cases.{GivesBeforeCut}
use Rattle.ps_meaning.specs.Errors.{fault_error}
use Rattle.ps_meaning.specs.Steps.{Step}

-- a fault that breaks a table of the step over this one, or Rows where such a table has too many rows
abbrev pub Breaks : Functions → (node : ℕ) → Step → Frame → DataFault → Type 0
Breaks F n step t x = (U : Table) × GivesBeforeCut F n step (whole t ∷ []) U × (Contains U.broken (record { fault = x; node = n }) ⊎ (max_rows < length U.rows) × (x ≡ fault.Rows))

-- want of memory, or the error of such a fault
abbrev pub MayFail : Functions → (node : ℕ) → Step → Frame → PolarsError → Type 0
MayFail F n step t e = (e ≡ error.OutOfMemory) ⊎ ((x : DataFault) × (e ≡ fault_error n x) × Breaks F n step t x)

-- the fault that an error stands for
abbrev pub fault_of : PolarsError → Option DataFault
fault_of (error.ComputeError n compute.StrictCast) = Some fault.StrictCast
fault_of (error.ComputeError n compute.SliceBound) = Some fault.SliceBound
fault_of (error.ComputeError n compute.Function) = Some fault.Function
fault_of (error.ShapeMismatch n) = Some fault.Shape
fault_of (error.OutOfBounds n bound.RowIndex) = Some fault.RowIndex
fault_of (error.OutOfBounds n bound.Gather) = Some fault.Gather
fault_of (error.OutOfBounds n bound.Rows) = Some fault.Rows
fault_of _ = None
