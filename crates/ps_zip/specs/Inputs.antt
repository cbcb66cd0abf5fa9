-- What a zip takes: a column of the table, or what is held of an expression's column.
use Rattle.std.specs.Prelude.{◌≡◌, ◌≤◌, ◌<◌, ◌⊎◌, ℕ, List, [], ◌∷◌, ◌++◌, map, length, false, IsTrue, Option, None, Some}
use Rattle.std.specs.List.{AllZip}
use Rattle.ps_expr_eval.specs.Held.{IsOneOf, cells_of, first_bad, held_cell, held_values}
use Rattle.ps_expr_eval.specs.Lengths.{ending_fault, extent_held}
use Rattle.ps_expr_eval.specs.Rows.{cell_for}
use Rattle.ps_expr_eval.specs.declared.lengths.Ending.{Ending}
use Rattle.ps_frame.specs.Aggregates.{max_rows}
use Rattle.ps_frame.specs.Causes.{Column as AColumn}
use Rattle.ps_frame.specs.Eval.{eval}
use Rattle.ps_frame.specs.Tables.{Frame, whole}
use Rattle.ps_frame.specs.Trees.{Tree}
use Rattle.ps_frame.specs.Series.{Series, all_fit}
use Rattle.ps_frame.specs.Typing.{kind_over}
use Rattle.ps_frame.specs.Zip.{below, broadcasts, zip_length}
use Rattle.ps_frame.specs.declared.value.Cell.{Cell as Held}
use Rattle.ps_frame.specs.declared.value.Cell.TheVariants as held
use Rattle.ps_frame.specs.declared.value.DataFault.{DataFault}
use Rattle.ps_frame.specs.declared.value.DataFault.TheVariants as fault
use Rattle.ps_frame.specs.declared.value.DataType.{DataType}
use Rattle.ps_zip.specs.declared.inputs.Input.{Input}
use Rattle.ps_zip.specs.declared.inputs.Input.TheVariants as input

abbrev pub kind_in : Input → DataType
kind_in (input.Table c) = c.kind
kind_in (input.Computed p) = p.dtype

-- the cells that are held
abbrev pub held_in : Input → List Held
held_in (input.Table c) = map held.Val c.values
held_in (input.Computed p) = cells_of p.cells

-- the fault that ended it early
abbrev pub fault_in : Input → Option DataFault
fault_in (input.Table c) = None
fault_in (input.Computed p) = p.fault

abbrev pub ending_in : Input → Ending
ending_in i = record { fault = fault_in i; len = length (held_in i) }

-- an input is what is held of a column
pub record Holds (i : Input) (c : AColumn) : Type 0 where
  pub cells : held_in i ≡ map held_cell c.cells
  pub ended : IsOneOf c.broken (fault_in i)

-- its values are of its kind
abbrev pub FitsItsKind : Input → Type 0
FitsItsKind i = IsTrue (all_fit (kind_in i) (held_values (held_in i)))

-- an input is what an expression gives over a table: what is held of its column, of its kind
pub record IsExprInput (f : Frame) (t : Tree) (i : Input) : Type 0 where
  pub holds : (node : ℕ) → Holds i (eval node (whole f) t)
  pub kind : kind_over f.schema t ≡ Some (kind_in i)
  pub fits : FitsItsKind i

-- inputs are followed by what expressions give, one for each
abbrev pub AddsExprs : Frame → List Tree → List Input → List Input → Type 0
AddsExprs f ts old new = (more : List Input) × (new ≡ old ++ more) × AllZip (IsExprInput f) ts more

-- the cells that an input gives to the first n rows: its only one, where it has one, stands in each
abbrev pub cells_in : ℕ → Input → List Held
cells_in n i = map (cell_for (held_in i) (broadcasts false (extent_held (ending_in i)))) (below n)

-- nothing ended an input, it has n cells or one, and its values are of its kind
pub record CanStand (n : ℕ) (i : Input) : Type 0 where
  pub whole_is : fault_in i ≡ None
  pub fills : (length (held_in i) ≡ n) ⊎ (length (held_in i) ≡ 1)
  pub fits : FitsItsKind i

-- a column is an input in n rows: it has its kind, and the values of its cells there
pub record IsColumnAt (n : ℕ) (i : Input) (c : Series) : Type 0 where
  pub kind : c.kind ≡ kind_in i
  pub cells : cells_in n i ≡ map held.Val c.values

-- a fault is that of an input's first faulty cell in n rows
abbrev pub HasFaultAt : ℕ → Input → DataFault → Type 0
HasFaultAt n i f = first_bad (cells_in n i) ≡ Some f

-- some input has it
abbrev pub SomeFaultAt : ℕ → List Input → DataFault → Type 0
SomeFaultAt n [] f = ⊥
SomeFaultAt n (i ∷ is) f = HasFaultAt n i f ⊎ SomeFaultAt n is f

-- the rows of inputs side by side, and one of the faults that end them early
abbrev pub height_in : List Input → ℕ
height_in is = zip_length false (map extent_held (map ending_in is))

abbrev pub early_in : List Input → Option DataFault
early_in is = ending_fault (map ending_in is)

-- columns are inputs side by side that nothing ended, in rows that can be counted
pub record AreSideBySide (is : List Input) (columns : List Series) (height : ℕ) : Type 0 where
  pub whole_are : early_in is ≡ None
  pub height_is : height ≡ height_in is
  pub small : height ≤ max_rows
  pub columns_are : AllZip (IsColumnAt height) is columns

-- a fault of inputs side by side: it ends them early, there are too many rows, or a cell in one has it
abbrev pub IsFaultIn : List Input → DataFault → Type 0
IsFaultIn is f = (early_in is ≡ Some f) ⊎ ((f ≡ fault.Rows) × (max_rows < height_in is)) ⊎ ((early_in is ≡ None) × SomeFaultAt (height_in is) is f)
