-- What the evaluation holds of a column: of the causes of a faulty cell the first, and of those that ended the column one.
use Rattle.std.specs.Prelude.{◌≡◌, ℕ, List, [], ◌∷◌, map, filter_map, length, get_or, Option, Some, None, Result, Ok, Err}
use Rattle.ps_expr_eval.specs.declared.growing.Growing.{Growing}
use Rattle.ps_expr_eval.specs.declared.growing.Growing.TheVariants as growing
use Rattle.ps_expr_eval.specs.declared.lengths.Ending.{Ending}
use Rattle.ps_expr_eval.specs.declared.computed.Cells.{Cells}
use Rattle.ps_expr_eval.specs.declared.computed.Cells.TheVariants as cells
use Rattle.ps_expr_eval.specs.declared.computed.ComputedColumn.{ComputedColumn}
use Rattle.ps_expr_eval.specs.declared.computed.Values.{Values}
use Rattle.ps_expr_eval.specs.declared.computed.Values.TheVariants as vals
use Rattle.ps_frame.specs.Causes.{Cause, Cell, Column, value, faulty}
use Rattle.ps_frame.specs.Evaluated.{IsFaultOf}
use Rattle.ps_frame.specs.declared.value.Cell.{Cell as Held}
use Rattle.ps_frame.specs.declared.value.Cell.TheVariants as held
use Rattle.ps_frame.specs.declared.value.DataFault.{DataFault}
use Rattle.ps_frame.specs.declared.value.Value.{Value}
use Rattle.ps_frame.specs.declared.value.Value.TheVariants as val

-- the values that are held
abbrev pub values_of : Values → List Value
values_of (vals.Shared c) = c.values
values_of (vals.Owned v) = v.items

-- the cells that are held
abbrev pub cells_of : Cells → List Held
cells_of (cells.Whole vs) = map held.Val (values_of vs)
cells_of (cells.Mixed v) = v.items

-- the cells that were added so far
abbrev pub cells_grown : Growing → List Held
cells_grown (growing.Column b k) = map held.Val b.values
cells_grown (growing.Values v) = map held.Val v.items
cells_grown (growing.Cells v) = v.items

-- the cell at a place, and null where there is none
abbrev pub cell_at : List Held → ℕ → Held
cell_at hs i = get_or hs i (held.Val val.Null)

-- how a column ends
abbrev pub ending_of : ComputedColumn → Ending
ending_of p = record { fault = p.fault; len = length (cells_of p.cells) }

-- the value of a cell that isn't faulty
abbrev pub held_value : Held → Option Value
held_value (held.Val v) = Some v
held_value (held.Bad f) = None

-- the values of the cells that aren't faulty
abbrev pub held_values : List Held → List Value
held_values hs = filter_map held_value hs

-- the fault of the first faulty cell
abbrev pub first_bad : List Held → Option DataFault
first_bad [] = None
first_bad (held.Val v ∷ hs) = first_bad hs
first_bad (held.Bad f ∷ hs) = Some f

-- the first fault that may be there
abbrev pub or_else : Option DataFault → Option DataFault → Option DataFault
or_else (Some f) o = Some f
or_else None o = o

-- one of the faults of a column: what ended it, or that of its first faulty cell
abbrev pub first_fault : ComputedColumn → Option DataFault
first_fault p = or_else p.fault (first_bad (cells_of p.cells))

-- the cell that is held for a cell
abbrev pub held_cell : Cell → Held
held_cell (value v) = held.Val v
held_cell (faulty c cs) = held.Bad c.fault

-- a fault is that of one of the causes; there is none where there are no causes
abbrev pub IsOneOf : List Cause → Option DataFault → Type 0
IsOneOf causes None = causes ≡ []
IsOneOf causes (Some f) = IsFaultOf causes f

-- what is held of a column
pub record Keeps (p : ComputedColumn) (c : Column) : Type 0 where
  pub cells : cells_of p.cells ≡ map held_cell c.cells
  pub ended : IsOneOf c.broken p.fault

-- the values of a column without a fault, or one of its faults
abbrev pub Settles : ComputedColumn → Result Values DataFault → Type 0
Settles p (Ok vs) = (first_fault p ≡ None) × (values_of vs ≡ held_values (cells_of p.cells))
Settles p (Err f) = first_fault p ≡ Some f
