-- Rows of what is held of operands side by side.
use Rattle.std.specs.Prelude.{◌≡◌, ℕ, ◌<◌, ◌≤◌, List, [], ◌∷◌, ◌++◌, map, length, Bool, true, false, Option, Some, None, Result, Ok, Err, if◌then◌else◌}
use Rattle.std.specs.Borrow.{Bor}
use Rattle.std.specs.List.{All}
use Rattle.ps_expr_eval.specs.Held.{cell_at, cells_of, ending_of, first_bad, held_values, or_else}
use Rattle.ps_expr_eval.specs.Lengths.{ending_fault, extent_held}
use Rattle.ps_expr_eval.specs.declared.computed.ComputedColumn.{ComputedColumn}
use Rattle.ps_frame.specs.Eval.{at}
use Rattle.ps_frame.specs.Values.{is_true}
use Rattle.ps_frame.specs.Zip.{below, broadcasts, zip_length}
use Rattle.ps_frame.specs.declared.value.Cell.{Cell as Held}
use Rattle.ps_frame.specs.declared.value.Cell.TheVariants as held
use Rattle.ps_frame.specs.declared.value.DataFault.{DataFault}
use Rattle.ps_frame.specs.declared.value.Value.{Value}

-- the cell that gives a row: the only one where it repeats
abbrev pub cell_for : List Held → Bool → ℕ → Held
cell_for hs repeats i = cell_at hs (if repeats then 0 else i)

-- a value or a fault that was read of a cell
abbrev pub seen : Result (Bor Value) DataFault → Held
seen (Ok v) = held.Val v.now
seen (Err f) = held.Bad f

-- cells or values that repeat, or are there for n rows
abbrev pub FillsRows : {A : Type 0} → List A → Bool → ℕ → Type 0
FillsRows xs true n = length xs ≡ 1
FillsRows xs false n = n ≤ length xs

-- whether a column's only cell stands in each row
abbrev pub repeats : ComputedColumn → Bool
repeats p = broadcasts false (extent_held (ending_of p))

-- the cells of columns in row i
abbrev pub row_of : List ComputedColumn → ℕ → List Held
row_of ps i = map (λ p. cell_for (cells_of p.cells) (repeats p) i) ps

-- the first n rows of columns
abbrev pub rows_of_parts : List ComputedColumn → ℕ → List (List Held)
rows_of_parts ps n = map (row_of ps) (below n)

-- a value's cell, or a fault in its place
abbrev pub bad_or : Option DataFault → Held → Held
bad_or (Some f) h = held.Bad f
bad_or None h = h

-- what an operator gives of a row of cells: faulty by the first faulty one, else what f gives of the values
abbrev pub cell_from : (List Value → Held) → List Held → Held
cell_from f row = bad_or (first_bad row) (f (held_values row))

-- what an operator gives of each of the first n rows
abbrev pub cells_from : (List Value → Held) → List ComputedColumn → ℕ → List Held
cells_from f ps n = map (λ i. cell_from f (row_of ps i)) (below n)

-- the fault of the first row with a faulty cell
abbrev pub faulty_row : List (List Held) → Option DataFault
faulty_row [] = None
faulty_row (row ∷ rows) = or_else (first_bad row) (faulty_row rows)

-- the values, where there is no fault
abbrev pub unless_bad : Option DataFault → List Value → List Value
unless_bad (Some f) vs = []
unless_bad None vs = vs

-- the first value of a row, where the second is true
abbrev pub kept_value : List Value → List Value
kept_value row = if is_true (at 1 row) then at 0 row ∷ [] else []

-- the values that are kept of rows, up to the first with a faulty cell
abbrev pub kept_of : List (List Held) → List Value
kept_of [] = []
kept_of (row ∷ rows) = unless_bad (first_bad row) (kept_value (held_values row) ++ kept_of rows)

-- at each of the places there is a cell, and these are their values
pub record StandAt (hs : List Held) (places : List ℕ) (vs : List Value) : Type 0 where
  pub there : All (λ i. i < length hs) places
  pub values : map (cell_at hs) places ≡ map held.Val vs

-- a column has the values of the first operand beside which the second is true, up to the first row with a faulty cell, and ends there or as the operands do side by side
pub record IsKept (operands : List ComputedColumn) (p : ComputedColumn) : Type 0 where
  pub cells : cells_of p.cells ≡ map held.Val (kept_of (rows_of_parts operands (zip_length false (map extent_held (map ending_of operands)))))
  pub fault : p.fault ≡ or_else (ending_fault (map ending_of operands)) (faulty_row (rows_of_parts operands (zip_length false (map extent_held (map ending_of operands)))))
