-- Columns by their values in the first rows.
use Rattle.std.specs.Prelude.{◌≡◌, ⊤, ℕ, List, [], ◌∷◌, drop, map, Option, None}
use Rattle.std.specs.Borrow.{Bor}
use Rattle.ps_expr_eval.specs.Held.{cells_of, first_bad, or_else}
use Rattle.ps_expr_eval.specs.Rows.{FillsRows, cell_for, repeats}
use Rattle.ps_expr_eval.specs.declared.computed.ComputedColumn.{ComputedColumn}
use Rattle.ps_frame.specs.Eval.{at}
use Rattle.ps_frame.specs.Sorting.{Direction, in_order_of_keys}
use Rattle.ps_frame.specs.Series.{Series}
use Rattle.ps_frame.specs.Zip.{below}
use Rattle.ps_frame.specs.declared.value.Cell.{Cell as Held}
use Rattle.ps_frame.specs.declared.value.Cell.TheVariants as held
use Rattle.ps_frame.specs.declared.value.DataFault.{DataFault}
use Rattle.ps_frame.specs.declared.value.DataType.TheVariants as kind
use Rattle.ps_frame.specs.declared.value.Value.{Value}

-- the cells of a column in the first n rows
abbrev pub lane : ComputedColumn → ℕ → List Held
lane p n = map (cell_for (cells_of p.cells) (repeats p)) (below n)

-- each column fills n rows
abbrev pub AllFill : List ComputedColumn → ℕ → Type 0
AllFill [] n = ⊤
AllFill (p ∷ ps) n = FillsRows (cells_of p.cells) (repeats p) n × AllFill ps n

-- the values that are looked at
abbrev pub seen_values : List (Bor Value) → List Value
seen_values vs = map (λ v. v.now) vs

-- the fault of the first column that has a faulty cell in the first n rows
abbrev pub lanes_fault : List ComputedColumn → ℕ → Option DataFault
lanes_fault [] n = None
lanes_fault (p ∷ ps) n = or_else (first_bad (lane p n)) (lanes_fault ps n)

-- the values of columns in the first n rows
abbrev pub AreLanes : List ComputedColumn → ℕ → List (List Value) → Type 0
AreLanes [] n [] = ⊤
AreLanes (p ∷ ps) n (vs ∷ vss) = (lane p n ≡ map held.Val vs) × AreLanes ps n vss
AreLanes _ n _ = ⊥

-- key columns of these values; to their order the kind is nothing
abbrev pub key_columns : List (List Value) → List Series
key_columns vss = map (λ vs. record { kind = kind.Int64; values = vs }) vss

-- row i of lists of values
abbrev pub values_at_row : List (List Value) → ℕ → List Value
values_at_row vss i = map (at i) vss

-- the first values of n rows in the order of the others
abbrev pub sorted_first : List Direction → ℕ → List (List Value) → List Value
sorted_first directions n vss = in_order_of_keys directions (map (λ i. (drop 1 (values_at_row vss i), at 0 (values_at_row vss i))) (below n))
