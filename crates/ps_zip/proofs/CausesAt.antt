-- Each cause of an expression's column over a whole table is at the node whose step computes it.
use Rattle.std.proofs.Common.{◌≡◌, ℕ, suc, List, [], ◌∷◌, ◌++◌, length, get_or, Bool, true, false, refl, sym, inl, inr, arith}
use Rattle.std.specs.Prelude.{Contains, drop, reverse, ◌+ℤ◌, map, filter, flat_map, not, ◌||◌, nat_lt, nat_le, pos, negsuc, Option, Some, None, if◌then◌else◌}
use Rattle.std.specs.List.{AllByRecursion, list_any}
use Rattle.ps_frame.specs.Aggregates.{aggregate_column, count_column, distinct_values, greatest_value, last_value, least_value, max_rows, sum_value}
use Rattle.ps_frame.specs.Causes.{Cause, Cell, Column, value, faulty, cell_causes, cell_values, column_causes, faulty_or, has_cause, is_empty, whole_column}
use Rattle.ps_frame.specs.Eval.{at as at_row, cell_of_row, cellwise, eval, eval_all, from_whole, function_column, kept, literal_value, operand, clipped, picked, picked_at, slice_column, slice_start, sorted_by_keys, values_between}
use Rattle.ps_frame.specs.Evaluated.{IsFaultOf}
use Rattle.ps_frame.specs.Operators.{binary_value, cast_cell, cast_value, choice_of, not_value}
use Rattle.ps_frame.specs.Sorting.{Direction, directions_of, in_order_of_keys, values_in_order}
use Rattle.ps_frame.specs.Tables.{Frame, column_at, columns_of, values_at_some, field_index, whole}
use Rattle.ps_frame.specs.Trees.{Aggregation, Tree, Trees}
use Rattle.ps_frame.specs.Typing.{kind_over, tree_count}
use Rattle.ps_frame.specs.Values.{is_null, is_true}
use Rattle.ps_frame.specs.Zip.{aligned, below, breaks_shape, broadcasts, cell_in_row, ends_early, extent_of, extents, is_faulty_row, row_causes, zip_causes, zip_length, zip_rows, zipped}
use Rattle.ps_frame.specs.declared.expr.FunctionExpr.{FunctionExpr}
use Rattle.ps_frame.specs.declared.expr.FunctionExpr.TheVariants as fun
use Rattle.ps_frame.specs.declared.value.DataFault.{DataFault}
use Rattle.ps_frame.specs.declared.value.DataFault.TheVariants as fault
use Rattle.ps_frame.specs.declared.value.DataType.{DataType}
use Rattle.ps_frame.specs.declared.value.Value.{Value}
use Rattle.ps_frame.specs.declared.value.Value.TheVariants as val
use Rattle.ps_meaning.specs.Cases.{columns_at}
use Rattle.ps_meaning.proofs.Fits.{all-append, all-get, all-of}
use Rattle.ps_meaning.proofs.StepFits.{all-flat}

module _ (at : ℕ) where
  -- causes, and those of a cell and of a column, that are at the node
  abbrev pub AreAt : List Cause → Type 0
  AreAt cs = AllByRecursion (λ (c : Cause). c.node ≡ at) cs

  abbrev pub CellAt : Cell → Type 0
  CellAt c = AreAt (cell_causes c)

  pub record ColumnAt (c : Column) : Type 0 where
    pub cells : AllByRecursion CellAt c.cells
    pub ended : AreAt c.broken

  abbrev pub AllColumnsAt : List Column → Type 0
  AllColumnsAt cs = AllByRecursion ColumnAt cs

  here : (f : DataFault) → AreAt (record { fault = f; node = at } ∷ [])
  here f = (refl, tt)

  column-causes : (c : Column) → ColumnAt c → AreAt (column_causes c)
  column-causes c h = all-append (λ (x : Cause). x.node ≡ at) (flat_map cell_causes c.cells) c.broken (all-flat (λ (x : Cause). x.node ≡ at) CellAt cell_causes (λ x k. k) c.cells h.cells) h.ended

  columns-causes : (cs : List Column) → AllColumnsAt cs → AreAt (flat_map column_causes cs)
  columns-causes cs h = all-flat (λ (x : Cause). x.node ≡ at) ColumnAt column_causes column-causes cs h

  if-at : (b : Bool) (xs : List Cause) → AreAt xs → AreAt (if b then xs else [])
  if-at true xs h = h
  if-at false xs h = tt

  zip-causes : (extend : Bool) (cs : List Column) → AllColumnsAt cs → AreAt (zip_causes extend at cs)
  zip-causes extend cs h =
      all-append (λ (x : Cause). x.node ≡ at) (flat_map column_causes cs) (if breaks_shape extend (extents cs) then record { fault = fault.Shape; node = at } ∷ [] else []) (columns-causes cs h)
      (if-at (breaks_shape extend (extents cs)) (record { fault = fault.Shape; node = at } ∷ []) (here fault.Shape))

  pub zip-at : (extend : Bool) (cs : List Column) → AllColumnsAt cs → AreAt (zipped extend at cs).broken
  zip-at extend cs h = if-at (ends_early extend cs || list_any is_faulty_row (aligned extend at cs).rows) (zip_causes extend at cs) (zip-causes extend cs h)

  -- a row of a zip
  row-at : (extend : Bool) (i : ℕ) (cs : List Column) → AllColumnsAt cs → AllByRecursion CellAt (map (cell_in_row extend i) cs)
  row-at extend i [] h = tt
  row-at extend i (c ∷ cs) h = (all-get CellAt c.cells (if broadcasts extend (extent_of c) then 0 else i) (value val.Null) h.0.cells tt, row-at extend i cs h.1)

  rows-at : (extend : Bool) (n : ℕ) (cs : List Column) → AllColumnsAt cs → AllByRecursion (AllByRecursion CellAt) (zip_rows extend n cs)
  rows-at extend n cs h = all-of (AllByRecursion CellAt) (λ i. map (cell_in_row extend i) cs) (λ i. row-at extend i cs h) (below n)

  faulty-at : (xs : List Cause) (c : Cell) → AreAt xs → CellAt c → CellAt (faulty_or xs c)
  faulty-at [] c h k = k
  faulty-at (x ∷ xs) c h k = h

  cells-at : (f : List Value → Cell) → ((vs : List Value) → CellAt (f vs)) → (rows : List (List Cell)) → AllByRecursion (AllByRecursion CellAt) rows → AllByRecursion CellAt (map (cell_of_row f) rows)
  cells-at f each [] h = tt
  cells-at f each (row ∷ rows) h = (faulty-at (row_causes row) (f (cell_values row)) (all-flat (λ (x : Cause). x.node ≡ at) CellAt cell_causes (λ x k. k) row h.0) (each (cell_values row)), cells-at f each rows h.1)

  cellwise-at : (f : List Value → Cell) → ((vs : List Value) → CellAt (f vs)) → (cs : List Column) → AllColumnsAt cs → ColumnAt (cellwise at f cs)
  cellwise-at f each cs h = record {
    cells = cells-at f each (zip_rows false (zip_length false (extents cs)) cs) (rows-at false (zip_length false (extents cs)) cs h);
    ended = if-at (ends_early false cs) (zip_causes false at cs) (zip-causes false cs h);
  }

  values-at : (vs : List Value) → AllByRecursion CellAt (map value vs)
  values-at vs = all-of CellAt value (λ v. tt) vs

  whole-at : (vs : List Value) → ColumnAt (whole_column vs)
  whole-at vs = record { cells = values-at vs; ended = tt }

  one-fault : (f : DataFault) → ColumnAt (record { cells = []; broken = record { fault = f; node = at } ∷ []; lost = [] })
  one-fault f = record { cells = tt; ended = (refl, tt) }

  from-whole-at : (f : List (List Value) → Column) → ((vss : List (List Value)) → ColumnAt (f vss)) → (cs : List Column) → AllColumnsAt cs → ColumnAt (from_whole f cs)
  from-whole-at f each cs h = by (list_any has_cause cs)
    where
      by : (b : Bool) → ColumnAt (if b then record { cells = []; broken = flat_map column_causes cs; lost = flat_map (λ c. c.lost) cs } else record (f (map (λ c. cell_values c.cells) cs)) { lost = flat_map (λ c. c.lost) cs })
      by true = record { cells = tt; ended = columns-causes cs h }
      by false = let k = each (map (λ c. cell_values c.cells) cs) in record { cells = k.cells; ended = k.ended }

  sorted-at : (ds : List Direction) (cs : List Column) → AllColumnsAt cs → ColumnAt (sorted_by_keys ds (zipped false at cs))
  sorted-at ds cs h = record { cells = by (is_empty (zipped false at cs).broken); ended = zip-at false cs h }
    where
      by : (b : Bool) → AllByRecursion CellAt (if b then map value (in_order_of_keys ds (map (λ row. (drop 1 row, at_row 0 row)) (zipped false at cs).rows)) else [])
      by true = values-at (in_order_of_keys ds (map (λ row. (drop 1 row, at_row 0 row)) (zipped false at cs).rows))
      by false = tt

  kept-at : (cs : List Column) → AllColumnsAt cs → ColumnAt (kept (zipped false at cs))
  kept-at cs h = record { cells = all-of CellAt (λ row. value (at_row 0 row)) (λ row. tt) (filter (λ row. is_true (at_row 1 row)) (zipped false at cs).rows); ended = zip-at false cs h }

  picked_at-at : (vs : List Value) (i : ℕ) → CellAt (picked_at at vs i)
  picked_at-at vs i = by (nat_lt i (length vs))
    where
      by : (b : Bool) → CellAt (if b then value (get_or vs i val.Null) else faulty (record { fault = fault.Gather; node = at }) [])
      by true = tt
      by false = (refl, tt)

  picked-at : (vs : List Value) (v : Value) → CellAt (picked at vs v)
  picked-at vs (val.Int64 (pos i)) = picked_at-at vs i
  picked-at vs (val.Int64 (negsuc i)) = (refl, tt)
  picked-at vs (val.IdxSize i) = picked_at-at vs i
  picked-at vs val.Null = tt
  picked-at vs (val.Boolean b) = tt
  picked-at vs (val.String s) = tt

  count-at : (n : ℕ) → ColumnAt (count_column at n)
  count-at n = by (nat_le n max_rows)
    where
      by : (b : Bool) → ColumnAt (if b then whole_column (val.IdxSize n ∷ []) else record { cells = []; broken = record { fault = fault.Rows; node = at } ∷ []; lost = [] })
      by true = whole-at (val.IdxSize n ∷ [])
      by false = one-fault fault.Rows

  aggregate-at : (a : Aggregation) (k : Option DataType) (vs : List Value) → ColumnAt (aggregate_column at a k vs)
  aggregate-at Aggregation.min k vs = whole-at (least_value vs ∷ [])
  aggregate-at Aggregation.max k vs = whole-at (greatest_value vs ∷ [])
  aggregate-at Aggregation.first k vs = whole-at (get_or vs 0 val.Null ∷ [])
  aggregate-at Aggregation.last k vs = whole-at (last_value vs ∷ [])
  aggregate-at Aggregation.sum k vs = whole-at (sum_value k vs ∷ [])
  aggregate-at Aggregation.n_unique k vs = count-at (length (distinct_values vs))
  aggregate-at (Aggregation.count all) k vs = count-at (length (if all then vs else filter (λ v. not (is_null v)) vs))

  slice-at : (vs : List Value) (o l : Value) → ColumnAt (slice_column at vs o l)
  slice-at vs (val.Int64 o) (val.Int64 (pos l)) =
      let start = slice_start (length vs) o in
      whole-at (values_between (clipped (length vs) start) (clipped (length vs) (start +ℤ pos l)) vs)
  slice-at vs (val.Int64 o) (val.Int64 (negsuc l)) = one-fault fault.SliceBound
  slice-at vs (val.Int64 o) val.Null = one-fault fault.SliceBound
  slice-at vs (val.Int64 o) (val.Boolean b) = one-fault fault.SliceBound
  slice-at vs (val.Int64 o) (val.IdxSize n) = one-fault fault.SliceBound
  slice-at vs (val.Int64 o) (val.String s) = one-fault fault.SliceBound
  slice-at vs val.Null l = one-fault fault.SliceBound
  slice-at vs (val.Boolean b) l = one-fault fault.SliceBound
  slice-at vs (val.IdxSize n) l = one-fault fault.SliceBound
  slice-at vs (val.String s) l = one-fault fault.SliceBound

  cast-at : (strict : Bool) (o : Option Value) → CellAt (cast_cell at strict o)
  cast-at strict (Some v) = tt
  cast-at true None = (refl, tt)
  cast-at false None = tt

  function-at : (g : FunctionExpr) (c : Column) → ColumnAt c → ColumnAt (function_column at g c)
  function-at fun.Not c h = cellwise-at (λ row. value (not_value (at_row 0 row))) (λ vs. tt) (c ∷ []) (h, tt)
  function-at fun.IsNull c h = cellwise-at (λ row. value (val.Boolean (is_null (at_row 0 row)))) (λ vs. tt) (c ∷ []) (h, tt)
  function-at fun.IsNotNull c h = cellwise-at (λ row. value (val.Boolean (not (is_null (at_row 0 row))))) (λ vs. tt) (c ∷ []) (h, tt)
  function-at fun.Reverse c h = from-whole-at (λ vs. whole_column (reverse (operand 0 vs))) (λ vss. whole-at (reverse (operand 0 vss))) (c ∷ []) (h, tt)

  module _ (f : Frame) where
    mutual
      pub eval-at : (e : Tree) → ColumnAt (eval at (whole f) e)
      eval-at (Tree.column name) = record { cells = values-at (values_at_some (field_index name f.schema) f.rows); ended = tt }
      eval-at (Tree.literal l) = whole-at (literal_value l ∷ [])
      eval-at (Tree.binary o l r) = cellwise-at (λ row. value (binary_value o (at_row 0 row) (at_row 1 row))) (λ vs. tt) (eval at (whole f) l ∷ eval at (whole f) r ∷ []) (eval-at l, (eval-at r, tt))
      eval-at (Tree.cast k strict e) = cellwise-at (λ row. cast_cell at strict (cast_value k (at_row 0 row))) (λ vs. cast-at strict (cast_value k (at_row 0 vs))) (eval at (whole f) e ∷ []) (eval-at e, tt)
      eval-at (Tree.sort d n e) =
          from-whole-at (λ vs. whole_column (values_in_order (record { descending = d; nulls_last = n }) (operand 0 vs))) (λ vss. whole-at (values_in_order (record { descending = d; nulls_last = n }) (operand 0 vss)))
          (eval at (whole f) e ∷ []) (eval-at e, tt)
      eval-at (Tree.sort_by d n e by) = sorted-at (directions_of (tree_count by) d n) (eval at (whole f) e ∷ eval_all at (whole f) by) (eval-at e, all-at by)
      eval-at (Tree.gather s e i) =
          from-whole-at (λ vs. record { cells = map (picked at (operand 0 vs)) (operand 1 vs); broken = []; lost = [] }) (λ vss. record { cells = all-of CellAt (picked at (operand 0 vss)) (picked-at (operand 0 vss)) (operand 1 vss); ended = tt })
          (eval at (whole f) e ∷ eval at (whole f) i ∷ []) (eval-at e, (eval-at i, tt))
      eval-at (Tree.filter e by) = kept-at (eval at (whole f) e ∷ eval at (whole f) by ∷ []) (eval-at e, (eval-at by, tt))
      eval-at (Tree.aggregate a e) = from-whole-at (λ vs. aggregate_column at a (kind_over f.schema e) (operand 0 vs)) (λ vss. aggregate-at a (kind_over f.schema e) (operand 0 vss)) (eval at (whole f) e ∷ []) (eval-at e, tt)
      eval-at (Tree.ternary p a b) = cellwise-at (λ row. value (choice_of (at_row 0 row) (at_row 1 row) (at_row 2 row))) (λ vs. tt) (eval at (whole f) p ∷ eval at (whole f) a ∷ eval at (whole f) b ∷ []) (eval-at p, (eval-at a, (eval-at b, tt)))
      eval-at (Tree.function g e) = function-at g (eval at (whole f) e) (eval-at e)
      eval-at (Tree.slice e o l) =
          from-whole-at (λ vs. slice_column at (operand 0 vs) (at_row 0 (operand 1 vs)) (at_row 0 (operand 2 vs))) (λ vss. slice-at (operand 0 vss) (at_row 0 (operand 1 vss)) (at_row 0 (operand 2 vss)))
          (eval at (whole f) e ∷ eval at (whole f) o ∷ eval at (whole f) l ∷ []) (eval-at e, (eval-at o, (eval-at l, tt)))
      eval-at Tree.len = count-at (length f.rows)
      eval-at (Tree.left_out w) = whole-at []
      eval-at Tree.missing = whole-at []

      all-at : (es : Trees) → AllColumnsAt (eval_all at (whole f) es)
      all-at Trees.no_trees = tt
      all-at (Trees.tree e es) = (eval-at e, all-at es)

    -- the columns of expressions, and those of the table before them
    pub exprs-at : (es : List Tree) → AllColumnsAt (columns_at at es (whole f))
    exprs-at es = all-of ColumnAt (eval at (whole f)) eval-at es

    pub keyed-at : (es : List Tree) → AllColumnsAt (columns_of (whole f) ++ columns_at at es (whole f))
    keyed-at es =
        all-append ColumnAt (columns_of (whole f)) (columns_at at es (whole f)) (all-of ColumnAt (λ i. column_at i (whole f)) (λ i. record { cells = values-at _; ended = tt }) (below (length f.schema)))
        (exprs-at es)

  -- a fault of causes at the node is that of a cause there
  pub fault-at : (cs : List Cause) (f : DataFault) → AreAt cs → IsFaultOf cs f → Contains cs (record { fault = f; node = at })
  fault-at [] f h m = absurd m
  fault-at (c ∷ cs) f h (inl e) = let same : c ≡ record { fault = f; node = at } = λ i. record { fault = sym e i; node = h.0 i } in (0, omega arith, same)
  fault-at (c ∷ cs) f h (inr m) = let r = fault-at cs f h.1 m in (suc r.0, (let l = r.1 in omega arith), r.2)
