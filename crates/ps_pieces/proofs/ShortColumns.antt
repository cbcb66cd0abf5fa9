-- The column of an expression has no more cells than its table has rows, or one.
use Rattle.std.proofs.Common.{◌≡◌, ℕ, zero, suc, ◌-◌, ◌≤◌, min, List, [], ◌∷◌, length, get_or, refl, sym, ap, ◌∙◌, subst, arith, length-append}
use Rattle.std.proofs.lemmas.List.{length-map, length-reverse}
use Rattle.std.proofs.lemmas.List.Sums.{take_while-cons}
use Rattle.std.specs.Prelude.{Bool, true, false, not, cond, flat_map, pos, negsuc, ◌+ℤ◌, drop, filter, fold, map, nat_le, reverse, take, take_while, Option, Some, None, if◌then◌else◌}
use Rattle.std.specs.List.{AllByRecursion, list_any}
use Rattle.std.specs.Ordering.{is_lt}
use Rattle.ps_frame.specs.Aggregates.{aggregate_column, count_column, distinct_values, max_rows}
use Rattle.ps_frame.specs.Causes.{Cell, Column, value, faulty, cell_values, column_causes, has_cause, is_empty, whole_column}
use Rattle.ps_frame.specs.Eval.{at, cell_of_row, cellwise, clipped, eval, eval_all, from_whole, function_column, height_column, kept, operand, picked, slice_column, slice_start, sorted_by_keys, values_between}
use Rattle.ps_frame.specs.Operators.{binary_value, cast_cell, cast_value, choice_of, not_value}
use Rattle.ps_frame.specs.Sorting.{Direction, directions_of, in_order, in_order_of_keys, insert_in_order, key_cmp, keys_cmp, values_in_order}
use Rattle.ps_frame.specs.Tables.{Table, field_index, table_column, values_at_some}
use Rattle.ps_frame.specs.Trees.{Aggregation, Tree, Trees}
use Rattle.ps_frame.specs.Typing.{kind_over, tree_count}
use Rattle.ps_frame.specs.Values.{is_null, is_true}
use Rattle.ps_frame.specs.Zip.{Extent, Zipped, aligned, below, broadcasts, cell_in_row, extent_of, extents, is_faulty_row, least_or, lengths_where, zip_length, zip_rows, zipped}
use Rattle.ps_frame.specs.declared.expr.FunctionExpr.{FunctionExpr}
use Rattle.ps_frame.specs.declared.expr.FunctionExpr.TheVariants as fun
use Rattle.ps_frame.specs.declared.value.DataFault.TheVariants as fault
use Rattle.ps_frame.specs.declared.value.DataType.{DataType}
use Rattle.ps_frame.specs.declared.value.Value.{Value}
use Rattle.ps_frame.specs.declared.value.Value.TheVariants as val

-- Lists that a step shortens.
while-short : {A : Type 0} (t : A → Bool) (xs : List A) → length (take_while t xs) ≤ length xs
while-short t [] = omega arith
while-short t (x ∷ xs) = subst (λ ys. length ys ≤ suc (length xs)) (sym (take_while-cons t x xs)) (by (t x) (while-short t xs))
  where
    by : (b : Bool) → length (take_while t xs) ≤ length xs → length (cond b (x ∷ take_while t xs) []) ≤ suc (length xs)
    by true h = omega arith
    by false h = omega arith

filter-short : {A : Type 0} (t : A → Bool) (xs : List A) → length (filter t xs) ≤ length xs
filter-short t [] = omega arith
filter-short t (x ∷ xs) = by (t x) (filter-short t xs)
  where
    by : (b : Bool) → length (filter t xs) ≤ length xs → length (cond b (x ∷ filter t xs) (filter t xs)) ≤ suc (length xs)
    by true h = omega arith
    by false h = omega arith

take-short : {A : Type 0} (n : ℕ) (xs : List A) → length (take n xs) ≤ length xs
take-short zero xs = omega arith
take-short (suc n) [] = omega arith
take-short (suc n) (x ∷ xs) = let h = take-short n xs in omega arith

drop-short : {A : Type 0} (n : ℕ) (xs : List A) → length (drop n xs) ≤ length xs
drop-short zero xs = omega arith
drop-short (suc n) [] = omega arith
drop-short (suc n) (x ∷ xs) = let h = drop-short n xs in omega arith

values-short : (cells : List Cell) → length (cell_values cells) ≤ length cells
values-short [] = omega arith
values-short (value v ∷ cells) = let h = values-short cells in omega arith
values-short (faulty c cs ∷ cells) = let h = values-short cells in omega arith

length-insert : {A : Type 0} (less : A → A → Bool) (x : A) (ys : List A) → length (insert_in_order less x ys) ≡ suc (length ys)
length-insert less x [] = refl
length-insert less x (y ∷ ys) = by (less y x) (length-insert less x ys)
  where
    by : (b : Bool) → length (insert_in_order less x ys) ≡ suc (length ys) → length (cond b (y ∷ insert_in_order less x ys) (x ∷ y ∷ ys)) ≡ suc (suc (length ys))
    by true e = ap suc e
    by false e = refl

length-ordered : {A : Type 0} (less : A → A → Bool) (xs : List A) → length (in_order less xs) ≡ length xs
length-ordered less [] = refl
length-ordered less (x ∷ xs) = length-insert less x (in_order less xs) ∙ ap suc (length-ordered less xs)

length-below : (n : ℕ) → length (below n) ≡ n
length-below zero = refl
length-below (suc n) = omega (arith, length-append (below n) (n ∷ []), length-below n)

fold-least : (x : ℕ) (xs : List ℕ) → fold min x xs ≤ x
fold-least x [] = omega arith
fold-least x (y ∷ ys) = let h = fold-least (min x y) ys in omega arith

module _ (m : ℕ) (one : 1 ≤ m) where
  abbrev IsShort : Column → Type 0
  IsShort c = length c.cells ≤ m

  lengths-short : (test : Extent → Bool) (cs : List Column) → AllByRecursion IsShort cs → AllByRecursion (λ n. n ≤ m) (lengths_where test (extents cs))
  lengths-short test [] h = tt
  lengths-short test (c ∷ cs) h = by (test (extent_of c)) (lengths-short test cs h.1)
    where
      by : (b : Bool) → AllByRecursion (λ n. n ≤ m) (lengths_where test (extents cs)) → AllByRecursion (λ n. n ≤ m) (map (λ (e : Extent). e.len) (cond b (extent_of c ∷ filter test (extents cs)) (filter test (extents cs))))
      by true rest = (h.0, rest)
      by false rest = rest

  -- side by side they have no more rows
  rows-short : (cs : List Column) → AllByRecursion IsShort cs → zip_length false (extents cs) ≤ m
  rows-short cs h = by (lengths_where (λ e. not (broadcasts false e)) (extents cs)) (lengths-short (λ e. not (broadcasts false e)) cs h)
    where
      by : (ms : List ℕ) → AllByRecursion (λ n. n ≤ m) ms → least_or 1 ms ≤ m
      by [] h = one
      by (k ∷ ks) h = let l = fold-least k ks in let first = h.0 in omega arith

  aligned-short : (node : ℕ) (cs : List Column) → AllByRecursion IsShort cs → length (aligned false node cs).rows ≤ m
  aligned-short node cs h =
      let e : length (zip_rows false (zip_length false (extents cs)) cs) ≡ zip_length false (extents cs) = length-map (below (zip_length false (extents cs))) (λ i. map (cell_in_row false i) cs) ∙ length-below (zip_length false (extents cs)) in
      subst (λ n. n ≤ m) (sym e) (rows-short cs h)

  cellwise-short : (node : ℕ) (f : List Value → Cell) (cs : List Column) → AllByRecursion IsShort cs → IsShort (cellwise node f cs)
  cellwise-short node f cs h = subst (λ n. n ≤ m) (sym (length-map (aligned false node cs).rows (cell_of_row f))) (aligned-short node cs h)

  zipped-short : (node : ℕ) (cs : List Column) → AllByRecursion IsShort cs → length (zipped false node cs).rows ≤ m
  zipped-short node cs h =
      let t : List Cell → Bool = λ row. not (is_faulty_row row) in
      let e = length-map (take_while t (aligned false node cs).rows) cell_values in
      let k = while-short t (aligned false node cs).rows in
      let a = aligned-short node cs h in
      omega arith

  kept-short : (z : Zipped) → length z.rows ≤ m → IsShort (kept z)
  kept-short z h =
      let e = length-map (filter (λ row. is_true (at 1 row)) z.rows) (λ row. value (at 0 row)) in
      let k = filter-short (λ row. is_true (at 1 row)) z.rows in
      omega arith

  sorted-short : (ds : List Direction) (z : Zipped) → length z.rows ≤ m → IsShort (sorted_by_keys ds z)
  sorted-short ds z h = by (is_empty z.broken)
    where
      keyed : List (List Value × Value)
      keyed = map (λ row. (drop 1 row, at 0 row)) z.rows

      same : length (map value (in_order_of_keys ds (map (λ row. (drop 1 row, at 0 row)) z.rows))) ≡ length z.rows
      same =
          length-map (in_order_of_keys ds keyed) value
          ∙ length-map (in_order (λ p q. is_lt (keys_cmp ds p.0 q.0)) keyed) (λ p. p.1)
          ∙ length-ordered (λ p q. is_lt (keys_cmp ds p.0 q.0)) keyed
          ∙ length-map z.rows (λ row. (drop 1 row, at 0 row))

      by : (b : Bool) → length (cond b (map value (in_order_of_keys ds (map (λ row. (drop 1 row, at 0 row)) z.rows))) []) ≤ m
      by false = omega arith
      by true = subst (λ n. n ≤ m) (sym same) h

  -- what f gives of the values of short columns is short
  whole-short : (f : List (List Value) → Column) (cs : List Column) → IsShort (f (map (λ c. cell_values c.cells) cs)) → IsShort (from_whole f cs)
  whole-short f cs h = by (list_any has_cause cs)
    where
      by : (b : Bool) → length (if b then record { cells = []; broken = flat_map column_causes cs; lost = flat_map (λ (c : Column). c.lost) cs } else record (f (map (λ (c : Column). cell_values c.cells) cs)) { lost = flat_map (λ (c : Column). c.lost) cs }).cells ≤ m
      by true = omega arith
      by false = h

  list-short : (vs : List Value) → length vs ≤ m → IsShort (whole_column vs)
  list-short vs h = let e = length-map vs value in omega arith

  count-short : (node n : ℕ) → IsShort (count_column node n)
  count-short node n = by (nat_le n max_rows)
    where
      by : (b : Bool) → length (if b then whole_column (val.IdxSize n ∷ []) else record { cells = []; broken = record { fault = fault.Rows; node = node } ∷ []; lost = [] }).cells ≤ m
      by true = one
      by false = omega arith

  aggregate-short : (node : ℕ) (a : Aggregation) (k : Option DataType) (vs : List Value) → IsShort (aggregate_column node a k vs)
  aggregate-short node Aggregation.min k vs = one
  aggregate-short node Aggregation.max k vs = one
  aggregate-short node Aggregation.first k vs = one
  aggregate-short node Aggregation.last k vs = one
  aggregate-short node Aggregation.sum k vs = one
  aggregate-short node Aggregation.n_unique k vs = count-short node (length (distinct_values vs))
  aggregate-short node (Aggregation.count all) k vs = count-short node (length (if all then vs else filter (λ v. not (is_null v)) vs))

  slice-short : (node : ℕ) (vs : List Value) (o l : Value) → length vs ≤ m → IsShort (slice_column node vs o l)
  slice-short node vs (val.Int64 o) (val.Int64 (pos l)) h =
      let start = slice_start (length vs) o in
      let from = clipped (length vs) start in
      let to = clipped (length vs) (start +ℤ pos l) in
      list-short (values_between from to vs) (let t = take-short (to - from) (drop from vs) in let d = drop-short from vs in omega arith)
  slice-short node vs (val.Int64 o) (val.Int64 (negsuc l)) h = omega arith
  slice-short node vs (val.Int64 o) val.Null h = omega arith
  slice-short node vs (val.Int64 o) (val.Boolean b) h = omega arith
  slice-short node vs (val.Int64 o) (val.IdxSize n) h = omega arith
  slice-short node vs (val.Int64 o) (val.String s) h = omega arith
  slice-short node vs val.Null l h = omega arith
  slice-short node vs (val.Boolean b) l h = omega arith
  slice-short node vs (val.IdxSize n) l h = omega arith
  slice-short node vs (val.String s) l h = omega arith

  function-short : (node : ℕ) (g : FunctionExpr) (c : Column) → IsShort c → IsShort (function_column node g c)
  function-short node fun.Not c h = cellwise-short node (λ row. value (not_value (at 0 row))) (c ∷ []) (h, tt)
  function-short node fun.IsNull c h = cellwise-short node (λ row. value (val.Boolean (is_null (at 0 row)))) (c ∷ []) (h, tt)
  function-short node fun.IsNotNull c h = cellwise-short node (λ row. value (val.Boolean (not (is_null (at 0 row))))) (c ∷ []) (h, tt)
  function-short node fun.Reverse c h =
      whole-short (λ vs. whole_column (reverse (operand 0 vs))) (c ∷ [])
      (let e = length-reverse (cell_values c.cells) in let k = values-short c.cells in list-short (reverse (cell_values c.cells)) (omega arith))

  height-short : (node : ℕ) (t : Table) → IsShort (height_column node t)
  height-short node t = by (is_empty t.broken)
    where
      by : (b : Bool) → length (if b then count_column node (length t.rows) else record { cells = []; broken = t.broken; lost = [] }).cells ≤ m
      by true = count-short node (length t.rows)
      by false = omega arith

  module _ (node : ℕ) (t : Table) (few : length t.rows ≤ m) where
    column-short : (name : List ℕ) → IsShort (table_column name t)
    column-short name = by (field_index name t.schema)
      where
        by : (o : Option ℕ) → length (map value (values_at_some o t.rows)) ≤ m
        by None = omega arith
        by (Some i) = let e = length-map (values_at_some (Some i) t.rows) value in let k = length-map t.rows (λ row. get_or row i val.Null) in omega arith

    mutual
      pub eval-short : (e : Tree) → IsShort (eval node t e)
      eval-short (Tree.column name) = column-short name
      eval-short (Tree.literal l) = one
      eval-short (Tree.binary o l r) = cellwise-short node (λ row. value (binary_value o (at 0 row) (at 1 row))) (eval node t l ∷ eval node t r ∷ []) (eval-short l, (eval-short r, tt))
      eval-short (Tree.cast k strict e) = cellwise-short node (λ row. cast_cell node strict (cast_value k (at 0 row))) (eval node t e ∷ []) (eval-short e, tt)
      eval-short (Tree.sort d n e) =
          let h = eval-short e in
          let vs = cell_values (eval node t e).cells in
          let k = values-short (eval node t e).cells in
          let l = length-ordered (λ a b. is_lt (key_cmp (record { descending = d; nulls_last = n }) a b)) vs in
          whole-short (λ vs. whole_column (values_in_order (record { descending = d; nulls_last = n }) (operand 0 vs))) (eval node t e ∷ []) (list-short (values_in_order (record { descending = d; nulls_last = n }) vs) (omega arith))
      eval-short (Tree.sort_by d n e by) = sorted-short (directions_of (tree_count by) d n) (zipped false node (eval node t e ∷ eval_all node t by)) (zipped-short node (eval node t e ∷ eval_all node t by) (eval-short e, all-short by))
      eval-short (Tree.gather s e i) =
          let h = eval-short i in
          let k = values-short (eval node t i).cells in
          let l = length-map (cell_values (eval node t i).cells) (picked node (cell_values (eval node t e).cells)) in
          whole-short (λ vs. record { cells = map (picked node (operand 0 vs)) (operand 1 vs); broken = []; lost = [] }) (eval node t e ∷ eval node t i ∷ []) (omega arith)
      eval-short (Tree.filter e by) = kept-short (zipped false node (eval node t e ∷ eval node t by ∷ [])) (zipped-short node (eval node t e ∷ eval node t by ∷ []) (eval-short e, (eval-short by, tt)))
      eval-short (Tree.aggregate a e) =
          whole-short (λ vs. aggregate_column node a (kind_over t.schema e) (operand 0 vs)) (eval node t e ∷ []) (aggregate-short node a (kind_over t.schema e) (cell_values (eval node t e).cells))
      eval-short (Tree.ternary p a b) =
          cellwise-short node (λ row. value (choice_of (at 0 row) (at 1 row) (at 2 row))) (eval node t p ∷ eval node t a ∷ eval node t b ∷ []) (eval-short p, (eval-short a, (eval-short b, tt)))
      eval-short (Tree.function g e) = function-short node g (eval node t e) (eval-short e)
      eval-short (Tree.slice e o l) =
          let h = eval-short e in
          let k = values-short (eval node t e).cells in
          whole-short (λ vs. slice_column node (operand 0 vs) (at 0 (operand 1 vs)) (at 0 (operand 2 vs))) (eval node t e ∷ eval node t o ∷ eval node t l ∷ [])
          (slice-short node (cell_values (eval node t e).cells) (at 0 (cell_values (eval node t o).cells)) (at 0 (cell_values (eval node t l).cells)) (omega arith))
      eval-short Tree.len = height-short node t
      eval-short (Tree.left_out w) = omega arith
      eval-short Tree.missing = omega arith

      all-short : (es : Trees) → AllByRecursion IsShort (eval_all node t es)
      all-short Trees.no_trees = tt
      all-short (Trees.tree e es) = (eval-short e, all-short es)
