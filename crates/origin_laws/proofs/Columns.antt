-- What holds of the causes of a table, and of all that a node makes, holds of the causes of each expression's column that stands at the node.
use Rattle.std.proofs.Common.{◌≡◌, ℕ, zero, suc, ◌⊎◌, List, [], ◌∷◌, ◌++◌, drop, get_or, length, reverse, refl, subst, inl, inr}
use Rattle.std.specs.Prelude.{Bool, true, false, cond, Contains, ◌&&◌, ◌||◌, pos, negsuc, ◌+ℤ◌, Option, Some, None, filter, map, nat_le, nat_lt, not, if◌then◌else◌}
use Rattle.std.specs.List.{flat_map, list_any}
use Rattle.std.proofs.lemmas.List.Elements.{Contains-append_cases}
use Rattle.ps_frame.specs.Aggregates.{aggregate_column, count_column, distinct_values, greatest_value, last_value, least_value, max_rows, sum_value}
use Rattle.ps_frame.specs.Causes.{Cause, Cell, Column, faulty, value, cell_causes, cell_values, column_causes, faulty_or, has_cause, is_empty, whole_column}
use Rattle.ps_frame.specs.Eval.{at, cell_of_row, cellwise, eval, eval_all, from_whole, function_column, height_column, kept, literal_value, no_slice, operand, picked, picked_at, clipped, slice_column, slice_start, sorted_by_keys, values_between}
use Rattle.ps_frame.specs.Free.{all_free_causes, causes_if_free, free_causes, no_table}
use Rattle.ps_frame.specs.Operators.{binary_value, cast_cell, cast_value, choice_of, not_value}
use Rattle.ps_frame.specs.Sorting.{Direction, directions_of, in_order_of_keys, values_in_order}
use Rattle.ps_frame.specs.Tables.{Table, column_at, columns_of, field_index, values_at, values_at_some}
use Rattle.ps_frame.specs.Trees.{Aggregation, Tree, Trees}
use Rattle.ps_frame.specs.Typing.{is_elementwise, is_independent, kind_over, tree_count}
use Rattle.ps_frame.specs.Values.{is_null, is_true}
use Rattle.ps_frame.specs.Zip.{aligned, below, breaks_shape, broadcasts, cell_in_row, ends_early, extent_of, extents, is_faulty_row, row_causes, unseen_causes, zip_causes, zip_length, zipped}
use Rattle.ps_frame.specs.declared.expr.FunctionExpr.{FunctionExpr}
use Rattle.ps_frame.specs.declared.expr.FunctionExpr.TheVariants as fun
use Rattle.ps_frame.specs.declared.value.DataFault.TheVariants as fault
use Rattle.ps_frame.specs.declared.value.Value.{Value}
use Rattle.ps_frame.specs.declared.value.Value.TheVariants as val
use Rattle.ps_meaning.specs.Cases.{columns_at}
use Rattle.origin_laws.proofs.Causes.{Each, both, contains_cases, contains_first, contains_later, either, flat, from_filter, from_map, none, none_in_nil, one}

module _ (P : Cause → Type 0) (node : ℕ) (own : (x : Cause) → x.node ≡ node → P x) where
  pub record Holds (c : Column) : Type 0 where
    pub cells : (x : Cell) → Contains c.cells x → Each P (cell_causes x)
    pub broken : Each P c.broken
    pub lost : Each P c.lost

  abbrev pub AllHold : List Column → Type 0
  AllHold cs = (c : Column) → Contains cs c → Holds c

  pub no_columns : AllHold []
  no_columns c d = absurd (none_in_nil c d)

  pub more : (c : Column) (cs : List Column) → Holds c → AllHold cs → AllHold (c ∷ cs)
  more c cs h all x d = by (contains_cases c x cs d)
    where
      by : (c ≡ x) ⊎ Contains cs x → Holds x
      by (inl e) = subst Holds e h
      by (inr later) = all x later

  pub together : (cs ds : List Column) → AllHold cs → AllHold ds → AllHold (cs ++ ds)
  together cs ds h g x c = by (Contains-append_cases cs ds x c)
    where
      by : Contains cs x ⊎ Contains ds x → Holds x
      by (inl d) = h x d
      by (inr d) = g x d

  pub causes : (c : Column) → Holds c → Each P (column_causes c)
  causes c h = both P (flat_map cell_causes c.cells) c.broken (flat P cell_causes c.cells h.cells) h.broken

  -- the causes of all columns, and what they lost
  pub all_causes : (cs : List Column) → AllHold cs → Each P (flat_map column_causes cs)
  all_causes cs h = flat P column_causes cs (λ c d. causes c (h c d))

  pub all_lost : (cs : List Column) → AllHold cs → Each P (flat_map (λ (c : Column). c.lost) cs)
  all_lost cs h = flat P (λ (c : Column). c.lost) cs (λ c d. (h c d).lost)

  -- a cell with a value has no cause
  valued : {A : Type 0} (f : A → Value) (items : List A) (x : Cell) → Contains (map (λ a. value (f a)) items) x → Each P (cell_causes x)
  valued f items x c = let y = from_map (λ a. value (f a)) x items c in subst (λ z. Each P (cell_causes z)) y.2 (none P)

  whole : (vs : List Value) → Holds (whole_column vs)
  whole vs = record { cells = λ x c. valued (λ v. v) vs x c; broken = none P; lost = none P }

  ended : (xs : List Cause) → Each P xs → Holds (record { cells = []; broken = xs; lost = [] })
  ended xs h = record { cells = λ x c. absurd (none_in_nil x c); broken = h; lost = none P }

  made : (c : Cause) → c.node ≡ node → Each P (c ∷ [])
  made c e = one P c (own c e)

  -- ZIPS
  cell_at : (cells : List Cell) (i : ℕ) → ((x : Cell) → Contains cells x → Each P (cell_causes x)) → Each P (cell_causes (get_or cells i (value val.Null)))
  cell_at [] i h = none P
  cell_at (x ∷ cells) zero h = h x (contains_first x cells)
  cell_at (x ∷ cells) (suc i) h = cell_at cells i (λ y c. h y (contains_later x y cells c))

  row_holds : (extend : Bool) (cs : List Column) → AllHold cs → (i : ℕ) → Each P (row_causes (map (cell_in_row extend i) cs))
  row_holds extend cs h i =
      flat P cell_causes (map (cell_in_row extend i) cs) (λ x c. let y = from_map (cell_in_row extend i) x cs c in subst (λ z. Each P (cell_causes z)) y.2 (cell_at y.0.cells (if broadcasts extend (extent_of y.0) then 0 else i) (h y.0 y.1).cells))

  rows_hold : (extend : Bool) (cs : List Column) → AllHold cs → (row : List Cell) → Contains (aligned extend node cs).rows row → Each P (row_causes row)
  rows_hold extend cs h row c =
      let i = from_map (λ i. map (cell_in_row extend i) cs) row (below (zip_length extend (extents cs))) c in subst (λ r. Each P (row_causes r)) i.2 (row_holds extend cs h i.0)

  zip_holds : (extend : Bool) (cs : List Column) → AllHold cs → Each P (zip_causes extend node cs)
  zip_holds extend cs h =
      both P (flat_map column_causes cs) _ (all_causes cs h) (either P (breaks_shape extend (extents cs)) (record { fault = fault.Shape; node = node } ∷ []) [] (made (record { fault = fault.Shape; node = node }) refl) (none P))

  unseen_holds : (extend : Bool) (n : ℕ) (cs : List Column) → AllHold cs → Each P (unseen_causes extend n cs)
  unseen_holds extend zero cs h =
      flat P (λ (c : Column). flat_map cell_causes c.cells) (filter (λ (c : Column). broadcasts extend (extent_of c)) cs)
      (λ c d. flat P cell_causes c.cells (h c (from_filter (λ (c : Column). broadcasts extend (extent_of c)) c cs d)).cells)
  unseen_holds extend (suc n) cs h = none P

  pub lost_holds : (extend : Bool) (cs : List Column) → AllHold cs → Each P (zipped extend node cs).lost
  lost_holds extend cs h = both P (flat_map (λ (c : Column). c.lost) cs) _ (all_lost cs h) (unseen_holds extend (zip_length extend (extents cs)) cs h)

  pub broken_holds : (extend : Bool) (cs : List Column) → AllHold cs → Each P (zipped extend node cs).broken
  broken_holds extend cs h = either P (ends_early extend cs || list_any is_faulty_row (aligned extend node cs).rows) (zip_causes extend node cs) [] (zip_holds extend cs h) (none P)

  -- OPERATORS
  faulty_holds : (xs : List Cause) (c : Cell) → Each P xs → Each P (cell_causes c) → Each P (cell_causes (faulty_or xs c))
  faulty_holds [] c h g = g
  faulty_holds (x ∷ xs) c h g = h

  cellwise_holds : (f : List Value → Cell) → ((vs : List Value) → Each P (cell_causes (f vs))) → (cs : List Column) → AllHold cs → Holds (cellwise node f cs)
  cellwise_holds f g cs h = record { cells = cells; broken = either P (ends_early false cs) (zip_causes false node cs) [] (zip_holds false cs h) (none P); lost = lost_holds false cs h }
    where
      cells : (x : Cell) → Contains (map (cell_of_row f) (aligned false node cs).rows) x → Each P (cell_causes x)
      cells x c =
          let row = from_map (cell_of_row f) x (aligned false node cs).rows c in
          subst (λ z. Each P (cell_causes z)) row.2 (faulty_holds (row_causes row.0) (f (cell_values row.0)) (rows_hold false cs h row.0 row.1) (g (cell_values row.0)))

  from_whole_holds : (f : List (List Value) → Column) → ((vss : List (List Value)) → Holds (f vss)) → (cs : List Column) → AllHold cs → Holds (from_whole f cs)
  from_whole_holds f g cs h = by (list_any has_cause cs)
    where
      by : (b : Bool) → Holds (cond {A = Column} b (record { cells = []; broken = flat_map column_causes cs; lost = flat_map (λ (c : Column). c.lost) cs }) (record (f (map (λ (c : Column). cell_values c.cells) cs)) { lost = flat_map (λ (c : Column). c.lost) cs }))
      by true = record { cells = λ x c. absurd (none_in_nil x c); broken = all_causes cs h; lost = all_lost cs h }
      by false = let inner = g (map (λ (c : Column). cell_values c.cells) cs) in record { cells = inner.cells; broken = inner.broken; lost = all_lost cs h }

  kept_holds : (cs : List Column) → AllHold cs → Holds (kept (zipped false node cs))
  kept_holds cs h =
      record { cells = λ x c. valued (at 0) (filter (λ row. is_true (at 1 row)) (zipped false node cs).rows) x c; broken = broken_holds false cs h; lost = lost_holds false cs h }

  sorted_holds : (ds : List Direction) (cs : List Column) → AllHold cs → Holds (sorted_by_keys ds (zipped false node cs))
  sorted_holds ds cs h = record { cells = cells (is_empty (zipped false node cs).broken); broken = broken_holds false cs h; lost = lost_holds false cs h }
    where
      cells : (b : Bool) (x : Cell) → Contains (if b then map value (in_order_of_keys ds (map (λ row. (drop 1 row, at 0 row)) (zipped false node cs).rows)) else []) x → Each P (cell_causes x)
      cells true x c = valued (λ v. v) (in_order_of_keys ds (map (λ row. (drop 1 row, at 0 row)) (zipped false node cs).rows)) x c
      cells false x c = absurd (none_in_nil x c)

  picked_at_holds : (vs : List Value) (i : ℕ) → Each P (cell_causes (picked_at node vs i))
  picked_at_holds vs i = by (nat_lt i (length vs))
    where
      by : (b : Bool) → Each P (cell_causes (if b then value (get_or vs i val.Null) else faulty (record { fault = fault.Gather; node = node }) []))
      by true = none P
      by false = made (record { fault = fault.Gather; node = node }) refl

  picked_holds : (vs : List Value) (v : Value) → Each P (cell_causes (picked node vs v))
  picked_holds vs (val.Int64 (pos i)) = picked_at_holds vs i
  picked_holds vs (val.Int64 (negsuc i)) = made (record { fault = fault.Gather; node = node }) refl
  picked_holds vs (val.IdxSize i) = picked_at_holds vs i
  picked_holds vs v = none P

  gathered_holds : (vs is : List Value) → Holds (record { cells = map (picked node vs) is; broken = []; lost = [] })
  gathered_holds vs is = record { cells = λ x c. let v = from_map (picked node vs) x is c in subst (λ z. Each P (cell_causes z)) v.2 (picked_holds vs v.0); broken = none P; lost = none P }

  refused : Holds (no_slice node)
  refused = ended (record { fault = fault.SliceBound; node = node } ∷ []) (made (record { fault = fault.SliceBound; node = node }) refl)

  slice_holds : (vs : List Value) (o l : Value) → Holds (slice_column node vs o l)
  slice_holds vs (val.Int64 o) (val.Int64 (pos l)) = let start = slice_start (length vs) o in whole (values_between (clipped (length vs) start) (clipped (length vs) (start +ℤ pos l)) vs)
  slice_holds vs o l = refused

  count_holds : (n : ℕ) → Holds (count_column node n)
  count_holds n = by (nat_le n max_rows)
    where
      by : (b : Bool) → Holds (cond {A = Column} b (whole_column (val.IdxSize n ∷ [])) (record { cells = []; broken = record { fault = fault.Rows; node = node } ∷ []; lost = [] }))
      by true = whole (val.IdxSize n ∷ [])
      by false = ended (record { fault = fault.Rows; node = node } ∷ []) (made (record { fault = fault.Rows; node = node }) refl)

  aggregate_holds : (a : Aggregation) (k : Option Rattle.ps_frame.specs.declared.value.DataType.DataType) (vs : List Value) → Holds (aggregate_column node a k vs)
  aggregate_holds Aggregation.min k vs = whole (least_value vs ∷ [])
  aggregate_holds Aggregation.max k vs = whole (greatest_value vs ∷ [])
  aggregate_holds Aggregation.first k vs = whole (get_or vs 0 val.Null ∷ [])
  aggregate_holds Aggregation.last k vs = whole (last_value vs ∷ [])
  aggregate_holds Aggregation.sum k vs = whole (sum_value k vs ∷ [])
  aggregate_holds Aggregation.n_unique k vs = count_holds (length (distinct_values vs))
  aggregate_holds (Aggregation.count all) k vs = count_holds (length (if all then vs else filter (λ v. not (is_null v)) vs))

  cast_holds : (strict : Bool) (o : Option Value) → Each P (cell_causes (cast_cell node strict o))
  cast_holds strict (Some v) = none P
  cast_holds true None = made (record { fault = fault.StrictCast; node = node }) refl
  cast_holds false None = none P

  -- OVER A TABLE
  module _ (t : Table) (broken : Each P t.broken) where
    table_holds : (vs : List Value) → Holds (record { cells = map value vs; broken = t.broken; lost = [] })
    table_holds vs = record { cells = λ x c. valued (λ v. v) vs x c; broken = broken; lost = none P }

    pub columns_hold : AllHold (columns_of t)
    columns_hold c d = let i = from_map (λ i. column_at i t) c (below (length t.schema)) d in subst Holds i.2 (table_holds (values_at i.0 t.rows))

    height_holds : Holds (height_column node t)
    height_holds = by (is_empty t.broken)
      where
        by : (b : Bool) → Holds (cond {A = Column} b (count_column node (length t.rows)) (record { cells = []; broken = t.broken; lost = [] }))
        by true = count_holds (length t.rows)
        by false = ended t.broken broken

    function_holds : (g : FunctionExpr) (c : Column) → Holds c → Holds (function_column node g c)
    function_holds fun.Not c h = cellwise_holds (λ row. value (not_value (at 0 row))) (λ vs. none P) (c ∷ []) (more c [] h no_columns)
    function_holds fun.IsNull c h = cellwise_holds (λ row. value (val.Boolean (is_null (at 0 row)))) (λ vs. none P) (c ∷ []) (more c [] h no_columns)
    function_holds fun.IsNotNull c h = cellwise_holds (λ row. value (val.Boolean (not (is_null (at 0 row))))) (λ vs. none P) (c ∷ []) (more c [] h no_columns)
    function_holds fun.Reverse c h = from_whole_holds (λ vs. whole_column (reverse (operand 0 vs))) (λ vss. whole (reverse (operand 0 vss))) (c ∷ []) (more c [] h no_columns)

    two : (c d : Column) → Holds c → Holds d → AllHold (c ∷ d ∷ [])
    two c d h g = more c (d ∷ []) h (more d [] g no_columns)

    three : (c d e : Column) → Holds c → Holds d → Holds e → AllHold (c ∷ d ∷ e ∷ [])
    three c d e h g k = more c (d ∷ e ∷ []) h (two d e g k)

    mutual
      pub eval_holds : (e : Tree) → Holds (eval node t e)
      eval_holds (Tree.column name) = table_holds (values_at_some (field_index name t.schema) t.rows)
      eval_holds (Tree.literal l) = whole (literal_value l ∷ [])
      eval_holds (Tree.binary o l r) =
          cellwise_holds (λ row. value (binary_value o (at 0 row) (at 1 row))) (λ vs. none P) (eval node t l ∷ eval node t r ∷ []) (two (eval node t l) (eval node t r) (eval_holds l) (eval_holds r))
      eval_holds (Tree.cast k strict e) =
          cellwise_holds (λ row. cast_cell node strict (cast_value k (at 0 row))) (λ vs. cast_holds strict (cast_value k (at 0 vs))) (eval node t e ∷ []) (more (eval node t e) [] (eval_holds e) no_columns)
      eval_holds (Tree.sort d n e) =
          from_whole_holds (λ vs. whole_column (values_in_order (record { descending = d; nulls_last = n }) (operand 0 vs))) (λ vss. whole (values_in_order (record { descending = d; nulls_last = n }) (operand 0 vss))) (eval node t e ∷ []) (more (eval node t e) [] (eval_holds e) no_columns)
      eval_holds (Tree.sort_by d n e by) = sorted_holds (directions_of (tree_count by) d n) (eval node t e ∷ eval_all node t by) (more (eval node t e) (eval_all node t by) (eval_holds e) (all_hold by))
      eval_holds (Tree.gather s e i) =
          from_whole_holds (λ vs. record { cells = map (picked node (operand 0 vs)) (operand 1 vs); broken = []; lost = [] }) (λ vss. gathered_holds (operand 0 vss) (operand 1 vss)) (eval node t e ∷ eval node t i ∷ [])
          (two (eval node t e) (eval node t i) (eval_holds e) (eval_holds i))
      eval_holds (Tree.filter e by) = kept_holds (eval node t e ∷ eval node t by ∷ []) (two (eval node t e) (eval node t by) (eval_holds e) (eval_holds by))
      eval_holds (Tree.aggregate a e) =
          from_whole_holds (λ vs. aggregate_column node a (kind_over t.schema e) (operand 0 vs)) (λ vss. aggregate_holds a (kind_over t.schema e) (operand 0 vss)) (eval node t e ∷ []) (more (eval node t e) [] (eval_holds e) no_columns)
      eval_holds (Tree.ternary p a b) =
          cellwise_holds (λ row. value (choice_of (at 0 row) (at 1 row) (at 2 row))) (λ vs. none P) (eval node t p ∷ eval node t a ∷ eval node t b ∷ [])
          (three (eval node t p) (eval node t a) (eval node t b) (eval_holds p) (eval_holds a) (eval_holds b))
      eval_holds (Tree.function g e) = function_holds g (eval node t e) (eval_holds e)
      eval_holds (Tree.slice e o l) =
          from_whole_holds (λ vs. slice_column node (operand 0 vs) (at 0 (operand 1 vs)) (at 0 (operand 2 vs))) (λ vss. slice_holds (operand 0 vss) (at 0 (operand 1 vss)) (at 0 (operand 2 vss)))
          (eval node t e ∷ eval node t o ∷ eval node t l ∷ []) (three (eval node t e) (eval node t o) (eval node t l) (eval_holds e) (eval_holds o) (eval_holds l))
      eval_holds Tree.len = height_holds
      eval_holds (Tree.left_out w) = whole []
      eval_holds Tree.missing = whole []

      all_hold : (es : Trees) → AllHold (eval_all node t es)
      all_hold Trees.no_trees = no_columns
      all_hold (Trees.tree e es) = more (eval node t e) (eval_all node t es) (eval_holds e) (all_hold es)

    pub exprs_hold : (es : List Tree) → AllHold (columns_at node es t)
    exprs_hold es c d = let e = from_map (λ e. eval node t e) c es d in subst Holds e.2 (eval_holds e.0)

  -- WHAT READS NO ROW
  free_if : (t : Tree) (below : List Cause) → Each P below → Each P (causes_if_free node t below)
  free_if t below h = either P (is_elementwise t && is_independent t) (column_causes (eval node no_table t)) below (causes (eval node no_table t) (eval_holds no_table (none P) t)) h

  mutual
    pub free_hold : (e : Tree) → Each P (free_causes node e)
    free_hold (Tree.column name) = none P
    free_hold (Tree.literal l) = none P
    free_hold (Tree.binary o l r) = free_if (Tree.binary o l r) (free_causes node l ++ free_causes node r) (both P (free_causes node l) (free_causes node r) (free_hold l) (free_hold r))
    free_hold (Tree.cast k s e) = free_if (Tree.cast k s e) (free_causes node e) (free_hold e)
    free_hold (Tree.sort d n e) = free_hold e
    free_hold (Tree.sort_by d n e by) = both P (free_causes node e) (all_free_causes node by) (free_hold e) (all_free_hold by)
    free_hold (Tree.gather s e i) = both P (free_causes node e) (free_causes node i) (free_hold e) (free_hold i)
    free_hold (Tree.filter e by) = both P (free_causes node e) (free_causes node by) (free_hold e) (free_hold by)
    free_hold (Tree.aggregate a e) = none P
    free_hold (Tree.ternary p a b) =
        free_if (Tree.ternary p a b) (free_causes node p ++ (free_causes node a ++ free_causes node b))
        (both P (free_causes node p) (free_causes node a ++ free_causes node b) (free_hold p) (both P (free_causes node a) (free_causes node b) (free_hold a) (free_hold b)))
    free_hold (Tree.function g e) = free_if (Tree.function g e) (free_causes node e) (free_hold e)
    free_hold (Tree.slice e o l) = both P (free_causes node e) (free_causes node o ++ free_causes node l) (free_hold e) (both P (free_causes node o) (free_causes node l) (free_hold o) (free_hold l))
    free_hold Tree.len = none P
    free_hold (Tree.left_out w) = none P
    free_hold Tree.missing = none P

    all_free_hold : (es : Trees) → Each P (all_free_causes node es)
    all_free_hold Trees.no_trees = none P
    all_free_hold (Trees.tree e es) = both P (free_causes node e) (all_free_causes node es) (free_hold e) (all_free_hold es)
