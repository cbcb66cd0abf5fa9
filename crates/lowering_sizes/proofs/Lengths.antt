-- How long columns are: an elementwise expression has no more cells than the table has rows, or one.
use Rattle.std.proofs.Common.{◌≡◌, ◌⊎◌, inl, inr, ℕ, suc, ◌≤◌, ◌<◌, Bool, true, false, not, cond, List, [], ◌∷◌, length, get_or, Some, None, refl, sym, ap, ◌∙◌, arith}
use Rattle.std.specs.Prelude.{IsTrue, Option, filter, map, ◌&&◌}
use Rattle.std.specs.List.{AllByRecursion}
use Rattle.std.proofs.lemmas.List.{length-map}
use Rattle.ps_frame.specs.Causes.{Cell, Column, value}
use Rattle.ps_frame.specs.Eval.{at as item, cell_of_row, cellwise, eval, function_column}
use Rattle.ps_frame.specs.Operators.{binary_value, cast_cell, cast_value, choice_of, not_value}
use Rattle.ps_frame.specs.Parts.{tree_parts}
use Rattle.ps_frame.specs.Sorting.{in_order, insert_in_order}
use Rattle.ps_frame.specs.Tables.{Table, column_at, columns_of, field_index, table_column, values_at, values_at_some}
use Rattle.ps_frame.specs.Trees.{Tree}
use Rattle.ps_frame.specs.Typing.{goes_by_cell, goes_elementwise, is_elementwise}
use Rattle.ps_frame.specs.Values.{is_null}
use Rattle.ps_frame.specs.Zip.{below, broadcasts, cell_in_row, extent_of, extents, least_or, zip_length, zip_rows, zipped}
use Rattle.ps_frame.specs.declared.expr.FunctionExpr.{FunctionExpr}
use Rattle.ps_frame.specs.declared.expr.FunctionExpr.TheVariants as fun
use Rattle.ps_frame.specs.declared.value.Value.{Value}
use Rattle.ps_frame.specs.declared.value.Value.TheVariants as val
use Rattle.ps_meaning.specs.Cases.{all_columns}
use Rattle.ps_shares.proofs.Below.{length_below}
use Rattle.ps_shares.proofs.Ends.{has_either}
use Rattle.ps_shares.proofs.FlatLength.{both_hold, moving}
use Rattle.ps_shares.proofs.Leaves.{least_all}
use Rattle.ps_shares.proofs.Members.{Has, moving_as}
use Rattle.ps_bundles.proofs.ExprEnds.{one_of}
use Rattle.ps_bundles.proofs.ZipEnds.{differ, zip_table_shows}
use Rattle.lowering_sizes.proofs.Parts.{part_passes}

-- sorting keeps the number of items, and a filter hands out no more
length_insert : {A : Type 0} (less : A → A → Bool) (x : A) (ys : List A) → length (insert_in_order less x ys) ≡ suc (length ys)
length_insert less x [] = refl
length_insert less x (y ∷ ys) = by (less y x) (length_insert less x ys)
  where
    by : (b : Bool) → length (insert_in_order less x ys) ≡ suc (length ys) → length (cond b (y ∷ insert_in_order less x ys) (x ∷ y ∷ ys)) ≡ suc (suc (length ys))
    by true e = ap suc e
    by false e = refl

pub length_ordered : {A : Type 0} (less : A → A → Bool) (xs : List A) → length (in_order less xs) ≡ length xs
length_ordered less [] = refl
length_ordered less (x ∷ xs) = length_insert less x (in_order less xs) ∙ ap suc (length_ordered less xs)

pub fewer : {A : Type 0} (test : A → Bool) (xs : List A) → length (filter test xs) ≤ length xs
fewer test [] = omega arith
fewer test (x ∷ xs) = by (test x) (fewer test xs)
  where
    by : (b : Bool) → length (filter test xs) ≤ length xs → length (cond b (x ∷ filter test xs) (filter test xs)) ≤ suc (length xs)
    by true h = omega arith
    by false h = omega arith

-- the first length that counts is that of a column
first_moving : (cs : List Column) (n : ℕ) (ns : List ℕ) → moving (extents cs) ≡ n ∷ ns → (c : Column) × Has cs c × (length c.cells ≡ n)
first_moving [] n ns e = let w : [] ≡ n ∷ ns = e in cc
first_moving (c ∷ cs) n ns e = by (broadcasts false (extent_of c)) refl (first_moving cs n ns)
  where
    by : (b : Bool) → broadcasts false (extent_of c) ≡ b → (moving (extents cs) ≡ n ∷ ns → (d : Column) × Has cs d × (length d.cells ≡ n)) → (d : Column) × Has (c ∷ cs) d × (length d.cells ≡ n)
    by true q rest = let r = rest (sym (ap (λ b. moving_as b (extent_of c) (extents cs)) q) ∙ e) in (r.0, inr r.1, r.2)
    by false q rest =
        let w : length c.cells ∷ moving (extents cs) ≡ n ∷ ns = sym (ap (λ b. moving_as b (extent_of c) (extents cs)) q) ∙ e in
        let is : length c.cells ≡ n = cc in
        (c, inl refl, is)

cells_of : (at : ℕ) (f : List Value → Cell) (cs : List Column) → length (cellwise at f cs).cells ≡ zip_length false (extents cs)
cells_of at f cs =
    length-map (zip_rows false (zip_length false (extents cs)) cs) (cell_of_row f) ∙ length-map (below (zip_length false (extents cs))) (λ i. map (cell_in_row false i) cs) ∙ length_below (zip_length false (extents cs))

-- Longer than m, which is at least 1.
module _ (m : ℕ) (one : 1 ≤ m) where
  pub zip_long : (cs : List Column) → m < zip_length false (extents cs) → (c : Column) × Has cs c × (m < length c.cells)
  zip_long cs long = by (moving (extents cs)) refl
    where
      by : (ns : List ℕ) → moving (extents cs) ≡ ns → (c : Column) × Has cs c × (m < length c.cells)
      by [] q = let e : zip_length false (extents cs) ≡ 1 = ap (least_or 1) q in absurd (omega arith)
      by (n ∷ ns) q =
          let e : zip_length false (extents cs) ≡ least_or 1 (n ∷ ns) = ap (least_or 1) q in
          let le : zip_length false (extents cs) ≤ n = (least_all (zip_length false (extents cs)) 1 (n ∷ ns) (omega arith)).0 in
          let f = first_moving cs n ns q in
          let k = f.2 in
          let lt : m < length f.0.cells = omega arith in
          (f.0, f.1, lt)

  -- a zip with more rows has a column with more cells
  pub rows_long : (at : ℕ) (cs : List Column) → m < length (zipped false at cs).rows → (c : Column) × Has cs c × (m < length c.cells)
  rows_long at cs long = let few = (zip_table_shows at cs).few in zip_long cs (omega arith)

  module _ (at : ℕ) (z : Table) where
    -- a column that is longer only where the table is
    abbrev pub Fits : Column → Type 0
    Fits c = m < length c.cells → m < length z.rows

    pub operands_fit : (f : List Value → Cell) (cs : List Column) → AllByRecursion Fits cs → Fits (cellwise at f cs)
    operands_fit f cs all long =
        let e = cells_of at f cs in
        let w = zip_long cs (omega arith) in
        one_of Fits cs w.0 all w.1 w.2

    place_fits : (j : ℕ) → length (map value (values_at j z.rows)) ≡ length z.rows
    place_fits j = length-map (values_at j z.rows) value ∙ length-map z.rows (λ row. get_or row j val.Null)

    column_fits : (name : List ℕ) → Fits (table_column name z)
    column_fits name = by (field_index name z.schema)
      where
        by : (o : Option ℕ) → m < length (map value (values_at_some o z.rows)) → m < length z.rows
        by None long = absurd (omega arith)
        by (Some j) long = let e = place_fits j in omega arith

    function_fits : (g : FunctionExpr) (c : Column) → IsTrue (goes_by_cell g) → Fits c → Fits (function_column at g c)
    function_fits fun.Not c h k = operands_fit (λ row. value (not_value (item 0 row))) (c ∷ []) (k, tt)
    function_fits fun.IsNull c h k = operands_fit (λ row. value (val.Boolean (is_null (item 0 row)))) (c ∷ []) (k, tt)
    function_fits fun.IsNotNull c h k = operands_fit (λ row. value (val.Boolean (not (is_null (item 0 row))))) (c ∷ []) (k, tt)
    function_fits fun.Reverse c h k = absurd (differ (sym h))

    pub plain_fits : (e : Tree) → is_elementwise e ≡ true → Fits (eval at z e)
    plain_fits (Tree.column name) h = column_fits name
    plain_fits (Tree.literal l) h = λ long. absurd (omega arith)
    plain_fits (Tree.binary o l r) h =
        let b = both_hold (is_elementwise l) (is_elementwise r) h in
        operands_fit (λ row. value (binary_value o (item 0 row) (item 1 row))) (eval at z l ∷ eval at z r ∷ []) (plain_fits l b.0, (plain_fits r b.1, tt))
    plain_fits (Tree.cast c strict e) h = operands_fit (λ row. cast_cell at strict (cast_value c (item 0 row))) (eval at z e ∷ []) (plain_fits e h, tt)
    plain_fits (Tree.ternary p a b) h =
        let u = both_hold (is_elementwise p) (is_elementwise a && is_elementwise b) h in
        let v = both_hold (is_elementwise a) (is_elementwise b) u.1 in
        operands_fit (λ row. value (choice_of (item 0 row) (item 1 row) (item 2 row))) (eval at z p ∷ eval at z a ∷ eval at z b ∷ []) (plain_fits p u.0, (plain_fits a v.0, (plain_fits b v.1, tt)))
    plain_fits (Tree.function g e) h = let b = both_hold (goes_by_cell g) (is_elementwise e) h in function_fits g (eval at z e) b.0 (plain_fits e b.1)
    plain_fits (Tree.sort d n e) h = absurd (differ (sym h))
    plain_fits (Tree.sort_by d n e by) h = absurd (differ (sym h))
    plain_fits (Tree.gather s e i) h = absurd (differ (sym h))
    plain_fits (Tree.filter e by) h = absurd (differ (sym h))
    plain_fits (Tree.aggregate a e) h = absurd (differ (sym h))
    plain_fits (Tree.slice e o l) h = absurd (differ (sym h))
    plain_fits Tree.len h = absurd (differ (sym h))
    plain_fits (Tree.left_out w) h = absurd (differ (sym h))
    plain_fits Tree.missing h = absurd (differ (sym h))

    pub parts_fit : (e p : Tree) → is_elementwise e ≡ true → Has (tree_parts e) p → Fits (eval at z p)
    parts_fit e p plain h = plain_fits p (part_passes goes_elementwise e p plain h)

    -- the columns of the table itself
    pub own_fit : (c : Column) → Has (columns_of z) c → Fits c
    own_fit c = each (below (length z.schema))
      where
        each : (js : List ℕ) → Has (map (λ j. column_at j z) js) c → Fits c
        each [] h = absurd h
        each (j ∷ js) (inl e) = λ long. let w = ap (λ (c : Column). length c.cells) e in let k = place_fits j in omega arith
        each (j ∷ js) (inr h) = each js h

  -- the columns of several tables
  pub tables_fit : (Large : Type 0) (ts : List Table) → AllByRecursion (λ (z : Table). m < length z.rows → Large) ts → (c : Column) → Has (all_columns ts) c → m < length c.cells → Large
  tables_fit Large [] all c h long = absurd h
  tables_fit Large (z ∷ ts) all c h long = by (has_either (columns_of z) (all_columns ts) c h) (tables_fit Large ts all.1 c)
    where
      by : Has (columns_of z) c ⊎ Has (all_columns ts) c → (Has (all_columns ts) c → m < length c.cells → Large) → Large
      by (inl k) rest = all.0 (own_fit 0 z c k long)
      by (inr k) rest = rest k long
