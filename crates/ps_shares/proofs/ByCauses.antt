-- Elementwise expressions over a table whose columns are within others show no other causes.
use Rattle.std.proofs.Common.{◌≡◌, ◌⊎◌, inl, inr, ℕ, ◌≤◌, ◌<◌, Bool, true, false, not, cond, List, [], ◌∷◌, ◌++◌, length, get_or, refl, sym, ap, subst, ◌∙◌, arith}
use Rattle.std.specs.Prelude.{Contains, IsTrue, map, filter, ◌==◌, ◌&&◌, ◌||◌}
use Rattle.std.specs.List.{AllByRecursion, list_any}
use Rattle.std.proofs.lemmas.List.{length-map, map-append}
use Rattle.ps_frame.specs.Causes.{Cause, Cell, Column, value, cell_causes, is_empty}
use Rattle.ps_frame.specs.Eval.{at, cellwise, eval, function_column}
use Rattle.ps_frame.specs.Operators.{binary_value, cast_cell, cast_value, choice_of, not_value}
use Rattle.ps_frame.specs.Tables.{Table, table_column, values_at, values_at_some}
use Rattle.ps_frame.specs.Trees.{Tree}
use Rattle.ps_frame.specs.Typing.{goes_by_cell, is_elementwise, is_independent}
use Rattle.ps_frame.specs.Values.{is_null}
use Rattle.ps_frame.specs.Zip.{Extent, below, breaks_shape, broadcasts, cell_in_row, ended_lengths, all_same, extent_of, extents, open_lengths, outgrows, zip_length, zipped}
use Rattle.ps_frame.specs.declared.expr.FunctionExpr.{FunctionExpr}
use Rattle.ps_frame.specs.declared.expr.FunctionExpr.TheVariants as fun
use Rattle.ps_frame.specs.declared.value.Value.{Value}
use Rattle.ps_frame.specs.declared.value.Value.TheVariants as val
use Rattle.ps_meaning.specs.Cases.{all_columns, columns_at, table_of}
use Rattle.ps_meaning.specs.Shape.{mild_zip}
use Rattle.ps_meaning.specs.Steps.{Name}
use Rattle.ps_shares.specs.Kept.{HasNoOther, all_causes}
use Rattle.ps_shares.specs.Leaves.{AreLeavesWithin, AtLeaves, Naming, all_leaves, cell_at, eval_with, extent_as_zip, leaves, put_back, stands_for}
use Rattle.ps_shares.specs.CallLaws.{CallsKeepCauses, CausesByLeaves, IsIn, IsShownAs}
use Rattle.ps_shares.specs.Shares.{columns_shown, tables_of}
use Rattle.ps_shares.proofs.ByLeaves.{same_cell}
use Rattle.ps_shares.proofs.Causes.{All, Known, all_left, all_right, cell_known, cells_known, cells_of, down_operator, down_zip, up_operator, up_zip}
use Rattle.ps_shares.proofs.FlatLength.{both_hold, lens, moving, moving-append, neither, none_outgrow, some_moves, zip_extent}
use Rattle.ps_shares.proofs.Leaves.{least_all, length_over, one_extent, part, part_cell, tree_is}
use Rattle.ps_shares.proofs.Members.{Has, first_counts, from_has, from_moving, least_least, members_decide, to_has}
use Rattle.ps_shares.proofs.Named.{at_all, calls_keep_rows, each_leaf, each_of_all, names_show, over_columns, over_input, some_leaf, some_of_all, table_extent}
use Rattle.ps_shares.proofs.ZipShares.{zips_show}

differ : {A : Type 0} → true ≡ false → A
differ h = cc

module _ (t : Table) where
  abbrev x : Extent
  x = table_extent t

  found_extent : (n : Name) → IsIn t n → x ≡ extent_of (table_column n t)
  found_extent n (j, i) =
      let l = ap (λ o. length (map value (values_at_some o t.rows))) i ∙ length-map (values_at j t.rows) value ∙ length-map t.rows (λ row. get_or row j val.Null) in
      λ k. record { ended = not (is_empty t.broken); len = sym l k }

  -- what counts is as long as the table, and ended where it is
  abbrev pub IsAsTable : Extent → Type 0
  IsAsTable e = broadcasts false e ≡ false → x ≡ e

  abbrev pub AsTable : List Extent → Type 0
  AsTable es = (e : Extent) → broadcasts false e ≡ false → Has es e → x ≡ e

  only : (e : Extent) → Has (x ∷ []) e → x ≡ e
  only e (inl k) = k
  only e (inr k) = absurd k

  pub zip_as_table : (es : List Extent) → AsTable es → Has es x → zip_extent es ≡ x
  zip_as_table es each some =
      let m = members_decide es (x ∷ []) (λ e s. (
        (λ h. from_has (x ∷ []) e (inl (each e s (to_has es e h)))),
        (λ h. subst (λ e. Contains es e) (only e (to_has (x ∷ []) e h)) (from_has es x some)),
      )) in
      (λ i. record { ended = m.1 i; len = m.0 i }) ∙ sym (one_extent x)

  counts : (es : List Extent) → AsTable es → IsAsTable (zip_extent es)
  counts es each h = by (moving es) refl
    where
      by : (ns : List ℕ) → moving es ≡ ns → x ≡ zip_extent es
      by [] e = absurd (some_moves es h e)
      by (m ∷ ms) e =
          let k = first_counts es m ms e in
          sym (zip_as_table es each (subst (λ e. Has es e) (sym (each k.0 k.1 k.2)) k.2))

  pub as_table : (es : List Extent) → AllByRecursion IsAsTable es → AsTable es
  as_table [] all e s h = absurd h
  as_table (y ∷ es) all e s (inl k) = all.0 (ap (broadcasts false) k ∙ s) ∙ k
  as_table (y ∷ es) all e s (inr k) = as_table es all.1 e s k

  open_step : (e : Extent) (rest : List Extent) (a b : Bool) → x.ended ≡ true → e.ended ≡ a → (e.len == 1) ≡ b → IsAsTable e → lens rest ≡ [] → lens (cond (not e.ended && not (e.len == 1)) (e ∷ rest) rest) ≡ []
  open_step e rest true b ended p q as' r = (λ i. lens (cond (not (p i) && not (e.len == 1)) (e ∷ rest) rest)) ∙ r
  open_step e rest false true ended p q as' r = (λ i. lens (cond (not (p i) && not (q i)) (e ∷ rest) rest)) ∙ r
  open_step e rest false false ended p q as' r = differ (sym ended ∙ ap (λ (e : Extent). e.ended) (as' (λ i. not (p i) && q i)) ∙ p)

  none_open : x.ended ≡ true → (es : List Extent) → AllByRecursion IsAsTable es → open_lengths es ≡ []
  none_open ended [] all = refl
  none_open ended (e ∷ es) all = open_step e (filter (λ e. not e.ended && not (e.len == 1)) es) e.ended (e.len == 1) ended refl refl all.0 (none_open ended es all.1)

  -- their lengths agree
  fits : (es : List Extent) → AllByRecursion IsAsTable es → breaks_shape false es ≡ false
  fits es all = by x.ended refl (moving es) refl
    where
      by : (b : Bool) → x.ended ≡ b → (ns : List ℕ) → moving es ≡ ns → breaks_shape false es ≡ false
      by true h ns e = ap (λ ns. not (all_same ns) || list_any (outgrows ns) (ended_lengths es)) (none_open h es all) ∙ none_outgrow (ended_lengths es)
      by false h [] none =
          let m = members_decide es [] (λ e s. (
            (λ k. absurd (from_moving (λ m. ⊥) es (subst (λ ns. AllByRecursion (λ m. ⊥) ns) (sym none) tt) e s (to_has es e k))),
            (λ k. absurd (to_has [] e k)),
          )) in
          (neither (list_any (λ (e : Extent). e.ended) es) (breaks_shape false es) m.1).1
      by false h (m ∷ ms) e =
          let k = first_counts es m ms e in
          let z = zip_as_table es (as_table es all) (subst (λ e. Has es e) (sym (as_table es all k.0 k.1 k.2)) k.2) in
          (neither (list_any (λ (e : Extent). e.ended) es) (breaks_shape false es) (ap (λ (e : Extent). e.ended) z ∙ h)).1

-- what reads no name is the same whatever stands under names
module _ (node : ℕ) (given known : Naming) where
  nameless : (e : Tree) → IsTrue (is_elementwise e) → is_independent e ≡ true → eval_with node given e ≡ eval_with node known e
  nameless (Tree.column name) h i = cc
  nameless (Tree.literal l) h i = refl
  nameless (Tree.binary o l r) h i =
      let b = both_hold (is_elementwise l) (is_elementwise r) h in
      let c = both_hold (is_independent l) (is_independent r) i in
      let p = nameless l b.0 c.0 in
      let q = nameless r b.1 c.1 in
      λ j. cellwise node (λ row. value (binary_value o (at 0 row) (at 1 row))) (p j ∷ q j ∷ [])
  nameless (Tree.cast k strict e) h i = ap (λ c. cellwise node (λ row. cast_cell node strict (cast_value k (at 0 row))) (c ∷ [])) (nameless e h i)
  nameless (Tree.ternary p a b) h i =
      let u = both_hold (is_elementwise p) (is_elementwise a && is_elementwise b) h in
      let v = both_hold (is_elementwise a) (is_elementwise b) u.1 in
      let c = both_hold (is_independent p) (is_independent a && is_independent b) i in
      let d = both_hold (is_independent a) (is_independent b) c.1 in
      let q = nameless p u.0 c.0 in
      let r = nameless a v.0 d.0 in
      let s = nameless b v.1 d.1 in
      λ j. cellwise node (λ row. value (choice_of (at 0 row) (at 1 row) (at 2 row))) (q j ∷ r j ∷ s j ∷ [])
  nameless (Tree.function g e) h i = ap (function_column node g) (nameless e (both_hold (goes_by_cell g) (is_elementwise e) h).1 i)
  nameless (Tree.sort d n e) h i = refl
  nameless (Tree.sort_by d n e by) h i = refl
  nameless (Tree.gather s e k) h i = refl
  nameless (Tree.filter e by) h i = refl
  nameless (Tree.aggregate a e) h i = refl
  nameless (Tree.slice e o l) h i = refl
  nameless Tree.len h i = refl
  nameless (Tree.left_out w) h i = refl
  nameless Tree.missing h i = refl

  all_nameless : (es : List Tree) → AllByRecursion (λ e. IsTrue (is_elementwise e)) es → list_any (λ e. not (is_independent e)) es ≡ false → map (eval_with node given) es ≡ map (eval_with node known) es
  all_nameless [] all h = refl
  all_nameless (e ∷ es) all h =
      let b = neither (not (is_independent e)) (list_any (λ e. not (is_independent e)) es) h in
      let p = nameless e all.0 (held (is_independent e) b.0) in
      let q = all_nameless es all.1 b.1 in
      λ j. p j ∷ q j
    where
      held : (b : Bool) → not b ≡ false → b ≡ true
      held true h = refl
      held false h = cc

module _ (node : ℕ) (t : Table) (known : Naming) (Q : Cause → Type 0) (broken : AllByRecursion Q t.broken) where
  abbrev given : Naming
  given n = table_column n t

  abbrev IsSameAt : ℕ → Name → Type 0
  IsSameAt i n = cell_in_row false i (given n) ≡ cell_in_row false i (known n)

  abbrev AreFar : List Column → Type 0
  AreFar cs = AllByRecursion (λ m. length t.rows ≤ m) (moving (extents cs))

  -- the names that it reads stand in the table, their cells are the same in each row of it, and what stands for them is long enough
  abbrev Ready : Tree → Type 0
  Ready e = IsTrue (is_elementwise e) × AtLeaves (IsIn t) e × ((i : ℕ) → i < length t.rows → AtLeaves (IsSameAt i) e) × AreFar (leaves known e)

  abbrev IsGiven : Tree → Type 0
  IsGiven e = Known Q (eval_with node given e)

  far_parts : (cs ds : List Column) → AreFar (cs ++ ds) → AreFar cs × AreFar ds
  far_parts cs ds h =
      let e = ap moving (map-append extent_of cs ds) ∙ moving-append (extents cs) (extents ds) in
      let k = subst (λ ns. AllByRecursion (λ m. length t.rows ≤ m) ns) e h in
      (all_left (λ m. length t.rows ≤ m) (moving (extents cs)) (moving (extents ds)) k, all_right (λ m. length t.rows ≤ m) (moving (extents cs)) (moving (extents ds)) k)

  leaves_as_table : (e : Tree) → Ready e → AsTable t (extents (leaves given e))
  leaves_as_table e r = each_leaf (λ e. x t ≡ e) given (IsIn t) (found_extent t) e r.0 r.1

  column_as_table : (e : Tree) → Ready e → IsAsTable t (extent_of (eval_with node given e))
  column_as_table e r h =
      let p = tree_is node given e r.0 in
      counts t (extents (leaves given e)) (leaves_as_table e r) (ap (broadcasts false) (sym p.extent) ∙ h) ∙ sym p.extent

  columns_as_table : (es : List Tree) → AllByRecursion Ready es → AllByRecursion (IsAsTable t) (extents (map (eval_with node given) es))
  columns_as_table [] rs = tt
  columns_as_table (e ∷ es) rs = (column_as_table e rs.0, columns_as_table es rs.1)

  inside : (e : Tree) → Ready e → (i : ℕ) → i < length t.rows → broadcasts false (extent_of (eval_with node known e)) ≡ false → i < length_over (leaves known e)
  inside e r i lt h =
      let p = tree_is node known e r.0 in
      let some = some_moves (extents (leaves known e)) (ap (broadcasts false) (sym p.extent) ∙ h) in
      let le = least_least (length t.rows) 1 (moving (extents (leaves known e))) r.3 (λ none. absurd (some none)) in
      omega arith

  -- CELLS. Each cell over the table is one over what the names stand for.
  cells_given : (e : Tree) → Ready e → Known Q (eval_with node known e) → All Q (cells_of Q (eval_with node given e))
  cells_given e r k = by (is_independent e) refl
    where
      by : (b : Bool) → is_independent e ≡ b → All Q (cells_of Q (eval_with node given e))
      by true h = subst (λ c. All Q (cells_of Q c)) (sym (nameless node given known e r.0 h)) k.0
      by false h =
          let p = tree_is node given e r.0 in
          let some = some_leaf given (x t) (IsIn t) (λ n h. sym (found_extent t n h)) e r.0 r.1 h in
          let len : length_over (leaves given e) ≡ length t.rows = ap (λ (e : Extent). e.len) (zip_as_table t (extents (leaves given e)) (leaves_as_table e r) some) in
          cells_known Q (eval_with node given e) (cell_at node given e) (length t.rows) (p.cells ∙ ap (λ n. map (cell_at node given e) (below n)) len) (λ i lt.
          let same = same_cell node i given known e (r.2 i lt) ∙ sym (part_cell (part node known e) (tree_is node known e r.0) i (inside e r i lt)) in
          subst (λ c. All Q (cell_causes c)) (sym same) (cell_known Q (eval_with node known e).cells (cond (broadcasts false (extent_of (eval_with node known e))) 0 i) k.0))

  -- an operator over operands that show no other causes
  operator : (f : List Value → Cell) (es : List Tree) → AllByRecursion Ready es → AllByRecursion (Known Q) (map (eval_with node given) es)
      → All Q (cellwise node f (map (eval_with node given) es)).broken × All Q (cellwise node f (map (eval_with node given) es)).lost
  operator f es rs ks = up_operator Q node f (map (eval_with node given) es) ks (fits t (extents (map (eval_with node given) es)) (columns_as_table es rs))

  unary : (f : List Value → Cell) (e : Tree) → Ready e → (Known Q (eval_with node known e) → IsGiven e) → Known Q (cellwise node f (eval_with node known e ∷ []))
      → All Q (cellwise node f (eval_with node given e ∷ [])).broken × All Q (cellwise node f (eval_with node given e ∷ [])).lost
  unary f e r rest k = let d = down_operator Q node f (eval_with node known e ∷ []) k in operator f (e ∷ []) (r, tt) (rest d.0, tt)

  function_given : (g : FunctionExpr) (e : Tree) → Ready (Tree.function g e) → Ready e → (Known Q (eval_with node known e) → IsGiven e) → Known Q (eval_with node known (Tree.function g e)) → IsGiven (Tree.function g e)
  function_given fun.Not e y r rest k = let u = unary (λ row. value (not_value (at 0 row))) e r rest k in (cells_given (Tree.function fun.Not e) y k, u.0, u.1)
  function_given fun.IsNull e y r rest k = let u = unary (λ row. value (val.Boolean (is_null (at 0 row)))) e r rest k in (cells_given (Tree.function fun.IsNull e) y k, u.0, u.1)
  function_given fun.IsNotNull e y r rest k = let u = unary (λ row. value (val.Boolean (not (is_null (at 0 row))))) e r rest k in (cells_given (Tree.function fun.IsNotNull e) y k, u.0, u.1)
  function_given fun.Reverse e y r rest k = let w : false ≡ true = y.0 in cc

  tree_given : (e : Tree) → Ready e → Known Q (eval_with node known e) → IsGiven e
  tree_given (Tree.column name) y k = (cells_given (Tree.column name) y k, broken, tt)
  tree_given (Tree.literal l) y k = (tt, tt, tt)
  tree_given (Tree.binary o l r) y k =
      let b = both_hold (is_elementwise l) (is_elementwise r) y.0 in
      let f = far_parts (leaves known l) (leaves known r ++ []) y.3 in
      let g = far_parts (leaves known r) [] f.1 in
      let yl : Ready l = (b.0, y.1.0, (λ i lt. (y.2 i lt).0), f.0) in
      let yr : Ready r = (b.1, y.1.1, (λ i lt. (y.2 i lt).1), g.0) in
      let d = down_operator Q node (λ row. value (binary_value o (at 0 row) (at 1 row))) (eval_with node known l ∷ eval_with node known r ∷ []) k in
      let u = operator (λ row. value (binary_value o (at 0 row) (at 1 row))) (l ∷ r ∷ []) (yl, (yr, tt)) (tree_given l yl d.0, (tree_given r yr d.1.0, tt)) in
      (cells_given (Tree.binary o l r) y k, u.0, u.1)
  tree_given (Tree.cast c strict e) y k =
      let f = far_parts (leaves known e) [] y.3 in
      let ye : Ready e = (y.0, y.1, y.2, f.0) in
      let u = unary (λ row. cast_cell node strict (cast_value c (at 0 row))) e ye (tree_given e ye) k in
      (cells_given (Tree.cast c strict e) y k, u.0, u.1)
  tree_given (Tree.ternary p a b) y k =
      let v = both_hold (is_elementwise p) (is_elementwise a && is_elementwise b) y.0 in
      let w = both_hold (is_elementwise a) (is_elementwise b) v.1 in
      let f = far_parts (leaves known p) (leaves known a ++ (leaves known b ++ [])) y.3 in
      let g = far_parts (leaves known a) (leaves known b ++ []) f.1 in
      let h = far_parts (leaves known b) [] g.1 in
      let yp : Ready p = (v.0, y.1.0, (λ i lt. (y.2 i lt).0), f.0) in
      let ya : Ready a = (w.0, y.1.1, (λ i lt. (y.2 i lt).1), g.0) in
      let yb : Ready b = (w.1, y.1.2, (λ i lt. (y.2 i lt).2), h.0) in
      let d = down_operator Q node (λ row. value (choice_of (at 0 row) (at 1 row) (at 2 row))) (eval_with node known p ∷ eval_with node known a ∷ eval_with node known b ∷ []) k in
      let u = operator (λ row. value (choice_of (at 0 row) (at 1 row) (at 2 row))) (p ∷ a ∷ b ∷ []) (yp, (ya, (yb, tt))) (tree_given p yp d.0, (tree_given a ya d.1.0, (tree_given b yb d.1.1.0, tt))) in
      (cells_given (Tree.ternary p a b) y k, u.0, u.1)
  tree_given (Tree.function g e) y k =
      let b = both_hold (goes_by_cell g) (is_elementwise e) y.0 in
      let f = far_parts (leaves known e) [] y.3 in
      let ye : Ready e = (b.1, y.1, y.2, f.0) in
      function_given g e y ye (tree_given e ye) k
  tree_given (Tree.sort d n e) y k = let w : false ≡ true = y.0 in cc
  tree_given (Tree.sort_by d n e by) y k = let w : false ≡ true = y.0 in cc
  tree_given (Tree.gather s e i) y k = let w : false ≡ true = y.0 in cc
  tree_given (Tree.filter e by) y k = let w : false ≡ true = y.0 in cc
  tree_given (Tree.aggregate a e) y k = let w : false ≡ true = y.0 in cc
  tree_given (Tree.slice e o l) y k = let w : false ≡ true = y.0 in cc
  tree_given Tree.len y k = let w : false ≡ true = y.0 in cc
  tree_given (Tree.left_out w) y k = let w : false ≡ true = y.0 in cc
  tree_given Tree.missing y k = let w : false ≡ true = y.0 in cc

  trees_given : (es : List Tree) → AllByRecursion Ready es → AllByRecursion (Known Q) (map (eval_with node known) es) → AllByRecursion (Known Q) (map (eval_with node given) es)
  trees_given [] rs ks = tt
  trees_given (e ∷ es) rs ks = (tree_given e rs.0 ks.0, trees_given es rs.1 ks.1)

  all_ready : (es : List Tree) → AllByRecursion (λ e. IsTrue (is_elementwise e)) es → AllByRecursion (AtLeaves (IsIn t)) es → ((i : ℕ) → i < length t.rows → AllByRecursion (AtLeaves (IsSameAt i)) es)
      → AreFar (all_leaves known es) → AllByRecursion Ready es
  all_ready [] all found same far = tt
  all_ready (e ∷ es) all found same far =
      let f = far_parts (leaves known e) (all_leaves known es) far in
      ((all.0, found.0, (λ i lt. (same i lt).0), f.0), all_ready es all.1 found.1 (λ i lt. (same i lt).1) f.1)

  all_given : (es : List Tree) → AllByRecursion Ready es → All Q (all_causes (zipped false node (map (eval_with node known) es))) → All Q (all_causes (zipped false node (map (eval_with node given) es)))
  all_given es rs h =
      up_zip Q node (map (eval_with node given) es) (trees_given es rs (down_zip Q node (map (eval_with node known) es) h)) (fits t (extents (map (eval_with node given) es)) (columns_as_table es rs))

-- members
to_all : (Q : Cause → Type 0) (xs : List Cause) → ((c : Cause) → Has xs c → Q c) → AllByRecursion Q xs
to_all Q [] h = tt
to_all Q (x ∷ xs) h = (h x (inl refl), to_all Q xs (λ c k. h c (inr k)))

from_all : (Q : Cause → Type 0) (xs : List Cause) (c : Cause) → AllByRecursion Q xs → Has xs c → Q c
from_all Q [] c all h = absurd h
from_all Q (x ∷ xs) c all (inl k) = subst Q k all.0
from_all Q (x ∷ xs) c all (inr k) = from_all Q xs c all.1 k

module _ (node : ℕ) (t : Table) (known : Naming) (es : List Tree) (all : AllByRecursion (λ e. IsTrue (is_elementwise e)) es) (found : AllByRecursion (AtLeaves (IsIn t)) es)
    (w : AreLeavesWithin (λ n. table_column n t) known es) (none : HasNoOther t.broken (all_causes (zipped false node (map (eval_with node known) es)))) where
  abbrev over : Naming
  over n = table_column n t

  abbrev shown : List Cause
  shown = all_causes (zipped false node (map (eval_with node known) es))

  -- the leaves over the table are as long as the table
  height : list_any (λ e. not (is_independent e)) es ≡ true → zip_length false (extents (all_leaves over es)) ≡ length t.rows
  height h =
      let each = each_of_all (λ e. x t ≡ e) over (IsIn t) (found_extent t) es all found in
      let some = some_of_all over (x t) (IsIn t) (λ n h. sym (found_extent t n h)) es all found h in
      ap (λ (e : Extent). e.len) (zip_as_table t (extents (all_leaves over es)) each some)

  longer : zip_length false (extents (all_leaves over es)) ≤ zip_length false (extents (all_leaves known es))
  longer = by w.ends
    where
      by : ((extent_as_zip (all_leaves over es)).ended ≡ false × (extent_as_zip (all_leaves known es) ≡ extent_as_zip (all_leaves over es)))
          ⊎ ((extent_as_zip (all_leaves over es)).ended ≡ true × (zip_length false (extents (all_leaves over es)) ≤ zip_length false (extents (all_leaves known es))))
          → zip_length false (extents (all_leaves over es)) ≤ zip_length false (extents (all_leaves known es))
      by (inl (h, e)) = let l : zip_length false (extents (all_leaves known es)) ≡ zip_length false (extents (all_leaves over es)) = λ i. (e i).len in omega arith
      by (inr (h, le)) = le

  no_other : (b : Bool) → list_any (λ e. not (is_independent e)) es ≡ b → HasNoOther (all_causes (zipped false node (map (eval_with node over) es))) shown
  no_other false h = subst (λ cs. HasNoOther (all_causes (zipped false node cs)) shown) (sym (all_nameless node over known es all h)) (λ c k. k)
  no_other true h =
      let q = height h in
      let le = longer in
      let far = least_all (length t.rows) 1 (moving (extents (all_leaves known es))) (omega arith) in
      let ready = all_ready node t known (Contains shown) (to_all (Contains shown) t.broken (λ c k. none c (from_has t.broken c k))) es all found (λ i lt. w.cells i (omega arith)) far in
      let given = all_given node t known (Contains shown) (to_all (Contains shown) t.broken (λ c k. none c (from_has t.broken c k))) es ready (to_all (Contains shown) shown (λ c k. from_has shown c k)) in
      λ c k. from_all (Contains shown) (all_causes (zipped false node (map (eval_with node over) es))) c given (to_has (all_causes (zipped false node (map (eval_with node over) es))) c k)

pub causes_by_leaves : CausesByLeaves
causes_by_leaves node t known es all found w none = no_other node t known es all found w none (list_any (λ e. not (is_independent e)) es) refl

pub calls_keep_causes : CallsKeepCauses
calls_keep_causes at s hs input ms es all shares read none =
    let z = table_of s (λ rows. rows) (mild_zip at (all_columns (tables_of hs))) in
    let known : Naming = λ n. eval at input (stands_for ms n) in
    let w = names_show z (columns_shown hs) known es all (zips_show at s hs shares) read in
    let found = at_all (IsShownAs z (columns_shown hs) known) (IsIn z) (λ n h. (h.0, h.1)) es read.shown in
    let p = over_columns at z es all in
    let q = over_input at input ms es all in
    let none' = subst (λ cs. HasNoOther z.broken (all_causes (zipped false at cs))) q none in
    let c = causes_by_leaves at z known es all found w none' in
    record {
      part = calls_keep_rows at s hs input ms es all shares read;
      causes = subst (λ cs. HasNoOther (all_causes (zipped false at cs)) (all_causes (zipped false at (columns_at at (map (put_back ms) es) input)))) (sym p)
          (subst (λ cs. HasNoOther (all_causes (zipped false at (map (eval_with at (λ n. table_column n z)) es))) (all_causes (zipped false at cs))) (sym q) c);
    }
