-- A filter of a table by whether a column holds the number 1.
use Rattle.std.proofs.Common.{◌≡◌, ◌⊎◌, inl, inr, ℕ, ◌+◌, ◌<◌, Bool, true, false, not, cond, List, [], ◌∷◌, ◌++◌, length, take, get_or, Some, refl, sym, ap, subst, ◌∙◌, arith}
use Rattle.std.specs.Prelude.{filter, flat_map, is_some, map, ◌||◌, ◌&&◌, ◌==◌}
use Rattle.std.specs.List.{AllByRecursion, list_any}
use Rattle.std.proofs.Math.ListN.{get_or-map as get_or-map_default}
use Rattle.std.proofs.Math.Seq.{take-append_seam}
use Rattle.std.proofs.lemmas.Bool.{eqb-true}
use Rattle.std.proofs.lemmas.List.{get_or-map, length-map}
use Rattle.std.proofs.lemmas.List.Concat.{flat_map_single}
use Rattle.ps_frame.specs.Causes.{Cause, Column, value, cell_causes, column_causes, is_empty, whole_column}
use Rattle.ps_frame.specs.Eval.{cellwise, eval}
use Rattle.ps_frame.specs.Operators.{binary_value}
use Rattle.ps_frame.specs.Tables.{Table, column_at, field_index, field_kind, table_column, values_at, values_at_some}
use Rattle.ps_frame.specs.Trees.{Tree}
use Rattle.ps_frame.specs.Typing.{binary_kind}
use Rattle.ps_frame.specs.Values.{is_true}
use Rattle.ps_frame.specs.Zip.{Extent, Zipped, all_same, below, breaks_shape, broadcasts, cell_in_row, ends_early, extent_of, extents, is_faulty_row, outgrows, zip_causes, zip_length, zip_rows, zipped}
use Rattle.ps_frame.specs.declared.expr.Operator.TheVariants as op
use Rattle.ps_frame.specs.declared.value.DataFault.TheVariants as data_fault
use Rattle.ps_frame.specs.declared.value.DataType.TheVariants as kind
use Rattle.ps_frame.specs.declared.value.Value.{Value}
use Rattle.ps_frame.specs.declared.value.Value.TheVariants as val
use Rattle.ps_meaning.specs.Cases.{keyed, where_true}
use Rattle.ps_meaning.specs.Distinct.{picked}
use Rattle.ps_meaning.specs.Steps.{Name}
use Rattle.ps_meaning.proofs.Fits.{all-filter}
use Rattle.plan_rules.specs.Distinct.{is_one}
use Rattle.ps_rowwise.specs.Rows.{GoesByRow, row_alone}
use Rattle.ps_rowwise.proofs.RowLaws.{cells-alone, ended-only, ends-with}
use Rattle.ps_shares.specs.Kept.{HasNoOther}
use Rattle.ps_shares.specs.Shares.{IsClear}
use Rattle.ps_shares.proofs.Aggregated.{map_again}
use Rattle.ps_shares.proofs.Below.{map_below}
use Rattle.ps_shares.proofs.ByCauses.{IsAsTable, as_table, zip_as_table}
use Rattle.ps_shares.proofs.ClearZips.{any_ended, clear_not_faulty, clear_zip_rows, held, no_causes, values_in_row}
use Rattle.ps_shares.proofs.Ends.{has_either}
use Rattle.ps_shares.proofs.FlatLength.{none_outgrow, whole_of_one, zip_extent}
use Rattle.ps_shares.proofs.Leaves.{get_all}
use Rattle.ps_shares.proofs.Members.{Has, from_has, to_has}
use Rattle.ps_shares.proofs.Named.{table_extent}
use Rattle.ps_shares.proofs.Shares.{rows_of_zip, zip_whole}
use Rattle.ps_shares.proofs.Stepped.{empty}
use Rattle.ps_bundles.proofs.StepEnds.{clear_lost}
use Rattle.picked_zips.proofs.Lengths.{same_shape}
use Rattle.picked_zips.proofs.Members.{filter_each, filter_map, map_each}
use Rattle.flagged_rows.proofs.Places.{last_value}

-- one extent agrees with itself, and with that of one cell
alone_agrees : (e : Extent) → breaks_shape false (e ∷ []) ≡ false
alone_agrees e = by e.ended (not (e.len == 1))
  where
    by : (b q : Bool)
        → (not (all_same (map (λ (e : Extent). e.len) (cond (not b && q) (e ∷ []) []))) || list_any (outgrows (map (λ (e : Extent). e.len) (cond (not b && q) (e ∷ []) []))) (map (λ (e : Extent). e.len) (cond b (e ∷ []) []))) ≡ false
    by true q = none_outgrow (e.len ∷ [])
    by false true = refl
    by false false = refl

beside_one : (e : Extent) → breaks_shape false (e ∷ record { ended = false; len = 1 } ∷ []) ≡ false
beside_one e = by e.ended (not (e.len == 1))
  where
    by : (b q : Bool)
        → (not (all_same (map (λ (e : Extent). e.len) (cond (not b && q) (e ∷ []) []))) || list_any (outgrows (map (λ (e : Extent). e.len) (cond (not b && q) (e ∷ []) []))) (map (λ (e : Extent). e.len) (cond b (e ∷ []) []))) ≡ false
    by true q = none_outgrow (e.len ∷ [])
    by false true = refl
    by false false = refl

pub same_end : (xs ys : List Cause) → (xs ≡ [] → ys ≡ []) → (ys ≡ [] → xs ≡ []) → is_empty xs ≡ is_empty ys
same_end [] [] f g = refl
same_end [] (y ∷ ys) f g = let w : y ∷ ys ≡ [] = f refl in cc
same_end (x ∷ xs) [] f g = let w : x ∷ xs ≡ [] = g refl in cc
same_end (x ∷ xs) (y ∷ ys) f g = refl

module _ (node : ℕ) (t : Table) (name : Name) (J : ℕ) (stands : field_index name t.schema ≡ Some J) (of_kind : field_kind name t.schema ≡ Some kind.IdxSize) where
  abbrev x : Extent
  x = table_extent t

  abbrev p : Tree
  p = is_one name

  -- what a row gives
  abbrev pub flag : List Value → Value
  flag row = binary_value op.Eq (get_or row J val.Null) (val.IdxSize 1)

  abbrev one : Column
  one = whole_column (val.IdxSize 1 ∷ [])

  abbrev beside : Column → Column
  beside d = cellwise node (λ row. value (binary_value op.Eq (get_or row 0 val.Null) (get_or row 1 val.Null))) (d ∷ one ∷ [])

  abbrev c : Column
  c = eval node t p

  by_row : GoesByRow t.schema p
  by_row = record { elementwise = refl; reads_input = refl; kind = ap (λ o. is_some (binary_kind op.Eq o (Some kind.IdxSize))) of_kind }

  one_cell : (row : List Value) → (eval node (row_alone t.schema row) p).cells ≡ value (flag row) ∷ []
  one_cell row = ap (λ o. (beside (record { cells = map value (values_at_some o (row ∷ [])); broken = []; lost = [] })).cells) stands

  cells : c.cells ≡ map value (map flag t.rows)
  cells = cells-alone node t p by_row ∙ (λ i. flat_map (λ row. one_cell row i) t.rows) ∙ flat_map_single (λ row. value (flag row)) t.rows ∙ sym (map_again value flag t.rows)

  abbrev inputs : List Column
  inputs = table_column name t ∷ one ∷ []

  clear_inputs : AllByRecursion IsClear inputs
  clear_inputs = (((values_at_some (field_index name t.schema) t.rows, refl), refl), (((val.IdxSize 1 ∷ [], refl), refl), tt))

  none_lost : c.lost ≡ []
  none_lost = clear_lost node inputs clear_inputs

  extent_is : extent_of c ≡ x
  extent_is =
      let ends = same_end c.broken t.broken (ended-only node t p by_row) (ends-with node t p by_row) in
      let long = ap length cells ∙ length-map (map flag t.rows) value ∙ length-map t.rows flag in
      λ i. record { ended = not (ends i); len = long i }

  -- it shows no other causes
  of_inputs : (a : Cause) → Has (flat_map column_causes inputs) a → Has t.broken a
  of_inputs a h = by (has_either (column_causes (table_column name t)) [] a h)
    where
      of_column : Has (flat_map cell_causes (table_column name t).cells) a ⊎ Has t.broken a → Has t.broken a
      of_column (inl k) = absurd (subst (λ (as' : List Cause). Has as' a) (no_causes (values_at_some (field_index name t.schema) t.rows)) k)
      of_column (inr k) = k

      by : Has (column_causes (table_column name t)) a ⊎ ⊥ → Has t.broken a
      by (inl k) = of_column (has_either (flat_map cell_causes (table_column name t).cells) t.broken a k)
      by (inr k) = absurd k

  no_shape : (q : Bool) → q ≡ false → (a : Cause) → Has (cond {A = List Cause} q (record { fault = data_fault.Shape; node = node } ∷ []) []) a → Has t.broken a
  no_shape q e a k = absurd (subst (λ q. Has (cond {A = List Cause} q (record { fault = data_fault.Shape; node = node } ∷ []) []) a) e k)

  own_causes : (a : Cause) → Has c.broken a → Has t.broken a
  own_causes a h = by (ends_early false inputs) h
    where
      by : (q : Bool) → Has (cond {A = List Cause} q (zip_causes false node inputs) []) a → Has t.broken a
      by false k = absurd k
      by true k = parts (has_either (flat_map column_causes inputs) (cond {A = List Cause} (breaks_shape false (extents inputs)) (record { fault = data_fault.Shape; node = node } ∷ []) []) a k)
        where
          parts : Has (flat_map column_causes inputs) a ⊎ Has (cond {A = List Cause} (breaks_shape false (extents inputs)) (record { fault = data_fault.Shape; node = node } ∷ []) []) a → Has t.broken a
          parts (inl m) = of_inputs a m
          parts (inr m) = no_shape (breaks_shape false (extents inputs)) (beside_one (extent_of (table_column name t))) a m

  -- the columns of the table, and this one behind them
  abbrev those : List ℕ → List Column
  those js = map (λ j. column_at j t) js

  abbrev all : List ℕ → List Column
  all js = those js ++ c ∷ []

  column_extent : (j : ℕ) → extent_of (column_at j t) ≡ x
  column_extent j =
      let l = length-map (values_at j t.rows) value ∙ length-map t.rows (λ row. get_or row j val.Null) in
      λ i. record { ended = not (is_empty t.broken); len = l i }

  all_clear : (js : List ℕ) → AllByRecursion IsClear (all js)
  all_clear [] = (((map flag t.rows, cells), none_lost), tt)
  all_clear (j ∷ js) = (((values_at j t.rows, refl), refl), all_clear js)

  all_as_table : (js : List ℕ) → AllByRecursion (IsAsTable t) (extents (all js))
  all_as_table [] = ((λ h. sym extent_is), tt)
  all_as_table (j ∷ js) = ((λ h. sym (column_extent j)), all_as_table js)

  has_extent : (js : List ℕ) → Has (extents (all js)) x
  has_extent [] = inl extent_is
  has_extent (j ∷ js) = inr (has_extent js)

  each_extent : (js : List ℕ) (e : Extent) → Has (extents (all js)) e → x ≡ e
  each_extent [] e (inl k) = sym extent_is ∙ k
  each_extent [] e (inr k) = absurd k
  each_extent (j ∷ js) e (inl k) = sym (column_extent j) ∙ k
  each_extent (j ∷ js) e (inr k) = each_extent js e k

  as_the_table : (js : List ℕ) → zip_extent (extents (all js)) ≡ x
  as_the_table js = zip_as_table t (extents (all js)) (as_table t (extents (all js)) (all_as_table js)) (has_extent js)

  -- the cell of a row
  cell_there : (d : Column) (g : List Value → Value) → d.cells ≡ map value (map g t.rows) → extent_of d ≡ x → (i : ℕ) → i < length t.rows → cell_in_row false i d ≡ value (g (get_or t.rows i []))
  cell_there d g is e i lt = by (broadcasts false (extent_of d)) refl
    where
      at_place : (m : ℕ) → m ≡ i → get_or d.cells m (value val.Null) ≡ value (g (get_or t.rows i []))
      at_place m q =
          ap (λ cs. get_or cs m (value val.Null)) is
          ∙ ap (λ m. get_or (map value (map g t.rows)) m (value val.Null)) q
          ∙ get_or-map_default value (map g t.rows) i val.Null
          ∙ ap value (get_or-map g t.rows i [] val.Null lt)

      by : (b : Bool) → broadcasts false (extent_of d) ≡ b → cell_in_row false i d ≡ value (g (get_or t.rows i []))
      by false h = ap (λ b. get_or d.cells (cond b 0 i) (value val.Null)) h ∙ at_place i refl
      by true h =
          let w = whole_of_one (not (is_empty t.broken)) (length t.rows == 1) (ap (broadcasts false) (sym e) ∙ h) in
          let single : length t.rows ≡ 1 = eqb-true (length t.rows) 1 w.1 in
          let z : 0 ≡ i = omega arith in
          ap (λ b. get_or d.cells (cond b 0 i) (value val.Null)) h ∙ at_place 0 z

  values_there : (i : ℕ) → i < length t.rows → (js : List ℕ) → values_in_row i (all js) ≡ picked js (get_or t.rows i []) ++ flag (get_or t.rows i []) ∷ []
  values_there i lt [] = let p = cell_there c flag cells extent_is i lt in λ k. held (p k) ∷ []
  values_there i lt (j ∷ js) = let p = cell_there (column_at j t) (λ row. get_or row j val.Null) refl (column_extent j) i lt in let q = values_there i lt js in λ k. held (p k) ∷ q k

  abbrev zip_of : List ℕ → Zipped
  zip_of js = zipped false node (all js)

  rows_of : (js : List ℕ) → (zip_of js).rows ≡ map (λ row. picked js row ++ flag row ∷ []) t.rows
  rows_of js =
      clear_zip_rows node (all js) (all_clear js)
      ∙ ap (λ n. map (λ i. values_in_row i (all js)) (below n)) (ap (λ (e : Extent). e.len) (as_the_table js))
      ∙ map_below (λ i. values_in_row i (all js)) (λ i. picked js (get_or t.rows i []) ++ flag (get_or t.rows i []) ∷ []) (length t.rows) (λ i lt. values_there i lt js)
      ∙ sym (map_again (λ row. picked js row ++ flag row ∷ []) (λ i. get_or t.rows i []) (below (length t.rows)))
      ∙ ap (map (λ row. picked js row ++ flag row ∷ [])) (get_all t.rows [])

  ends : (js : List ℕ) → ends_early false (all js) ≡ not (is_empty t.broken)
  ends js = ap (λ b. b || breaks_shape false (extents (all js))) (sym (any_ended (all js))) ∙ ap (λ (e : Extent). e.ended) (as_the_table js)

  abbrev pub z : Zipped
  z = keyed node (p ∷ []) t

  abbrev js : List ℕ
  js = below (length t.schema)

  pub z_whole : t.broken ≡ [] → z.broken ≡ []
  z_whole none =
      let w = ends js ∙ ap (λ b. not (is_empty b)) none in
      let f = clear_not_faulty (all js) (all_clear js) in
      λ i. cond (w i || f i) (zip_causes false node (all js)) []

  pub z_broken : z.broken ≡ [] → t.broken ≡ []
  z_broken none =
      let w = zip_whole node (all js) (ends_early false (all js)) (list_any is_faulty_row (rows_of_zip node (all js))) refl refl none in
      empty t.broken (sym (ends js) ∙ w.0)

  pub z_lost : z.lost ≡ []
  z_lost = clear_lost node (all js) (all_clear js)

  agrees : breaks_shape false (extents (all js)) ≡ false
  agrees = same_shape (extents (all js)) (x ∷ []) (λ e h. inl (each_extent js e h)) (λ e h. by e h) ∙ alone_agrees x
    where
      by : (e : Extent) → Has (x ∷ []) e → Has (extents (all js)) e
      by e (inl k) = subst (Has (extents (all js))) k (has_extent js)
      by e (inr k) = absurd k

  in_columns : (ks : List ℕ) (a : Cause) → Has (flat_map column_causes (all ks)) a → Has t.broken a
  in_columns [] a h = by (has_either (column_causes c) [] a h)
    where
      parts : Has (flat_map cell_causes c.cells) a ⊎ Has c.broken a → Has t.broken a
      parts (inl k) = absurd (subst (λ (as' : List Cause). Has as' a) (ap (flat_map cell_causes) cells ∙ no_causes (map flag t.rows)) k)
      parts (inr k) = own_causes a k

      by : Has (column_causes c) a ⊎ ⊥ → Has t.broken a
      by (inl k) = parts (has_either (flat_map cell_causes c.cells) c.broken a k)
      by (inr k) = absurd k
  in_columns (j ∷ ks) a h = by (has_either (column_causes (column_at j t)) (flat_map column_causes (all ks)) a h) (in_columns ks a)
    where
      parts : Has (flat_map cell_causes (column_at j t).cells) a ⊎ Has t.broken a → Has t.broken a
      parts (inl k) = absurd (subst (λ (as' : List Cause). Has as' a) (no_causes (values_at j t.rows)) k)
      parts (inr k) = k

      by : Has (column_causes (column_at j t)) a ⊎ Has (flat_map column_causes (all ks)) a → (Has (flat_map column_causes (all ks)) a → Has t.broken a) → Has t.broken a
      by (inl k) rest = parts (has_either (flat_map cell_causes (column_at j t).cells) t.broken a k)
      by (inr k) rest = rest k

  pub z_causes : HasNoOther z.broken t.broken
  z_causes a h = from_has t.broken a (by (ends_early false (all js) || list_any is_faulty_row (zip_rows false (zip_length false (extents (all js))) (all js))) (to_has z.broken a h))
    where
      by : (q : Bool) → Has (cond {A = List Cause} q (zip_causes false node (all js)) []) a → Has t.broken a
      by false k = absurd k
      by true k = parts (has_either (flat_map column_causes (all js)) (cond {A = List Cause} (breaks_shape false (extents (all js))) (record { fault = data_fault.Shape; node = node } ∷ []) []) a k)
        where
          parts : Has (flat_map column_causes (all js)) a ⊎ Has (cond {A = List Cause} (breaks_shape false (extents (all js))) (record { fault = data_fault.Shape; node = node } ∷ []) []) a → Has t.broken a
          parts (inl m) = in_columns js a m
          parts (inr m) = no_shape (breaks_shape false (extents (all js))) agrees a m

  -- the rows that are kept
  module _ (wide : AllByRecursion (λ (row : List Value). length row ≡ length t.schema) t.rows) where
    abbrev w : ℕ
    w = length t.schema

    abbrev flagged : List Value → List Value
    flagged row = row ++ flag row ∷ []

    z_rows : z.rows ≡ map flagged t.rows
    z_rows = rows_of js ∙ map_each (λ row. picked js row ++ flag row ∷ []) flagged (λ (row : List Value). length row ≡ w) own t.rows wide
      where
        own : (row : List Value) → length row ≡ w → picked js row ++ flag row ∷ [] ≡ flagged row
        own row long = ap (λ r. r ++ flag row ∷ []) (ap (λ n. picked (below n) row) (sym long) ∙ get_all row val.Null)

    pub z_kept : where_true w z.rows ≡ filter (λ row. is_true (flag row)) t.rows
    z_kept =
        let test : List Value → Bool = λ row. is_true (get_or row w val.Null) in
        let own : (row : List Value) → length row ≡ w → test (flagged row) ≡ is_true (flag row) = λ row long. ap (λ n. is_true (get_or (flagged row) n val.Null)) (sym long) ∙ ap is_true (last_value row (flag row)) in
        let back : (row : List Value) → length row ≡ w → take w (flagged row) ≡ row = λ row long. ap (λ n. take n (flagged row)) (sym long) ∙ take-append_seam row (flag row ∷ []) in
        ap (where_true w) z_rows
        ∙ ap (map (take w)) (filter_map flagged test t.rows)
        ∙ ap (λ rs. map (take w) (map flagged rs)) (filter_each (λ row. test (flagged row)) (λ row. is_true (flag row)) (λ (row : List Value). length row ≡ w) own t.rows wide)
        ∙ map_again (take w) flagged (filter (λ row. is_true (flag row)) t.rows)
        ∙ map_each (λ row. take w (flagged row)) (λ row. row) (λ (row : List Value). length row ≡ w) back (filter (λ row. is_true (flag row)) t.rows) (all-filter (λ (row : List Value). length row ≡ w) (λ row. is_true (flag row)) t.rows wide)
        ∙ itself (filter (λ row. is_true (flag row)) t.rows)
      where
        itself : (xs : List (List Value)) → map (λ row. row) xs ≡ xs
        itself [] = refl
        itself (y ∷ xs) = ap (λ ys. y ∷ ys) (itself xs)
