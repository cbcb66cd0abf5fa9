-- A table whose own columns are the keys behind it.
use Rattle.std.proofs.Common.{◌≡◌, ◌≢◌, ◌⊎◌, inl, inr, ℕ, Bool, true, false, not, cond, List, [], ◌∷◌, ◌++◌, length, take, drop, get_or, refl, sym, ap, subst, ◌∙◌, arith}
use Rattle.std.specs.Prelude.{filter, flat_map, map, unwrap_or, ◌||◌, ◌&&◌, ◌==◌}
use Rattle.std.specs.List.{AllByRecursion, list_any}
use Rattle.std.proofs.Math.Seq.{drop-append_seam, take-append_seam}
use Rattle.std.proofs.lemmas.List.{length-map, map-append}
use Rattle.ps_frame.specs.Causes.{Cause, Column, value, cell_causes, column_causes, is_empty}
use Rattle.ps_frame.specs.Tables.{Fields, Table, column_at, columns_of, field_index, table_column, values_at, values_at_some}
use Rattle.ps_frame.specs.Zip.{Extent, all_same, below, breaks_shape, ends_early, extent_of, extents, is_faulty_row, outgrows, zip_causes, zip_length, zip_rows, zipped, Zipped}
use Rattle.ps_frame.specs.Values.{same_row}
use Rattle.ps_frame.specs.declared.value.DataFault.TheVariants as data_fault
use Rattle.ps_frame.specs.declared.value.Value.{Value}
use Rattle.ps_frame.specs.declared.value.Value.TheVariants as val
use Rattle.ps_meaning.specs.Cases.{columns_at, keyed}
use Rattle.ps_meaning.specs.Distinct.{picked, places_in}
use Rattle.ps_meaning.specs.Groups.{rows_of_key}
use Rattle.ps_meaning.proofs.Fits.{all-filter}
use Rattle.ps_meaning.specs.Steps.{Name}
use Rattle.ps_rules.specs.Slots.{columns_named}
use Rattle.ps_shares.specs.Kept.{HasNoOther}
use Rattle.ps_shares.proofs.Aggregated.{map_again}
use Rattle.ps_shares.proofs.Below.{length_below}
use Rattle.ps_shares.proofs.ClearZips.{no_causes}
use Rattle.ps_shares.proofs.Ends.{has_either}
use Rattle.ps_shares.proofs.FlatLength.{none_outgrow}
use Rattle.ps_shares.proofs.Leaves.{get_all}
use Rattle.ps_shares.proofs.Members.{Has, from_has, to_has}
use Rattle.ps_shares.proofs.Stepped.{keyed_broken, keyed_rows, keyed_whole, those_at}
use Rattle.ps_bundles.proofs.StepEnds.{clear_lost}
use Rattle.ps_bundles.proofs.ZipEnds.{columns_clear}
use Rattle.picked_zips.proofs.Lengths.{same_shape}
use Rattle.picked_zips.proofs.Members.{filter_each, filter_map, map_each, of_flat, of_map}
use Rattle.keyed_calls.specs.Keyed.{AllStand}

-- one extent agrees with itself
alone_agrees : (e : Extent) → breaks_shape false (e ∷ []) ≡ false
alone_agrees e = by e.ended (not (e.len == 1))
  where
    by : (b q : Bool)
        → (not (all_same (map (λ (e : Extent). e.len) (cond (not b && q) (e ∷ []) []))) || list_any (outgrows (map (λ (e : Extent). e.len) (cond (not b && q) (e ∷ []) []))) (map (λ (e : Extent). e.len) (cond b (e ∷ []) []))) ≡ false
    by true q = none_outgrow (e.len ∷ [])
    by false true = refl
    by false false = refl

module _ (at : ℕ) (t : Table) (keys : List Name) (placed : AllStand t.schema keys) (some : t.schema ≢ []) where
  abbrev w : ℕ
  w = length t.schema

  abbrev pub kp : List ℕ
  kp = places_in keys t.schema

  abbrev all : List ℕ
  all = below w ++ kp

  named_at : (ns : List Name) → AllStand t.schema ns → columns_at at (columns_named ns) t ≡ map (λ j. column_at j t) (places_in ns t.schema)
  named_at [] placed = refl
  named_at (n ∷ ns) placed =
      let rest = named_at ns placed.1 in
      let first : table_column n t ≡ column_at (unwrap_or (field_index n t.schema) 0) t =
      ap (λ o. record { cells = map value (values_at_some o t.rows); broken = t.broken; lost = [] }) placed.0.1 ∙ sym (ap (λ o. column_at (unwrap_or o 0) t) placed.0.1) in
      λ i. first i ∷ rest i

  columns_are : columns_of t ++ columns_at at (columns_named keys) t ≡ those_at at t all
  columns_are = ap (λ cs. columns_of t ++ cs) (named_at keys placed) ∙ sym (map-append (λ j. column_at j t) (below w) kp)

  some_place : (j : ℕ) × (js : List ℕ) × (all ≡ j ∷ js)
  some_place = by (below w) refl
    where
      by : (xs : List ℕ) → below w ≡ xs → (j : ℕ) × (js : List ℕ) × (all ≡ j ∷ js)
      by [] e = let l = sym (length_below w) ∙ ap length e in absurd (none t.schema some l)
        where
          none : (s : Fields) → s ≢ [] → length s ≡ 0 → ⊥
          none [] some l = some refl
          none (f ∷ s) some l = absurd (omega (arith, l))
      by (x ∷ xs) e = (x, xs ++ kp, ap (λ ys. ys ++ kp) e)

  abbrev b : Zipped
  b = keyed at (columns_named keys) t

  is_those : b ≡ zipped false at (those_at at t (some_place.0 ∷ some_place.1))
  is_those = ap (zipped false at) columns_are ∙ ap (λ js. zipped false at (those_at at t js)) some_place.2

  pub b_rows : b.rows ≡ map (picked all) t.rows
  b_rows = ap (λ (z : Zipped). z.rows) is_those ∙ keyed_rows at t some_place.0 some_place.1 ∙ sym (ap (λ js. map (picked js) t.rows) some_place.2)

  pub whole_from : t.broken ≡ [] → b.broken ≡ []
  whole_from e = ap (λ (z : Zipped). z.broken) is_those ∙ keyed_whole at t some_place.0 some_place.1 e

  pub whole_to : b.broken ≡ [] → t.broken ≡ []
  whole_to e = keyed_broken at t some_place.0 some_place.1 (sym (ap (λ (z : Zipped). z.broken) is_those) ∙ e)

  pub b_lost : b.lost ≡ []
  b_lost = ap (λ (z : Zipped). z.lost) is_those ∙ clear_lost at (those_at at t (some_place.0 ∷ some_place.1)) (columns_clear t (some_place.0 ∷ some_place.1))

  -- what breaks it breaks the table
  extent_is : (j : ℕ) → extent_of (column_at j t) ≡ record { ended = not (is_empty t.broken); len = length t.rows }
  extent_is j =
      let l = length-map (values_at j t.rows) value ∙ length-map t.rows (λ row. get_or row j val.Null) in
      λ i. record { ended = not (is_empty t.broken); len = l i }

  abbrev x : Extent
  x = record { ended = not (is_empty t.broken); len = length t.rows }

  abbrev cs : List Column
  cs = those_at at t (some_place.0 ∷ some_place.1)

  agrees : breaks_shape false (extents cs) ≡ false
  agrees = same_shape (extents cs) (x ∷ []) (λ e h. inl (within e h)) (λ e h. by e h) ∙ alone_agrees x
    where
      within : (e : Extent) → Has (extents cs) e → x ≡ e
      within e h =
          let r = of_map extent_of cs e h in
          let q = of_map (λ j. column_at j t) (some_place.0 ∷ some_place.1) r.0 r.1 in
          sym (extent_is q.0) ∙ ap extent_of q.2 ∙ r.2

      by : (e : Extent) → Has (x ∷ []) e → Has (extents cs) e
      by e (inl k) = inl (extent_is some_place.0 ∙ k)
      by e (inr k) = absurd k

  pub b_causes : HasNoOther b.broken t.broken
  b_causes c h = from_has t.broken c (by_cond (ends_early false cs || list_any is_faulty_row (zip_rows false (zip_length false (extents cs)) cs)) (subst (λ (z : Zipped). Has z.broken c) is_those (to_has b.broken c h)))
    where
      in_columns : Has (flat_map column_causes cs) c → Has t.broken c
      in_columns k =
          let r = of_flat column_causes cs c k in
          let q = of_map (λ j. column_at j t) (some_place.0 ∷ some_place.1) r.0 r.1 in
          by q.0 (has_either (flat_map cell_causes (column_at q.0 t).cells) t.broken c (subst (λ (d : Column). Has (column_causes d) c) (sym q.2) r.2))
        where
          by : (j : ℕ) → Has (flat_map cell_causes (column_at j t).cells) c ⊎ Has t.broken c → Has t.broken c
          by j (inl k) = absurd (subst (λ (xs : List Cause). Has xs c) (no_causes (values_at j t.rows)) k)
          by j (inr k) = k

      by_cond : (q : Bool) → Has (cond q (zip_causes false at cs) []) c → Has t.broken c
      by_cond false k = absurd k
      by_cond true k = of_shape (has_either (flat_map column_causes cs) (cond {A = List Cause} (breaks_shape false (extents cs)) (record { fault = data_fault.Shape; node = at } ∷ []) []) c k)
        where
          of_shape : Has (flat_map column_causes cs) c ⊎ Has (cond {A = List Cause} (breaks_shape false (extents cs)) (record { fault = data_fault.Shape; node = at } ∷ []) []) c → Has t.broken c
          of_shape (inl k) = in_columns k
          of_shape (inr k) = absurd (subst (λ q. Has (cond {A = List Cause} q (record { fault = data_fault.Shape; node = at } ∷ []) []) c) agrees k)

  -- the parts of its rows
  front_of : (row : List Value) → length row ≡ w → take w (picked all row) ≡ row
  front_of row long =
      let split = map-append (λ k. get_or row k val.Null) (below w) kp in
      let own : picked (below w) row ≡ row = ap (λ n. picked (below n) row) (sym long) ∙ get_all row val.Null in
      ap (take w) split ∙ ap (λ r. take w (r ++ picked kp row)) own ∙ ap (λ n. take n (row ++ picked kp row)) (sym long) ∙ take-append_seam row (picked kp row)

  keys_of_row : (row : List Value) → length row ≡ w → drop w (picked all row) ≡ picked kp row
  keys_of_row row long =
      let split = map-append (λ k. get_or row k val.Null) (below w) kp in
      let own : picked (below w) row ≡ row = ap (λ n. picked (below n) row) (sym long) ∙ get_all row val.Null in
      ap (drop w) split ∙ ap (λ r. drop w (r ++ picked kp row)) own ∙ ap (λ n. drop n (row ++ picked kp row)) (sym long) ∙ drop-append_seam row (picked kp row)

  module _ (wide : AllByRecursion (λ (row : List Value). length row ≡ w) t.rows) where
    pub b_keys : map (drop w) b.rows ≡ map (picked kp) t.rows
    b_keys = ap (map (drop w)) b_rows ∙ map_again (drop w) (picked all) t.rows ∙ map_each (λ row. drop w (picked all row)) (picked kp) (λ (row : List Value). length row ≡ w) keys_of_row t.rows wide

    pub b_of_key : (key : List Value) → rows_of_key w key b.rows ≡ filter (λ row. same_row key (picked kp row)) t.rows
    b_of_key key =
        let tests = filter_each (λ row. same_row key (drop w (picked all row))) (λ row. same_row key (picked kp row)) (λ (row : List Value). length row ≡ w) (λ row long. ap (same_row key) (keys_of_row row long)) t.rows wide in
        ap (λ rows. map (take w) (filter (λ row. same_row key (drop w row)) rows)) b_rows
        ∙ ap (map (take w)) (filter_map (picked all) (λ row. same_row key (drop w row)) t.rows)
        ∙ map_again (take w) (picked all) (filter (λ row. same_row key (drop w (picked all row))) t.rows)
        ∙ ap (map (λ row. take w (picked all row))) tests
        ∙ map_each (λ row. take w (picked all row)) (λ row. row) (λ (row : List Value). length row ≡ w) front_of (filter (λ row. same_row key (picked kp row)) t.rows) (all-filter (λ (row : List Value). length row ≡ w) (λ row. same_row key (picked kp row)) t.rows wide)
        ∙ map_itself (filter (λ row. same_row key (picked kp row)) t.rows)
      where
        map_itself : (xs : List (List Value)) → map (λ row. row) xs ≡ xs
        map_itself [] = refl
        map_itself (x ∷ xs) = ap (λ ys. x ∷ ys) (map_itself xs)
