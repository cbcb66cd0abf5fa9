-- Sorts and filters of a select show the sorts and filters of its expressions.
use Rattle.std.proofs.Common.{◌≡◌, ◌≢◌, ◌⊎◌, inl, inr, ℕ, zero, suc, ◌<◌, ◌≤◌, Bool, true, false, not, cond, List, [], ◌∷◌, ◌++◌, length, take, drop, get_or, refl, sym, ap, subst, ◌∙◌, arith}
use Rattle.std.specs.Prelude.{Some, None, map, flat_map, filter as those, unwrap_or, ◌==◌, ◌||◌}
use Rattle.std.specs.Cmp.Lexicographic.{bytes_decides}
use Rattle.std.specs.List.{AllByRecursion, list_any}
use Rattle.std.specs.declared.cmp.Ordering.{Ordering}
use Rattle.std.specs.declared.cmp.Ordering.TheVariants.{Equal, Greater, Less}
use Rattle.std.specs.Ordering.{is_lt, ordering_then}
use Rattle.std.specs.Str.{bytes_eq}
use Rattle.std.proofs.Math.ListN.{get_or-map as get_or-map_default}
use Rattle.std.proofs.lemmas.Bool.{eqb-true}
use Rattle.std.proofs.lemmas.List.{get_or-map, length-map}
use Rattle.std.proofs.lemmas.List.Quantifiers.{position-Some}
use Rattle.ps_frame.proofs.NamePlaces.{is_some-position}
use Rattle.ps_frame.specs.Causes.{Cause, Column, value, cell_values, column_causes, is_empty, whole_column}
use Rattle.ps_frame.specs.Eval.{eval}
use Rattle.ps_frame.specs.Functions.{Functions}
use Rattle.ps_frame.specs.Sorting.{Direction, in_order, in_order_of_keys, insert_in_order, key_cmp, keys_cmp, values_in_order}
use Rattle.ps_frame.specs.Tables.{Fields, Table, column_at, field_index, no_rows, values_at, values_at_some}
use Rattle.ps_frame.specs.Trees.{Tree}
use Rattle.ps_frame.specs.Typing.{kind_over}
use Rattle.ps_frame.specs.Values.{is_true}
use Rattle.ps_frame.specs.Zip.{Zipped, Extent, below, breaks_shape, broadcasts, cell_in_row, ends_early, extent_of, extents, is_faulty_row, zip_causes, zip_length, zipped}
use Rattle.ps_frame.specs.declared.value.DataType.{DataType}
use Rattle.ps_frame.specs.declared.value.Value.{Value}
use Rattle.ps_frame.specs.declared.value.Value.TheVariants as val
use Rattle.ps_meaning.specs.Cases.{Case, columns_at, if_whole, keyed, lost_causes, out_schema, sorted_rows, table_of, where_true}
use Rattle.ps_meaning.specs.Distinct.{picked}
use Rattle.ps_meaning.specs.Schemas.{both}
use Rattle.ps_meaning.specs.Steps.{Name, Named, SortStep, exprs_of, filter, select, sort}
use Rattle.ps_shares.specs.CallLaws.{FiltersShow, SortsShow, kept_second}
use Rattle.ps_shares.specs.Shares.{IsClear, Shows}
use Rattle.ps_shares.proofs.Aggregated.{map_again, no_cause, same_shows, whole_column_is}
use Rattle.ps_shares.proofs.Below.{map_below}
use Rattle.ps_shares.proofs.ByCauses.{IsAsTable, as_table, zip_as_table}
use Rattle.ps_shares.proofs.ClearZips.{any_ended, clear_not_faulty, clear_zip_rows, held, values_in_row}
use Rattle.ps_shares.proofs.FlatLength.{whole_of_one, zip_extent}
use Rattle.ps_shares.proofs.Leaves.{get_all}
use Rattle.ps_shares.proofs.Named.{table_extent}
use Rattle.ps_shares.proofs.Projected.{place_of}
use Rattle.ps_shares.proofs.Shares.{nothing_shows, rows_of_zip, zip_whole}
use Rattle.ps_shares.proofs.ZipShares.{inputs_show}

pub empty : {A : Type 0} (xs : List A) → not (is_empty xs) ≡ false → xs ≡ []
empty [] h = refl
empty (x ∷ xs) h = cc

-- columns of a table side by side, some of them twice
module _ (at : ℕ) (P : Table) where
  column_extent : (j : ℕ) → extent_of (column_at j P) ≡ table_extent P
  column_extent j =
      let l = length-map (values_at j P.rows) value ∙ length-map P.rows (λ row. get_or row j val.Null) in
      λ i. record { ended = not (is_empty P.broken); len = l i }

  cell_there : (j i : ℕ) → i < length P.rows → cell_in_row false i (column_at j P) ≡ value (get_or (get_or P.rows i []) j val.Null)
  cell_there j i lt = by (broadcasts false (extent_of (column_at j P))) refl
    where
      at_place : (m : ℕ) → m ≡ i → get_or (map value (values_at j P.rows)) m (value val.Null) ≡ value (get_or (get_or P.rows i []) j val.Null)
      at_place m e =
          ap (λ m. get_or (map value (values_at j P.rows)) m (value val.Null)) e
          ∙ get_or-map_default value (values_at j P.rows) i val.Null
          ∙ ap value (get_or-map (λ row. get_or row j val.Null) P.rows i [] val.Null lt)

      by : (b : Bool) → broadcasts false (extent_of (column_at j P)) ≡ b → cell_in_row false i (column_at j P) ≡ value (get_or (get_or P.rows i []) j val.Null)
      by false h = ap (λ b. get_or (column_at j P).cells (cond b 0 i) (value val.Null)) h ∙ at_place i refl
      by true h =
          let w = whole_of_one (not (is_empty P.broken)) (length P.rows == 1) (ap (broadcasts false) (sym (column_extent j)) ∙ h) in
          let one : length P.rows ≡ 1 = eqb-true (length P.rows) 1 w.1 in
          let z : 0 ≡ i = omega arith in
          ap (λ b. get_or (column_at j P).cells (cond b 0 i) (value val.Null)) h ∙ at_place 0 z

  abbrev pub those_at : List ℕ → List Column
  those_at js = map (λ j. column_at j P) js

  all_as_table : (js : List ℕ) → AllByRecursion (IsAsTable P) (extents (those_at js))
  all_as_table [] = tt
  all_as_table (j ∷ js) = ((λ h. sym (column_extent j)), all_as_table js)

  all_are_clear : (js : List ℕ) → AllByRecursion IsClear (those_at js)
  all_are_clear [] = tt
  all_are_clear (j ∷ js) = (((values_at j P.rows, refl), refl), all_are_clear js)

  values_there : (i : ℕ) → i < length P.rows → (js : List ℕ) → values_in_row i (those_at js) ≡ picked js (get_or P.rows i [])
  values_there i lt [] = refl
  values_there i lt (j ∷ js) = let p = cell_there j i lt in let q = values_there i lt js in λ k. held (p k) ∷ q k

  module _ (j : ℕ) (js : List ℕ) where
    abbrev cs : List Column
    cs = those_at (j ∷ js)

    as_the_table : zip_extent (extents cs) ≡ table_extent P
    as_the_table = zip_as_table P (extents cs) (as_table P (extents cs) (all_as_table (j ∷ js))) (inl (column_extent j))

    pub keyed_rows : (zipped false at cs).rows ≡ map (picked (j ∷ js)) P.rows
    keyed_rows =
        clear_zip_rows at cs (all_are_clear (j ∷ js))
        ∙ ap (λ n. map (λ i. values_in_row i cs) (below n)) (ap (λ (e : Extent). e.len) as_the_table)
        ∙ map_below (λ i. values_in_row i cs) (λ i. picked (j ∷ js) (get_or P.rows i [])) (length P.rows) (λ i lt. values_there i lt (j ∷ js))
        ∙ sym (map_again (picked (j ∷ js)) (λ i. get_or P.rows i []) (below (length P.rows)))
        ∙ ap (map (picked (j ∷ js))) (get_all P.rows [])

    keyed_ends : ends_early false cs ≡ not (is_empty P.broken)
    keyed_ends = ap (λ b. b || breaks_shape false (extents cs)) (sym (any_ended cs)) ∙ ap (λ (e : Extent). e.ended) as_the_table

    pub keyed_whole : P.broken ≡ [] → (zipped false at cs).broken ≡ []
    keyed_whole none =
        let w = keyed_ends ∙ ap (λ b. not (is_empty b)) none in
        let f = clear_not_faulty cs (all_are_clear (j ∷ js)) in
        λ i. cond (w i || f i) (zip_causes false at cs) []

    pub keyed_broken : (zipped false at cs).broken ≡ [] → P.broken ≡ []
    keyed_broken none =
        let w = zip_whole at cs (ends_early false cs) (list_any is_faulty_row (rows_of_zip at cs)) refl refl none in
        empty P.broken (sym keyed_ends ∙ w.0)

-- what a select gives
abbrev pub AsZip : Zipped → Table → Type 0
AsZip z P = (P.rows ≡ z.rows) × (is_empty P.broken ≡ is_empty z.broken) ⊎ (P.rows ≡ []) × (P.broken ≢ [])

pub selected : (F : Functions) (at : ℕ) (es : List Named) (t P : Table) → Case F at (select es) (t ∷ []) P → (P.schema ≡ out_schema F at (select es) (t ∷ [])) × AsZip (zipped false at (columns_at at (exprs_of es) t)) P
selected F at es t P (U, inl g, e) =
    let k : P ≡ table_of (out_schema F at (select es) (t ∷ [])) (λ rows. rows) (zipped false at (columns_at at (exprs_of es) t)) = e ∙ g in
    (ap (λ (T : Table). T.schema) k, inl (ap (λ (T : Table). T.rows) k, ap (λ (T : Table). is_empty T.broken) k))
selected F at es t P (U, inr (V, g, some, u), e) =
    let k : P ≡ no_rows V.schema (lost_causes F at (select es) (t ∷ []) V.rows) = e ∙ u in
    (ap (λ (T : Table). T.schema) k ∙ ap (λ (T : Table). T.schema) g, inr (ap (λ (T : Table). T.rows) k, (λ none. some (sym (ap (λ (T : Table). T.broken) k) ∙ none))))

-- sorts
insert_map : {A B : Type 0} (f : A → B) (less : B → B → Bool) (x : A) (ys : List A) → insert_in_order less (f x) (map f ys) ≡ map f (insert_in_order (λ a b. less (f a) (f b)) x ys)
insert_map f less x [] = refl
insert_map f less x (y ∷ ys) = by (less (f y) (f x)) (insert_map f less x ys)
  where
    by : (b : Bool) → insert_in_order less (f x) (map f ys) ≡ map f (insert_in_order (λ a b. less (f a) (f b)) x ys)
        → cond b (f y ∷ insert_in_order less (f x) (map f ys)) (f x ∷ f y ∷ map f ys) ≡ map f (cond b (y ∷ insert_in_order (λ a b. less (f a) (f b)) x ys) (x ∷ y ∷ ys))
    by true e = ap (λ zs. f y ∷ zs) e
    by false e = refl

pub in_order_map : {A B : Type 0} (f : A → B) (less : B → B → Bool) (xs : List A) → in_order less (map f xs) ≡ map f (in_order (λ a b. less (f a) (f b)) xs)
in_order_map f less [] = refl
in_order_map f less (x ∷ xs) = ap (insert_in_order less (f x)) (in_order_map f less xs) ∙ insert_map f less x (in_order (λ a b. less (f a) (f b)) xs)

no_more : (o : Ordering) → is_lt (ordering_then o Equal) ≡ is_lt o
no_more Less = refl
no_more Equal = refl
no_more Greater = refl

abbrev doubled : Value → List Value × List Value
doubled v = (v ∷ [], v ∷ [])

abbrev parted : List Value → List Value × List Value
parted row = (drop 1 row, take 1 row)

-- values sorted by themselves
sorted_values : (d : Direction) (vs : List Value) → in_order_of_keys (d ∷ []) (map doubled vs) ≡ map (λ v. v ∷ []) (values_in_order d vs)
sorted_values d vs =
    ap (map (λ p. p.1)) (in_order_map doubled (λ p q. is_lt (keys_cmp (d ∷ []) p.0 q.0)) vs)
    ∙ map_again (λ p. p.1) doubled (in_order (λ a b. is_lt (keys_cmp (d ∷ []) (a ∷ []) (b ∷ []))) vs)
    ∙ ap (map (λ v. v ∷ [])) (λ i. in_order (λ a b. no_more (key_cmp d a b) i) vs)

twice_keyed : (vs : List Value) → map parted (map (picked (0 ∷ 0 ∷ [])) (map (λ v. v ∷ []) vs)) ≡ map doubled vs
twice_keyed [] = refl
twice_keyed (v ∷ vs) = ap (λ ps. doubled v ∷ ps) (twice_keyed vs)

pub one_wide : (vs : List Value) → AllByRecursion (λ (row : List Value). length row ≡ 1) (map (λ v. v ∷ []) vs)
one_wide [] = tt
one_wide (v ∷ vs) = (refl, one_wide vs)

pub one_back : (vs : List Value) → values_at 0 (map (λ v. v ∷ []) vs) ≡ vs
one_back [] = refl
one_back (v ∷ vs) = ap (λ ws. v ∷ ws) (one_back vs)

itself : (n : Name) → bytes_eq n n ≡ true
itself n = (bytes_decides n n).1 refl

or_true : (a b : Bool) → a ≡ true → (a || b) ≡ true
or_true a b e = ap (λ c. c || b) e

or_last : (a b : Bool) → b ≡ true → (a || b) ≡ true
or_last true b e = refl
or_last false b e = e

first_place : (n : Name) (k : DataType) → field_index n ((n, k) ∷ []) ≡ Some 0
first_place n k =
    let s : Fields = (n, k) ∷ [] in
    let K = place_of (field_index n s) (is_some-position (λ f. bytes_eq n f.0) s ∙ or_true (bytes_eq n n) false (itself n)) in
    let p = position-Some (λ f. bytes_eq n f.0) s K.0 (n, k) K.1 in
    let lt = p.0 in
    let z : K.0 ≡ 0 = omega arith in
    K.1 ∙ ap Some z

second_place : (m n : Name) (k l : DataType) → m ≢ n → field_index n ((m, k) ∷ (n, l) ∷ []) ≡ Some 1
second_place m n k l apart =
    let s : Fields = (m, k) ∷ (n, l) ∷ [] in
    let K = place_of (field_index n s) (is_some-position (λ f. bytes_eq n f.0) s ∙ or_last (bytes_eq n m) (bytes_eq n n || false) (or_true (bytes_eq n n) false (itself n))) in
    let p = position-Some (λ f. bytes_eq n f.0) s K.0 (n, l) K.1 in
    K.1 ∙ ap Some (by K.0 p.0 p.1)
  where
    by : (i : ℕ) → i < 2 → bytes_eq n (get_or {A = Name × DataType} ((m, k) ∷ (n, l) ∷ []) i (n, l)).0 ≡ true → i ≡ 1
    by zero lt h = absurd (apart (sym ((bytes_decides n m).0 h)))
    by (suc zero) lt h = refl
    by (suc (suc i)) lt h = absurd (omega arith)

module _ (F : Functions) (at : ℕ) (name : Name) (d n : Bool) (e : Tree) (k : DataType) (t P S : Table) (fields : P.schema ≡ (name, k) ∷ []) (as_zip : AsZip (zipped false at (eval at t e ∷ [])) P) where
  abbrev pub by_itself : SortStep
  by_itself = record { keys = Tree.column name ∷ []; descending = d ∷ []; nulls_last = n ∷ []; cut = None }

  abbrev way : Direction
  way = record { descending = d; nulls_last = n }

  abbrev c : Column
  c = eval at t e

  abbrev sorted : Column
  sorted = eval at t (Tree.sort d n e)

  abbrev pub z : Zipped
  z = zipped false at (those_at at P (0 ∷ 0 ∷ []))

  pub keyed_as : keyed at by_itself.keys P ≡ z
  keyed_as =
      let index = ap (field_index name) fields ∙ first_place name k in
      λ i. zipped false at (map (λ j. column_at j P) (below (length (fields i))) ++ (record { cells = map value (values_at_some (index i) P.rows); broken = P.broken; lost = [] } ∷ []))

  whole_shows : (zipped false at (c ∷ [])).broken ≡ [] → P.rows ≡ (zipped false at (c ∷ [])).rows → z.broken ≡ [] → S ≡ table_of P.schema (sorted_rows by_itself 1) z → Shows S (sorted ∷ [])
  whole_shows none rows clear is =
      let w = whole_column_is at c none in
      let vs = cell_values c.cells in
      let ws = values_in_order way vs in
      let T : Table = record { schema = (name, k) ∷ []; rows = map (λ v. v ∷ []) ws; broken = [] } in
      let out : sorted_rows by_itself 1 z.rows ≡ map (λ v. v ∷ []) ws =
      ap (sorted_rows by_itself 1) (keyed_rows at P 0 (0 ∷ []) ∙ ap (map (picked (0 ∷ 0 ∷ []))) (rows ∙ w.1))
      ∙ ap (in_order_of_keys (way ∷ [])) (twice_keyed vs)
      ∙ sorted_values way vs in
      let same : S ≡ T = is ∙ (λ i. record { schema = fields i; rows = out i; broken = clear i }) in
      let lost = flat_map (λ (c : Column). c.lost) (c ∷ []) in
      let col : sorted ≡ record (whole_column ws) { lost = lost } =
      ap (λ b. cond b (record { cells = []; broken = flat_map column_causes (c ∷ []); lost = lost }) (record (whole_column ws) { lost = lost })) (no_cause c w.0) in
      let shows = inputs_show T (one_wide ws) (λ none. cc) in
      subst (λ U. Shows U (sorted ∷ [])) (sym same)
      (same_shows T (column_at 0 T) sorted (ap (map value) (one_back ws) ∙ sym (ap (λ (c : Column). c.cells) col)) (sym (ap (λ (c : Column). c.broken) col)) shows)

  by_broken : (b : List Cause) → z.broken ≡ b → S ≡ if_whole P.schema z.broken (table_of P.schema (sorted_rows by_itself 1) z) → AsZip (zipped false at (c ∷ [])) P → Shows S (sorted ∷ [])
  by_broken (x ∷ xs) q is zip =
      let k : S ≡ no_rows P.schema (x ∷ xs) = is ∙ ap (λ b. if_whole P.schema b (table_of P.schema (sorted_rows by_itself 1) z)) q in
      nothing_shows (sorted ∷ []) S (ap (λ (T : Table). T.rows) k) (λ none. let w : x ∷ xs ≡ [] = sym (ap (λ (T : Table). T.broken) k) ∙ none in cc)
  by_broken [] q is (inr (rows, some)) = absurd (some (keyed_broken at P 0 (0 ∷ []) q))
  by_broken [] q is (inl (rows, broken)) =
      whole_shows (empty (zipped false at (c ∷ [])).broken (ap not (sym broken ∙ ap is_empty (keyed_broken at P 0 (0 ∷ []) q)))) rows q (is ∙ ap (λ b. if_whole P.schema b (table_of P.schema (sorted_rows by_itself 1) z)) q)

  pub sort_shows : Case F at (sort by_itself) (P ∷ []) S → Shows S (sorted ∷ [])
  sort_shows (U, inl g, e') =
      let is : S ≡ if_whole P.schema z.broken (table_of P.schema (sorted_rows by_itself 1) z) =
      e' ∙ g ∙ (λ i. if_whole P.schema (keyed_as i).broken (table_of P.schema (sorted_rows by_itself (length (fields i))) (keyed_as i))) in
      by_broken z.broken refl is as_zip
  sort_shows (U, inr (V, g, some, u), e') =
      let k : S ≡ no_rows V.schema (lost_causes F at (sort by_itself) (P ∷ []) V.rows) = e' ∙ u in
      nothing_shows (sorted ∷ []) S (ap (λ (T : Table). T.rows) k) (λ none. some (sym (ap (λ (T : Table). T.broken) k) ∙ none))

pub sorts_show : SortsShow
sorts_show F at name d n e k t P S typed gives case =
    let g = selected F at ((name, e) ∷ []) t P gives in
    sort_shows F at name d n e k t P S (g.0 ∙ ap (λ o. unwrap_or (both (λ k fs. (name, k) ∷ fs) o (Some [])) []) typed) g.1 case

-- filters
abbrev more : List (List Value) → List (List Value)
more rows = those (λ row. is_true (get_or row 2 val.Null)) (map (picked (0 ∷ 1 ∷ 1 ∷ [])) rows)

kept_rows : (rows : List (List Value)) → where_true 2 (map (picked (0 ∷ 1 ∷ 1 ∷ [])) rows) ≡ map (picked (0 ∷ 1 ∷ [])) (those (λ row. is_true (get_or row 1 val.Null)) rows)
kept_rows [] = refl
kept_rows (row ∷ rows) = by (is_true (get_or row 1 val.Null)) (kept_rows rows)
  where
    by : (b : Bool) → map (take 2) (more rows) ≡ map (picked (0 ∷ 1 ∷ [])) (those (λ row. is_true (get_or row 1 val.Null)) rows)
        → map (take 2) (cond b (picked (0 ∷ 1 ∷ 1 ∷ []) row ∷ more rows) (more rows)) ≡ map (picked (0 ∷ 1 ∷ [])) (cond b (row ∷ those (λ row. is_true (get_or row 1 val.Null)) rows) (those (λ row. is_true (get_or row 1 val.Null)) rows))
    by true e = ap (λ rs. picked (0 ∷ 1 ∷ []) row ∷ rs) e
    by false e = e

pub two_wide : (rows : List (List Value)) → AllByRecursion (λ (row : List Value). length row ≡ 2) (map (picked (0 ∷ 1 ∷ [])) rows)
two_wide [] = tt
two_wide (row ∷ rows) = (refl, two_wide rows)

pub first_back : (rows : List (List Value)) → map value (values_at 0 (map (picked (0 ∷ 1 ∷ [])) rows)) ≡ map (λ row. value (get_or row 0 val.Null)) rows
first_back [] = refl
first_back (row ∷ rows) = ap (λ cs. value (get_or row 0 val.Null) ∷ cs) (first_back rows)

pub second_back : (rows : List (List Value)) → map value (values_at 1 (map (picked (0 ∷ 1 ∷ [])) rows)) ≡ map (λ row. value (get_or row 1 val.Null)) rows
second_back [] = refl
second_back (row ∷ rows) = ap (λ cs. value (get_or row 1 val.Null) ∷ cs) (second_back rows)

module _ (F : Functions) (at : ℕ) (m n : Name) (e by : Tree) (k l : DataType) (t P S : Table) (apart : m ≢ n) (both_fields : P.schema ≡ (m, k) ∷ (n, l) ∷ [])
    (as_zip : AsZip (zipped false at (eval at t e ∷ eval at t by ∷ [])) P) where
  abbrev pub Z : Zipped
  Z = zipped false at (eval at t e ∷ eval at t by ∷ [])

  abbrev shown : List Column
  shown = eval at t (Tree.filter e by) ∷ kept_second Z ∷ []

  abbrev pub true_rows : List (List Value) → List (List Value)
  true_rows rows = those (λ row. is_true (get_or row 1 val.Null)) rows

  abbrev pub y : Zipped
  y = zipped false at (those_at at P (0 ∷ 1 ∷ 1 ∷ []))

  pub filtered_as : keyed at (Tree.column n ∷ []) P ≡ y
  filtered_as =
      let index = ap (field_index n) both_fields ∙ second_place m n k l apart in
      λ i. zipped false at (map (λ j. column_at j P) (below (length (both_fields i))) ++ (record { cells = map value (values_at_some (index i) P.rows); broken = P.broken; lost = [] } ∷ []))

  -- the rows that are kept, where the select has the rows of the zip
  pub filtered : S ≡ table_of P.schema (where_true 2) y → P.rows ≡ Z.rows → S.rows ≡ map (picked (0 ∷ 1 ∷ [])) (true_rows Z.rows)
  filtered is rows = ap (λ (T : Table). T.rows) is ∙ ap (where_true 2) (keyed_rows at P 0 (1 ∷ 1 ∷ [])) ∙ kept_rows P.rows ∙ ap (λ rows. map (picked (0 ∷ 1 ∷ [])) (true_rows rows)) rows

  by_select : S ≡ table_of P.schema (where_true 2) y → AsZip Z P → Shows S shown
  by_select is (inr (rows, some)) =
      let none : where_true 2 y.rows ≡ [] = ap (where_true 2) (keyed_rows at P 0 (1 ∷ 1 ∷ []) ∙ ap (map (picked (0 ∷ 1 ∷ 1 ∷ []))) rows) in
      nothing_shows shown S (ap (λ (T : Table). T.rows) is ∙ none) (λ e. some (keyed_broken at P 0 (1 ∷ 1 ∷ []) (sym (ap (λ (T : Table). T.broken) is) ∙ e)))
  by_select is (inl (rows, broken)) =
      let T : Table = record { schema = (m, k) ∷ (n, l) ∷ []; rows = map (picked (0 ∷ 1 ∷ [])) (true_rows Z.rows); broken = Z.broken } in
      let same : S.rows ≡ T.rows = filtered is rows in
      let s = inputs_show T (two_wide (true_rows Z.rows)) (λ none. cc) in
      let c0 = first_back (true_rows Z.rows) in
      let c1 = second_back (true_rows Z.rows) in
      let u : Shows T (record { cells = (eval at t (Tree.filter e by)).cells; broken = Z.broken; lost = [] } ∷ record { cells = (kept_second Z).cells; broken = Z.broken; lost = [] } ∷ []) =
      subst (λ cs. Shows T cs) (λ i. record { cells = c0 i; broken = Z.broken; lost = [] } ∷ record { cells = c1 i; broken = Z.broken; lost = [] } ∷ []) s in
      record {
        few = subst (λ rows. length rows ≤ zip_length false (extents shown)) (sym same) u.few;
        whole = λ e. let w = u.whole (empty Z.broken (ap not (sym broken ∙ ap is_empty (keyed_broken at P 0 (1 ∷ 1 ∷ []) (sym (ap (λ (T : Table). T.broken) is) ∙ e))))) in (w.0, ap length same ∙ w.1);
        rows = λ i lt. u.rows i (subst (λ rows. i < length rows) same lt) ∙ sym (ap (λ rows. map value (get_or rows i [])) same);
      }

  pub filter_shows : Case F at (filter (Tree.column n)) (P ∷ []) S → Shows S shown
  filter_shows (U, inl g, e') =
      let is : S ≡ table_of P.schema (where_true 2) y = e' ∙ g ∙ (λ i. table_of P.schema (where_true (length (both_fields i))) (filtered_as i)) in
      by_select is as_zip
  filter_shows (U, inr (V, g, some, u), e') =
      let k : S ≡ no_rows V.schema (lost_causes F at (filter (Tree.column n)) (P ∷ []) V.rows) = e' ∙ u in
      nothing_shows shown S (ap (λ (T : Table). T.rows) k) (λ none. some (sym (ap (λ (T : Table). T.broken) k) ∙ none))

pub filters_show : FiltersShow
filters_show F at m n e by k l t P S apart typed typed_by gives case =
    let g = selected F at ((m, e) ∷ (n, by) ∷ []) t P gives in
    filter_shows F at m n e by k l t P S apart (g.0 ∙ (λ i. unwrap_or (both (λ k fs. (m, k) ∷ fs) (typed i) (both (λ l fs. (n, l) ∷ fs) (typed_by i) (Some []))) [])) g.1 case
