-- The rows of a key, by the values of the keys and of some columns.
use Rattle.std.proofs.Common.{◌≡◌, ℕ, suc, ◌+◌, ◌<◌, Bool, true, List, [], ◌∷◌, ◌++◌, length, take, drop, get_or, Some, None, refl, sym, ap, subst, ◌∙◌}
use Rattle.std.specs.Prelude.{Option, map, filter, flat_map, unwrap_or, is_some}
use Rattle.std.specs.List.{AllByRecursion}
use Rattle.std.specs.Str.{bytes_eq}
use Rattle.std.specs.Cmp.Lexicographic.{bytes_decides}
use Rattle.std.proofs.Math.Seq.{take-append_seam}
use Rattle.std.proofs.lemmas.List.{get_or-append-add, get_or-map, get_or-take, length-map}
use Rattle.std.proofs.lemmas.List.Quantifiers.{position-Some}
use Rattle.ps_frame.specs.Causes.{value, column_causes}
use Rattle.ps_frame.specs.Eval.{eval}
use Rattle.ps_frame.specs.Tables.{Fields, Table, field_index, field_kind, table_column, values_at_some}
use Rattle.ps_frame.specs.Trees.{Tree}
use Rattle.ps_frame.specs.Values.{same_row}
use Rattle.ps_frame.specs.declared.value.DataType.{DataType}
use Rattle.ps_frame.specs.declared.value.DataType.TheVariants as kind
use Rattle.ps_frame.specs.declared.value.Value.{Value}
use Rattle.ps_frame.specs.declared.value.Value.TheVariants as val
use Rattle.ps_meaning.specs.Distinct.{distinct_rows, picked, places_in}
use Rattle.ps_meaning.specs.Groups.{group_columns, group_rows, groups, keys_of, only_value, rows_of_key}
use Rattle.ps_meaning.specs.Schemas.{names_of}
use Rattle.ps_meaning.specs.Steps.{Name}
use Rattle.ps_meaning.proofs.EvalFits.{stands}
use Rattle.ps_shares.specs.Leaves.{IsSameIn, ReadsAll}
use Rattle.ps_shares.proofs.Aggregated.{map_again}
use Rattle.ps_shares.proofs.Agreeing.{reads_the_same}
use Rattle.ps_shares.proofs.Stands.{HasKind}
use Rattle.picked_zips.specs.Picked.{places_from}
use Rattle.picked_zips.proofs.Keyed.{place_inside, rest_of}
use Rattle.picked_zips.proofs.Members.{filter_each, filter_map, map_each}
use Rattle.keyed_calls.proofs.Alike.{of_named}
use Rattle.keyed_calls.specs.Keyed.{AllStand, row_by}
use Rattle.group_keeps.proofs.ReadNames.{reads_map}

places_count : {A : Type 0} (w : ℕ) (xs : List A) → length (places_from w xs) ≡ length xs
places_count w [] = refl
places_count w (x ∷ xs) = ap suc (places_count (suc w) xs)

-- one side: rows with keys behind them
module _ (js : List ℕ) (w : ℕ) (keys : List Tree) (rows : List (List Value)) (wide : AllByRecursion (λ (row : List Value). length row ≡ w + length keys) rows) where
  abbrev IsWide : List Value → Type 0
  IsWide row = length row ≡ w + length keys

  abbrev of : List Value → List Value
  of = row_by js w keys

  abbrev k : ℕ
  k = length keys

  keys_length : (row : List Value) → length (picked (places_from w keys) row) ≡ k
  keys_length row = length-map (places_from w keys) (λ j. get_or row j val.Null) ∙ places_count w keys

  key_is : (row : List Value) → IsWide row → take k (of row) ≡ drop w row
  key_is row long = ap (λ n. take n (of row)) (sym (keys_length row)) ∙ take-append_seam (picked (places_from w keys) row) (picked js row) ∙ rest_of row w keys long

  pub keys_side : map (drop w) rows ≡ map (take k) (map of rows)
  keys_side = map_each (drop w) (λ row. take k (of row)) IsWide (λ row long. sym (key_is row long)) rows wide ∙ sym (map_again (take k) of rows)

  abbrev of_key : List Value → List Value → Bool
  of_key key x = same_row key (take k x)

  those : (key : List Value) → filter (λ row. same_row key (drop w row)) rows ≡ filter (λ row. of_key key (of row)) rows
  those key = filter_each (λ row. same_row key (drop w row)) (λ row. of_key key (of row)) IsWide (λ row long. ap (same_row key) (sym (key_is row long))) rows wide

  pub count_side : (key : List Value) → length (rows_of_key w key rows) ≡ length (filter (of_key key) (map of rows))
  count_side key =
      length-map (filter (λ row. same_row key (drop w row)) rows) (take w) ∙ ap length (those key) ∙ sym (length-map (filter (λ row. of_key key (of row)) rows) of) ∙ ap length (sym (filter_map of (of_key key) rows))

  pub values_side : (key : List Value) (q j : ℕ) → q < length js → get_or js q 0 ≡ j → j < w → map (λ row. get_or row j val.Null) (rows_of_key w key rows) ≡ map (λ x. get_or x (k + q) val.Null) (filter (of_key key) (map of rows))
  values_side key q j lt e inside =
      let at : (row : List Value) → get_or (of row) (k + q) val.Null ≡ get_or (take w row) j val.Null =
      λ row.
      ap (λ n. get_or (of row) (n + q) val.Null) (sym (keys_length row))
      ∙ get_or-append-add (picked (places_from w keys) row) (picked js row) q val.Null
      ∙ get_or-map (λ j. get_or row j val.Null) js q 0 val.Null lt
      ∙ ap (λ j. get_or row j val.Null) e
      ∙ sym (get_or-take w row j val.Null inside) in
      map_again (λ row. get_or row j val.Null) (take w) (filter (λ row. same_row key (drop w row)) rows)
      ∙ ap (map (λ row. get_or (take w row) j val.Null)) (those key)
      ∙ (λ i. map (λ row. sym (at row) i) (filter (λ row. of_key key (of row)) rows))
      ∙ sym (map_again (λ x. get_or x (k + q) val.Null) of (filter (λ row. of_key key (of row)) rows))
      ∙ ap (map (λ x. get_or x (k + q) val.Null)) (sym (filter_map of (of_key key) rows))

-- Both sides: rows that are alike by keys and by the columns of a schema s, whose names stand in another one.
module _ (s f : Fields) (known given : List Tree) (count : length given ≡ length known) (there : AllStand f (names_of s)) (same : AllByRecursion (λ n. field_kind n f ≡ field_kind n s) (names_of s)) (bs as' : List (List Value))
    (wide_b : AllByRecursion (λ (row : List Value). length row ≡ length s + length known) bs) (wide_a : AllByRecursion (λ (row : List Value). length row ≡ length f + length given) as')
    (alike : map (row_by (places_in (names_of s) f) (length f) given) as' ≡ map (row_by (places_in (names_of s) s) (length s) known) bs) where
  abbrev ns : List Name
  ns = names_of s

  pub same_keys : keys_of (length f) as' ≡ keys_of (length s) bs
  same_keys =
      let l = keys_side (places_in ns f) (length f) given as' wide_a in
      let r = keys_side (places_in ns s) (length s) known bs wide_b in
      ap distinct_rows (l ∙ ap (λ n. map (take n) (map (row_by (places_in ns f) (length f) given) as')) count ∙ ap (map (take (length known))) alike ∙ sym r)

  module _ (key : List Value) where
    abbrev gf : Table
    gf = group_rows f as' key

    abbrev gs : Table
    gs = group_rows s bs key

    same_those : filter (λ x. same_row key (take (length given) x)) (map (row_by (places_in ns f) (length f) given) as') ≡ filter (λ x. same_row key (take (length known) x)) (map (row_by (places_in ns s) (length s) known) bs)
    same_those = λ i. filter (λ x. same_row key (take (count i) x)) (alike i)

    pub same_count : length gf.rows ≡ length gs.rows
    same_count = count_side (places_in ns f) (length f) given as' wide_a key ∙ ap length same_those ∙ sym (count_side (places_in ns s) (length s) known bs wide_b key)

    place_in : (g : Fields) (n : Name) (q j : ℕ) → field_index n s ≡ Some q → field_index n g ≡ Some j → (q < length (places_in ns g)) × (get_or (places_in ns g) q 0 ≡ j)
    place_in g n q j there' here =
        let p = position-Some (λ (x : Name × DataType). bytes_eq n x.0) s q (n, kind.Boolean) there' in
        let lt : q < length ns = subst (λ m. q < m) (sym (length-map s (λ (x : Name × DataType). x.0))) p.0 in
        let own : get_or ns q n ≡ n = get_or-map (λ (x : Name × DataType). x.0) s q (n, kind.Boolean) n p.0 ∙ sym ((bytes_decides n (get_or s q (n, kind.Boolean)).0).0 p.1) in (
          subst (λ m. q < m) (sym (length-map ns (λ n. unwrap_or (field_index n g) 0))) lt,
          get_or-map (λ n. unwrap_or (field_index n g) 0) ns q n 0 lt ∙ ap (λ n. unwrap_or (field_index n g) 0) own ∙ ap (λ o. unwrap_or o 0) here,
        )

    same_column : (n : Name) (q j : ℕ) → field_index n s ≡ Some q → field_index n f ≡ Some j → table_column n gf ≡ table_column n gs
    same_column n q j at_s at_f =
        let pf = place_in f n q j at_s at_f in
        let ps = place_in s n q q at_s at_s in
        let l = values_side (places_in ns f) (length f) given as' wide_a key q j pf.0 pf.1 (place_inside f n j at_f) in
        let r = values_side (places_in ns s) (length s) known bs wide_b key q q ps.0 ps.1 (place_inside s n q at_s) in
        let values : values_at_some (field_index n f) gf.rows ≡ values_at_some (field_index n s) gs.rows =
        ap (λ (o : Option ℕ). values_at_some o gf.rows) at_f ∙ l ∙ (λ i. map (λ x. get_or x (count i + q) val.Null) (same_those i)) ∙ sym r ∙ sym (ap (λ (o : Option ℕ). values_at_some o gs.rows) at_s) in
        λ i. record { cells = map value (values i); broken = []; lost = [] }

    same_in : (n : Name) → HasKind s n → IsSameIn gf gs n
    same_in n h =
        let kinds = of_named (λ n. field_kind n f ≡ field_kind n s) s n h same in
        let k = kind_of (field_kind n s) h in
        let at_s = stands n s k.0 k.1 in
        let at_f = stands n f k.0 (kinds ∙ k.1) in
        record { column = same_column n at_s.0 at_f.0 at_s.1 at_f.1; kind = kinds }
      where
        kind_of : (o : Option DataType) → is_some o ≡ true → (k : DataType) × (o ≡ Some k)
        kind_of None h = cc
        kind_of (Some k) h = (k, refl)

    -- expressions over the rows of a key
    pub same_eval : (at : ℕ) (e : Tree) → ReadsAll (HasKind s) e → eval at gf e ≡ eval at gs e
    same_eval at e reads = reads_the_same at gf gs e same_count refl (reads_map (HasKind s) (IsSameIn gf gs) same_in e reads)

  module _ (at : ℕ) (es : List Tree) (reads : AllByRecursion (ReadsAll (HasKind s)) es) where
    same_columns : (key : List Value) (es : List Tree) → AllByRecursion (ReadsAll (HasKind s)) es → group_columns at es f as' key ≡ group_columns at es s bs key
    same_columns key [] reads = refl
    same_columns key (e ∷ es) reads = let p = same_eval key at e reads.0 in let q = same_columns key es reads.1 in λ i. p i ∷ q i

    pub same_group_columns : (key : List Value) → group_columns at es f as' key ≡ group_columns at es s bs key
    same_group_columns key = same_columns key es reads

    pub same_groups : groups at es f as' ≡ groups at es s bs
    same_groups = λ i. map (λ key. record { cells = key ++ map only_value (same_group_columns key i); causes = flat_map column_causes (same_group_columns key i) }) (same_keys i)
