-- What a group of own columns gives: a row of its key.
use Rattle.std.proofs.Common.{◌≡◌, ◌≢◌, inl, inr, ℕ, ◌+◌, ◌<◌, Bool, true, false, not, cond, List, [], ◌∷◌, ◌++◌, length, take, get_or, Some, refl, sym, ap, subst, ◌∙◌, arith, length-append}
use Rattle.std.specs.Prelude.{flat_map, map, unwrap_or, ◌||◌, if◌then◌else◌}
use Rattle.std.specs.List.{AllByRecursion, list_any}
use Rattle.std.specs.Str.{bytes_eq}
use Rattle.std.specs.Cmp.Lexicographic.{bytes_decides}
use Rattle.std.proofs.Math.Seq.{take-length}
use Rattle.std.proofs.lemmas.List.{get_or-map, length-map, map-append}
use Rattle.std.proofs.lemmas.List.Quantifiers.{position-Some}
use Rattle.ps_frame.proofs.NamePlaces.{is_some-position}
use Rattle.ps_frame.specs.Aggregates.{aggregate_column}
use Rattle.ps_frame.specs.Causes.{Column, value, cell_values, column_causes, has_cause, is_empty}
use Rattle.ps_frame.specs.Eval.{eval}
use Rattle.ps_frame.specs.Frames.{has_distinct_names, has_name}
use Rattle.ps_frame.specs.Tables.{Fields, Table, field_index, field_kind, table_column, values_at_some}
use Rattle.ps_frame.specs.Trees.{Aggregation, Tree}
use Rattle.ps_frame.specs.Values.{same_row}
use Rattle.ps_frame.specs.declared.value.DataType.{DataType}
use Rattle.ps_frame.specs.declared.value.DataType.TheVariants as kind
use Rattle.ps_frame.specs.declared.value.Value.{Value}
use Rattle.ps_frame.specs.declared.value.Value.TheVariants as val
use Rattle.ps_meaning.specs.Cases.{keyed}
use Rattle.ps_meaning.specs.Distinct.{distinct_rows, picked, places_in}
use Rattle.ps_meaning.specs.Groups.{Group, group_causes_lost, group_of, group_rows, groups, keys_of, only_value, rows_before_faulty, rows_of_key}
use Rattle.ps_meaning.proofs.Fits.{all-map, all-of}
use Rattle.ps_meaning.proofs.StepFits.{distinct-all}
use Rattle.ps_meaning.specs.Schemas.{is_among, names_of}
use Rattle.ps_meaning.specs.Steps.{Name}
use Rattle.ps_rules.specs.Slots.{columns_named}
use Rattle.ps_shares.proofs.Aggregated.{map_again}
use Rattle.ps_shares.proofs.ClearZips.{no_causes}
use Rattle.ps_shares.proofs.Projected.{named_as, place_of}
use Rattle.ps_bundles.proofs.ZipEnds.{values_back}
use Rattle.ps_keys.proofs.SameRows.{same_row-is}
use Rattle.ps_shares.proofs.Members.{Has}
use Rattle.picked_zips.proofs.Fronts.{own_front}
use Rattle.picked_zips.proofs.Members.{map_each, of_those}
use Rattle.keyed_calls.specs.Keyed.{AllStand}
use Rattle.distinct_parts.proofs.FirstRows.{keys_there, with_key}
use Rattle.distinct_parts.proofs.KeyedColumns.{b_keys, b_of_key, kp}
use Rattle.distinct_parts.proofs.Picks.{Picks}

-- the picked value of a column of rows
module _ (a : Aggregation) (picks : Picks a) (at : ℕ) (s : Fields) (rows : List (List Value)) where
  abbrev pub gt : Table
  gt = record { schema = s; rows = rows; broken = [] }

  abbrev pub picked_of : Name → Tree
  picked_of n = Tree.aggregate a (Tree.column n)

  abbrev values : Name → List Value
  values n = values_at_some (field_index n s) rows

  pub picked_column : (n : Name) → eval at gt (picked_of n) ≡ record { cells = value (picks.value (values n)) ∷ []; broken = []; lost = [] }
  picked_column n =
      let none = no_causes (values n) in
      let clear : has_cause (table_column n gt) ≡ false = ap (λ xs. not (is_empty (xs ++ []))) none in
      ap (λ b. cond {A = Column} (b || false) (record { cells = []; broken = flat_map column_causes (table_column n gt ∷ []); lost = [] }) (record (aggregate_column at a (field_kind n s) (cell_values (map value (values n)))) { lost = [] })) clear
      ∙ ap (λ vs. record (aggregate_column at a (field_kind n s) vs) { lost = [] }) (values_back (values n))
      ∙ ap (λ (c : Column). record c { lost = [] }) (picks.column at (field_kind n s) (values n))

  picked_value : (n : Name) (j : ℕ) → field_index n s ≡ Some j → picks.value (values n) ≡ get_or (picks.row rows) j val.Null
  picked_value n j e = ap (λ o. picks.value (values_at_some o rows)) e ∙ picks.of_rows j rows

  only_picked : (ns : List Name) → AllStand s ns → map only_value (map (eval at gt) (map picked_of ns)) ≡ picked (places_in ns s) (picks.row rows)
  only_picked [] placed = refl
  only_picked (n ∷ ns) placed =
      let j = placed.0.0 in
      let first = ap only_value (picked_column n) ∙ picked_value n j placed.0.1 ∙ sym (ap (λ o. get_or (picks.row rows) (unwrap_or o 0) val.Null) placed.0.1) in
      let rest = only_picked ns placed.1 in
      λ i. first i ∷ rest i

  no_cause : (ns : List Name) → flat_map column_causes (map (eval at gt) (map picked_of ns)) ≡ []
  no_cause [] = refl
  no_cause (n ∷ ns) = let p = ap column_causes (picked_column n) in let q = no_cause ns in λ i. p i ++ q i

  pub none_lost : (ns : List Name) → flat_map (λ (c : Column). c.lost) (map (eval at gt) (map picked_of ns)) ≡ []
  none_lost [] = refl
  none_lost (n ∷ ns) = let p = ap (λ (c : Column). c.lost) (picked_column n) in let q = none_lost ns in λ i. p i ++ q i

all_has : {A : Type 0} (P : A → Type 0) (xs : List A) (x : A) → AllByRecursion P xs → Has xs x → P x
all_has P [] x all h = absurd h
all_has P (y ∷ xs) x all (inl e) = subst P e all.0
all_has P (y ∷ xs) x all (inr h) = all_has P xs x all.1 h

-- values at places of named values
picked_named : (ns all : List Name) (s g : Fields) (row : List Value) → names_of g ≡ ns → ((n : Name) → is_among n all ≡ true → is_among n ns ≡ true) → picked (places_in all g) (picked (places_in ns s) row) ≡ picked (places_in all s) row
picked_named ns [] s g row is within = refl
picked_named ns (n ∷ all) s g row is within =
    let head : is_among n (n ∷ all) ≡ true = ap (λ b. b || is_among n all) ((bytes_decides n n).1 refl) in
    let there : has_name n g ≡ true = sym (named_as n g) ∙ ap (is_among n) is ∙ within n head in
    let K = place_of (field_index n g) (is_some-position (λ f. bytes_eq n f.0) g ∙ there) in
    let k = K.0 in
    let none : Name × DataType = (n, kind.Boolean) in
    let p = position-Some (λ f. bytes_eq n f.0) g k none K.1 in
    let lt : k < length ns = subst (λ m. k < m) (sym (length-map g (λ f. f.0)) ∙ ap length is) p.0 in
    let own : n ≡ (get_or g k none).0 = (bytes_decides n (get_or g k none).0).0 p.1 in
    let stands : get_or ns k n ≡ n = ap (λ ns. get_or ns k n) (sym is) ∙ get_or-map (λ (f : Name × DataType). f.0) g k none n p.0 ∙ sym own in
    let lt' : k < length (places_in ns s) = subst (λ m. k < m) (sym (length-map ns (λ n. unwrap_or (field_index n s) 0))) lt in
    let first =
    ap (λ o. get_or (picked (places_in ns s) row) (unwrap_or o 0) val.Null) K.1
    ∙ get_or-map (λ m. get_or row m val.Null) (places_in ns s) k 0 val.Null lt'
    ∙ ap (λ m. get_or row m val.Null) (get_or-map (λ n. unwrap_or (field_index n s) 0) ns k n 0 lt ∙ ap (λ n. unwrap_or (field_index n s) 0) stands) in
    let rest = picked_named ns all s g row is (λ m h. within m (right (bytes_eq m n) (is_among m all) h)) in
    λ i. first i ∷ rest i
  where
    right : (a b : Bool) → b ≡ true → (a || b) ≡ true
    right true b h = refl
    right false b h = h

-- Groups of a table by columns of its own, with the picked value of each other column.
module _ (a : Aggregation) (picks : Picks a) (at : ℕ) (t : Table) (keys others : List Name) (placed : AllStand t.schema keys) (others_placed : AllStand t.schema others) (some : t.schema ≢ []) (wide : AllByRecursion (λ (row : List Value). length row ≡ length t.schema) t.rows)
    (distinct : has_distinct_names t.schema ≡ true) (g : Fields) (named : names_of g ≡ keys ++ others) (covers : (n : Name) → is_among n (names_of t.schema) ≡ true → is_among n (keys ++ others) ≡ true) where
  abbrev s : Fields
  s = t.schema

  abbrev rows : List (List Value)
  rows = (keyed at (columns_named keys) t).rows

  abbrev aggs : List Tree
  aggs = map (picked_of a picks at s rows) others

  abbrev places : List ℕ
  places = kp at t keys placed some

  abbrev pub row_of : List Value → List Value
  row_of key = picks.row (with_key places key t.rows)

  -- the cells of the group of a key that is there
  pub cells_are : (key : List Value) → picked places (row_of key) ≡ key → (group_of at aggs s rows key).cells ≡ picked (places_in (keys ++ others) s) (row_of key)
  cells_are key own =
      let is : rows_of_key (length s) key rows ≡ with_key places key t.rows = b_of_key at t keys placed some wide key in
      let values = ap (λ rs. map only_value (map (eval at (record { schema = s; rows = rs; broken = [] })) aggs)) is ∙ only_picked a picks at s (with_key places key t.rows) others others_placed in
      (λ i. sym own i ++ values i) ∙ sym (ap (λ js. picked js (row_of key)) (map-append (λ n. unwrap_or (field_index n s) 0) keys others) ∙ map-append (λ k. get_or (row_of key) k val.Null) (places_in keys s) (places_in others s))

  pub no_causes_in : (key : List Value) → (group_of at aggs s rows key).causes ≡ []
  no_causes_in key = no_cause a picks at s (rows_of_key (length s) key rows) others

  -- the columns of the table in order
  abbrev pub restore : List Value → List Value
  restore cells = picked (places_in (names_of s) g) cells

  pub restored : (key : List Value) → picked places (row_of key) ≡ key → length (row_of key) ≡ length s → restore (group_of at aggs s rows key).cells ≡ row_of key
  restored key own long =
      ap restore (cells_are key own)
      ∙ picked_named (keys ++ others) (names_of s) s g (row_of key) named covers
      ∙ own_front s distinct (row_of key) (omega (arith, long))
      ∙ ap (λ n. take n (row_of key)) (sym long) ∙ take-length (row_of key)

  -- the row of a key that is there is one of its rows
  is_there : (key : List Value) → list_any (λ row. same_row key (picked places row)) t.rows ≡ true → Has (with_key places key t.rows) (row_of key)
  is_there key h = picks.one_of (with_key places key t.rows) (some_with t.rows h)
    where
      some_with : (rs : List (List Value)) → list_any (λ row. same_row key (picked places row)) rs ≡ true → with_key places key rs ≢ []
      some_with [] h = cc
      some_with (r ∷ rs) h = step (same_row key (picked places r)) h (some_with rs)
        where
          step : (b : Bool) → (b || list_any (λ row. same_row key (picked places row)) rs) ≡ true → (list_any (λ row. same_row key (picked places row)) rs ≡ true → with_key places key rs ≢ []) → cond b (r ∷ with_key places key rs) (with_key places key rs) ≢ []
          step true h rest = λ e. cc
          step false h rest = rest h

  pub row_key : (key : List Value) → list_any (λ row. same_row key (picked places row)) t.rows ≡ true → picked places (row_of key) ≡ key
  row_key key h = let r = of_those (λ row. same_row key (picked places row)) t.rows (row_of key) (is_there key h) in sym (same_row-is key (picked places (row_of key)) r.1)

  pub row_wide : (key : List Value) → list_any (λ row. same_row key (picked places row)) t.rows ≡ true → length (row_of key) ≡ length s
  row_wide key h = let r = of_those (λ row. same_row key (picked places row)) t.rows (row_of key) (is_there key h) in all_has (λ (row : List Value). length row ≡ length s) t.rows (row_of key) wide r.0

  abbrev pub all_groups : List Group
  all_groups = groups at aggs s rows

  -- one for each key, in order
  pub groups_restored : map (λ (g : Group). restore g.cells) all_groups ≡ map row_of (distinct_rows (map (picked places) t.rows))
  groups_restored =
      let ks = distinct_rows (map (picked places) t.rows) in
      map_again (λ (g : Group). restore g.cells) (group_of at aggs s rows) (keys_of (length s) rows)
      ∙ ap (λ ks. map (λ key. restore (group_of at aggs s rows key).cells) (distinct_rows ks)) (b_keys at t keys placed some wide)
      ∙ map_each (λ key. restore (group_of at aggs s rows key).cells) row_of (λ key. list_any (λ row. same_row key (picked places row)) t.rows ≡ true) (λ key h. restored key (row_key key h) (row_wide key h)) ks (keys_there places t.rows)

  -- with a value for each name
  pub groups_wide : AllByRecursion (λ (g : Group). length g.cells ≡ length keys + length others) all_groups
  groups_wide =
      all-map (λ (key : List Value). length key ≡ length keys) (λ (g : Group). length g.cells ≡ length keys + length others) (group_of at aggs s rows)
      (λ key long. length-append key (map only_value (map (λ e. eval at (group_rows s rows key) e) aggs)) ∙ (λ i. long i + (length-map (map (λ e. eval at (group_rows s rows key) e) aggs) only_value ∙ length-map aggs (λ e. eval at (group_rows s rows key) e) ∙ length-map others (picked_of a picks at s rows)) i))
      (keys_of (length s) rows)
      (subst (λ ks. AllByRecursion (λ (key : List Value). length key ≡ length keys) (distinct_rows ks)) (sym (b_keys at t keys placed some wide))
      (distinct-all (λ (key : List Value). length key ≡ length keys) (map (picked places) t.rows) (all-of (λ (key : List Value). length key ≡ length keys) (picked places) (λ row. length-map places (λ k. get_or row k val.Null) ∙ length-map keys (λ n. unwrap_or (field_index n s) 0)) t.rows)))

  pub groups_clear : AllByRecursion (λ (g : Group). g.causes ≡ []) all_groups
  groups_clear = all-of (λ (g : Group). g.causes ≡ []) (group_of at aggs s rows) no_causes_in (keys_of (length s) rows)

  pub groups_lose_none : group_causes_lost at aggs s rows ≡ []
  groups_lose_none = none_of (keys_of (length s) rows)
    where
      none_of : (ks : List (List Value)) → flat_map (λ key. flat_map (λ (c : Column). c.lost) (map (λ e. eval at (group_rows s rows key) e) aggs)) ks ≡ []
      none_of [] = refl
      none_of (k ∷ ks) = let p = none_lost a picks at s (rows_of_key (length s) k rows) others in let q = none_of ks in λ i. p i ++ q i

-- the table of groups that no cause breaks
pub clear_rows : (gs : List Group) → AllByRecursion (λ (g : Group). g.causes ≡ []) gs → rows_before_faulty gs ≡ map (λ (g : Group). g.cells) gs
clear_rows [] all = refl
clear_rows (g ∷ gs) all = ap (λ cs. if is_empty cs then g.cells ∷ rows_before_faulty gs else []) all.0 ∙ ap (λ rows. g.cells ∷ rows) (clear_rows gs all.1)

pub clear_causes : (gs : List Group) → AllByRecursion (λ (g : Group). g.causes ≡ []) gs → flat_map (λ (g : Group). g.causes) gs ≡ []
clear_causes [] all = refl
clear_causes (g ∷ gs) all = let p = all.0 in let q = clear_causes gs all.1 in λ i. p i ++ q i
