-- Values of a select sorted by keys beside them.
use Rattle.std.proofs.Common.{◌≡◌, ◌≢◌, inl, inr, ℕ, suc, Bool, true, false, not, cond, List, [], ◌∷◌, ◌++◌, length, take, drop, get_or, Some, None, refl, sym, ap, subst, ◌∙◌, arith}
use Rattle.std.specs.Prelude.{⊤, IsTrue, map, unwrap_or}
use Rattle.std.specs.Cmp.{nat_eq_equiv}
use Rattle.std.specs.Cmp.Lexicographic.{bytes_decides, lists_equiv}
use Rattle.std.specs.List.{AllByRecursion}
use Rattle.std.specs.Ordering.{is_lt}
use Rattle.std.specs.Str.{bytes_eq}
use Rattle.std.proofs.lemmas.List.{length-map, map-append}
use Rattle.ps_frame.proofs.Lists.{both}
use Rattle.ps_frame.proofs.Names.{not-true, or-parts}
use Rattle.ps_frame.specs.Causes.{Cause, Cell, Column, value, cell_values, is_empty}
use Rattle.ps_frame.specs.Eval.{eval, eval_all}
use Rattle.ps_frame.specs.Frames.{has_distinct_names, has_name}
use Rattle.ps_frame.specs.Functions.{Functions}
use Rattle.ps_frame.specs.Sorting.{Direction, directions_of, in_order, in_order_of_keys, keys_cmp}
use Rattle.ps_frame.specs.Tables.{Fields, Table, column_at, columns_of, field_index, field_kind, no_rows, values_at_some}
use Rattle.ps_frame.specs.Trees.{Tree, Trees}
use Rattle.ps_frame.specs.Typing.{tree_count}
use Rattle.ps_frame.specs.Zip.{Zipped, below, cell_in_row, extents, is_faulty_row, rows_before_fault, zip_length, zipped}
use Rattle.ps_frame.specs.declared.value.DataType.{DataType}
use Rattle.ps_frame.specs.declared.value.Value.{Value}
use Rattle.ps_frame.specs.declared.value.Value.TheVariants as val
use Rattle.ps_meaning.proofs.EvalFits.{first-place, next-place}
use Rattle.ps_meaning.specs.Cases.{Case, columns_at, if_whole, keyed, lost_causes, out_schema, sorted_rows, table_of, width}
use Rattle.ps_meaning.specs.Distinct.{picked}
use Rattle.ps_meaning.specs.Schemas.{both as both_of, fields_of, named_fields, names_of}
use Rattle.ps_meaning.specs.Steps.{Name, SortStep, exprs_of, project, select, sort}
use Rattle.ps_shares.specs.CallLaws.{SortBysShow, listed}
use Rattle.ps_shares.specs.Shares.{Shows}
use Rattle.ps_rules.specs.Slots.{columns_named, under}
use Rattle.ps_shares.proofs.Aggregated.{map_again, same_shows}
use Rattle.ps_shares.proofs.Leaves.{get_all}
use Rattle.ps_shares.proofs.Shares.{cons_as, cons_is, nothing_shows, row_values}
use Rattle.ps_shares.proofs.Stepped.{AsZip, empty, in_order_map, keyed_broken, keyed_rows, one_back, one_wide, selected, those_at}
use Rattle.ps_shares.proofs.ZipShares.{inputs_show}

-- the places from one on, as many as there are fields
abbrev pub from : ℕ → Fields → List ℕ
from k [] = []
from k (f ∷ fs) = k ∷ from (suc k) fs

-- each field stands where its name is found
abbrev pub Placed : Fields → Fields → ℕ → Type 0
Placed s [] k = ⊤
Placed s (g ∷ gs) k = (field_index g.0 s ≡ Some k) × Placed s gs (suc k)

placed_later : (f : Name × DataType) (fs gs : Fields) (k : ℕ) → has_name f.0 gs ≡ false → Placed fs gs k → Placed (f ∷ fs) gs (suc k)
placed_later f fs [] k none h = tt
placed_later f fs (g ∷ gs) k none h =
    let p = or-parts (bytes_eq f.0 g.0) (has_name f.0 gs) none in
    let apart : bytes_eq g.0 f.0 ≡ false = (lists_equiv nat_eq_equiv).symm g.0 f.0 ∙ p.0 in
    (next-place g.0 f fs k apart h.0, placed_later f fs gs (suc k) p.1 h.1)

pub own_places : (s : Fields) → IsTrue (has_distinct_names s) → Placed s s 0
own_places [] d = tt
own_places (f ∷ fs) d =
    let p = both (not (has_name f.0 fs)) (has_distinct_names fs) d in
    (first-place f.0 f fs ((bytes_decides f.0 f.0).1 refl), placed_later f fs fs 0 (not-true (has_name f.0 fs) p.0) (own_places fs p.1))

pub placed_columns : (at : ℕ) (P : Table) (gs : Fields) (k : ℕ) → Placed P.schema gs k → columns_at at (columns_named (names_of gs)) P ≡ map (λ j. column_at j P) (from k gs)
placed_columns at P [] k h = refl
placed_columns at P (g ∷ gs) k h =
    let q = placed_columns at P gs (suc k) h.1 in
    let i = h.0 in
    λ x. record { cells = map value (values_at_some (i x) P.rows); broken = P.broken; lost = [] } ∷ q x

-- rows of a zip are as wide as it has columns
module _ (cs : List Column) where
  abbrev IsWide : List Value → Type 0
  IsWide row = length row ≡ length cs

  wide_step : (x : List Cell) (xs : List (List Cell)) (b : Bool) → length x ≡ length cs → is_faulty_row x ≡ b → AllByRecursion IsWide (rows_before_fault xs) → AllByRecursion IsWide (cons_as x xs b)
  wide_step x xs true l h rest = tt
  wide_step x xs false l h rest = (sym (ap length (row_values x h) ∙ length-map (cell_values x) value) ∙ l, rest)

  pub wide_rows : (ns : List ℕ) → AllByRecursion IsWide (rows_before_fault (map (λ i. map (cell_in_row false i) cs) ns))
  wide_rows [] = tt
  wide_rows (n ∷ ns) =
      let x = map (cell_in_row false n) cs in
      let xs = map (λ i. map (cell_in_row false i) cs) ns in
      subst (AllByRecursion IsWide) (sym (cons_is x xs (is_faulty_row x) refl)) (wide_step x xs (is_faulty_row x) (length-map cs (cell_in_row false n)) refl (wide_rows ns))

take_own : (xs ys : List Value) → take (length xs) (xs ++ ys) ≡ xs
take_own [] ys = refl
take_own (x ∷ xs) ys = ap (λ zs. x ∷ zs) (take_own xs ys)

drop_own : (xs ys : List Value) → drop (length xs) (xs ++ ys) ≡ ys
drop_own [] ys = refl
drop_own (x ∷ xs) ys = drop_own xs ys

picked_shift : (v : Value) (vs : List Value) (k : ℕ) (fs : Fields) → picked (from (suc k) fs) (v ∷ vs) ≡ picked (from k fs) vs
picked_shift v vs k [] = refl
picked_shift v vs k (f ∷ fs) = ap (λ ws. get_or vs k val.Null ∷ ws) (picked_shift v vs (suc k) fs)

picked_own : (vs : List Value) (fs : Fields) → length vs ≡ length fs → picked (from 0 fs) vs ≡ vs
picked_own [] [] e = refl
picked_own [] (f ∷ fs) e = cc
picked_own (v ∷ vs) [] e = cc
picked_own (v ∷ vs) (f ∷ fs) e = ap (λ ws. v ∷ ws) (picked_shift v vs 0 fs ∙ picked_own vs fs (omega (arith, e)))

abbrev keyed_item : List Value → List Value × List Value
keyed_item row = (drop 1 row, row)

module _ (fs : Fields) where
  abbrev pub w : ℕ
  w = suc (length fs)

  abbrev pub all_places : List ℕ
  all_places = below w ++ from 1 fs

  abbrev item_of : List Value → List Value × List Value
  item_of row = (drop w row, take w row)

  item_is : (row : List Value) → length row ≡ w → item_of (picked all_places row) ≡ keyed_item row
  item_is [] e = cc
  item_is (v ∷ vs) e =
      let l : length vs ≡ length fs = omega (arith, e) in
      let a : picked (below w) (v ∷ vs) ≡ v ∷ vs = ap (λ n. picked (below n) (v ∷ vs)) (sym e) ∙ get_all (v ∷ vs) val.Null in
      let b : picked (from 1 fs) (v ∷ vs) ≡ vs = picked_shift v vs 0 fs ∙ picked_own vs fs l in
      let c : picked all_places (v ∷ vs) ≡ (v ∷ vs) ++ vs = map-append (λ k. get_or (v ∷ vs) k val.Null) (below w) (from 1 fs) ∙ (λ i. a i ++ b i) in
      let d = ap (λ n. drop n ((v ∷ vs) ++ vs)) (sym e) ∙ drop_own (v ∷ vs) vs in
      let t = ap (λ n. take n ((v ∷ vs) ++ vs)) (sym e) ∙ take_own (v ∷ vs) vs in
      ap item_of c ∙ (λ i. (d i, t i))

  items_are : (rows : List (List Value)) → AllByRecursion (λ (row : List Value). length row ≡ w) rows → map item_of (map (picked all_places) rows) ≡ map keyed_item rows
  items_are [] all = refl
  items_are (row ∷ rows) all = let p = item_is row all.0 in let q = items_are rows all.1 in λ i. p i ∷ q i

-- items that are changed after or before they are sorted
sorted_change : {A B : Type 0} (ds : List Direction) (g : A → B) (items : List (List Value × A)) → in_order_of_keys ds (map (λ p. (p.0, g p.1)) items) ≡ map g (in_order_of_keys ds items)
sorted_change {A} {B} ds g items =
    let f : List Value × A → List Value × B = λ p. (p.0, g p.1) in
    let less : List Value × A → List Value × A → Bool = λ p q. is_lt (keys_cmp ds p.0 q.0) in
    ap (map (λ p. p.1)) (in_order_map f (λ p q. is_lt (keys_cmp ds p.0 q.0)) items)
    ∙ map_again (λ (p : List Value × B). p.1) f (in_order less items)
    ∙ sym (map_again g (λ (p : List Value × A). p.1) (in_order less items))

abbrev valued_item : List Value → List Value × Value
valued_item row = (drop 1 row, get_or row 0 val.Null)

firsts : (ds : List Direction) (rows : List (List Value)) → map (picked (0 ∷ [])) (in_order_of_keys ds (map keyed_item rows)) ≡ map (λ v. v ∷ []) (in_order_of_keys ds (map valued_item rows))
firsts ds rows =
    sym (sorted_change ds (picked (0 ∷ [])) (map keyed_item rows))
    ∙ ap (in_order_of_keys ds) (same rows)
    ∙ sorted_change ds (λ v. v ∷ []) (map valued_item rows)
  where
    same : (rows : List (List Value)) → map {B = List Value × List Value} (λ (p : List Value × List Value). (p.0, picked (0 ∷ []) p.1)) (map keyed_item rows) ≡ map {B = List Value × List Value} (λ (p : List Value × Value). (p.0, p.1 ∷ [])) (map valued_item rows)
    same [] = refl
    same (row ∷ rows) = ap (λ ps. (drop 1 row, get_or row 0 val.Null ∷ []) ∷ ps) (same rows)

pub trees_columns : (at : ℕ) (t : Table) (es : Trees) → columns_at at (listed es) t ≡ eval_all at t es
trees_columns at t Trees.no_trees = refl
trees_columns at t (Trees.tree e es) = ap (λ cs. eval at t e ∷ cs) (trees_columns at t es)

pub count_listed : (es : Trees) → length (listed es) ≡ tree_count es
count_listed Trees.no_trees = refl
count_listed (Trees.tree e es) = ap suc (count_listed es)

pub exprs_under : (ns : List Name) (es : List Tree) → length ns ≡ length es → exprs_of (under ns es) ≡ es
exprs_under [] [] e = refl
exprs_under [] (x ∷ es) e = cc
exprs_under (n ∷ ns) [] e = cc
exprs_under (n ∷ ns) (x ∷ es) e = ap (λ xs. x ∷ xs) (exprs_under ns es (omega (arith, e)))

pub eval_count : (at : ℕ) (t : Table) (es : Trees) → length (eval_all at t es) ≡ tree_count es
eval_count at t Trees.no_trees = refl
eval_count at t (Trees.tree e es) = ap suc (eval_count at t es)

module _ (F : Functions) (at : ℕ) (m : Name) (ns : List Name) (d n : List Bool) (e : Tree) (by : Trees) (k : DataType) (fs : Fields) (t P S R : Table) (named : names_of fs ≡ ns) (count : length ns ≡ tree_count by)
    (fields : P.schema ≡ (m, k) ∷ fs) (distinct : IsTrue (has_distinct_names ((m, k) ∷ fs))) (as_zip : AsZip (zipped false at (eval at t e ∷ eval_all at t by)) P)
    (then_project : Case F at (project (m ∷ [])) (S ∷ []) R) where
  abbrev pub o : SortStep
  o = record { keys = columns_named ns; descending = d; nulls_last = n; cut = None }

  abbrev ds : List Direction
  ds = directions_of (tree_count by) d n

  abbrev cs : List Column
  cs = eval at t e ∷ eval_all at t by

  abbrev pub Z : Zipped
  Z = zipped false at cs

  abbrev sorted : Column
  sorted = eval at t (Tree.sort_by d n e by)

  abbrev pub y : Zipped
  y = zipped false at (those_at at P (all_places fs))

  pub keyed_as : keyed at o.keys P ≡ y
  keyed_as =
      let p = placed_columns at P fs 1 (subst (λ s. Placed s fs 1) (sym fields) (own_places ((m, k) ∷ fs) distinct).1) in
      let c : columns_of P ≡ map (λ j. column_at j P) (below (w fs)) = ap (λ s. map (λ j. column_at j P) (below (length s))) fields in
      let keys : columns_at at (columns_named ns) P ≡ map (λ j. column_at j P) (from 1 fs) = ap (λ ns. columns_at at (columns_named ns) P) (sym named) ∙ p in
      ap (zipped false at) ((λ i. c i ++ keys i) ∙ sym (map-append (λ j. column_at j P) (below (w fs)) (from 1 fs)))

  pub places_are : (j : ℕ) × (js : List ℕ) × (all_places fs ≡ j ∷ js)
  places_are = first (below (length fs))
    where
      first : (xs : List ℕ) → (j : ℕ) × (js : List ℕ) × ((xs ++ length fs ∷ []) ++ from 1 fs ≡ j ∷ js)
      first [] = (length fs, from 1 fs, refl)
      first (x ∷ xs) = (x, (xs ++ length fs ∷ []) ++ from 1 fs, refl)

  rows_keyed : y.rows ≡ map (picked (all_places fs)) P.rows
  rows_keyed =
      let q = places_are in
      ap (λ js. (zipped false at (those_at at P js)).rows) q.2 ∙ keyed_rows at P q.0 q.1 ∙ sym (ap (λ js. map (picked js) P.rows) q.2)

  pub whole_if : y.broken ≡ [] → P.broken ≡ []
  whole_if none = let q = places_are in keyed_broken at P q.0 q.1 (sym (ap (λ js. (zipped false at (those_at at P js)).broken) q.2) ∙ none)

  key_count : directions_of (length o.keys) d n ≡ ds
  key_count = ap (λ n'. directions_of n' d n) (length-map ns (λ n. Tree.column n) ∙ count)

  pub project_is : S.schema ≡ (m, k) ∷ fs → R ≡ record { schema = (m, k) ∷ []; rows = map (picked (0 ∷ [])) S.rows; broken = S.broken }
  project_is s = given then_project
    where
      index : field_index m S.schema ≡ Some 0
      index = ap (field_index m) s ∙ (own_places ((m, k) ∷ fs) distinct).0

      out : out_schema F at (project (m ∷ [])) (S ∷ []) ≡ (m, k) ∷ []
      out = ap (λ s. unwrap_or (named_fields (m ∷ []) s) []) s ∙ ap (λ b. unwrap_or (both_of (λ k fs. (m, k) ∷ fs) (cond b (Some k) (field_kind m fs)) (Some [])) []) ((bytes_decides m m).1 refl)

      given : Case F at (project (m ∷ [])) (S ∷ []) R → R ≡ record { schema = (m, k) ∷ []; rows = map (picked (0 ∷ [])) S.rows; broken = S.broken }
      given (U, inl g, e') = e' ∙ g ∙ (λ i. record { schema = out i; rows = map (picked (unwrap_or (index i) 0 ∷ [])) S.rows; broken = S.broken })
      given (U, inr (V, g, some, u), e') = absurd (some refl)

  whole_shows : P.rows ≡ Z.rows → is_empty P.broken ≡ is_empty Z.broken → y.broken ≡ [] → S ≡ table_of P.schema (sorted_rows o (width P)) y → Shows R (sorted ∷ [])
  whole_shows rows broken clear is =
      let vs = in_order_of_keys ds (map valued_item Z.rows) in
      let T : Table = record { schema = (m, k) ∷ []; rows = map (λ v. v ∷ []) vs; broken = [] } in
      let wide : AllByRecursion (λ (row : List Value). length row ≡ w fs) Z.rows =
      subst (λ l. AllByRecursion (λ (row : List Value). length row ≡ l) Z.rows) (ap suc (eval_count at t by ∙ sym count ∙ ap length (sym named) ∙ length-map fs (λ f. f.0))) (wide_rows cs (below (zip_length false (extents cs)))) in
      let sorted_is : S.rows ≡ in_order_of_keys ds (map keyed_item Z.rows) =
      ap (λ (T : Table). T.rows) is
      ∙ (λ i. in_order_of_keys (key_count i) (map (λ row. (drop (length (fields i)) row, take (length (fields i)) row)) y.rows))
      ∙ ap (λ rows. in_order_of_keys ds (map (item_of fs) rows)) (rows_keyed ∙ ap (map (picked (all_places fs))) rows)
      ∙ ap (in_order_of_keys ds) (items_are fs Z.rows wide) in
      let kept = ap (map (picked (0 ∷ []))) sorted_is ∙ firsts ds Z.rows in
      let schema : S.schema ≡ (m, k) ∷ fs = ap (λ (T : Table). T.schema) is ∙ fields in
      let whole : S.broken ≡ [] = ap (λ (T : Table). T.broken) is ∙ clear in
      let same : R ≡ T = project_is schema ∙ (λ i. record { schema = (m, k) ∷ []; rows = kept i; broken = whole i }) in
      let none : Z.broken ≡ [] = empty Z.broken (ap not (sym broken ∙ ap is_empty (whole_if clear))) in
      let cells : sorted.cells ≡ map value vs = ap (λ b. cond (is_empty b) (map value vs) []) none in
      subst (λ U. Shows U (sorted ∷ [])) (sym same) (same_shows T (column_at 0 T) sorted (ap (map value) (one_back vs) ∙ sym cells) (sym none) (inputs_show T (one_wide vs) (λ none. cc)))

  broken_shows : (b : List Cause) → b ≢ [] → S.schema ≡ (m, k) ∷ fs → S.rows ≡ [] → S.broken ≡ b → Shows R (sorted ∷ [])
  broken_shows b some schema rows is =
      let r = project_is schema in
      nothing_shows (sorted ∷ []) R (ap (λ (T : Table). T.rows) r ∙ ap (map (picked (0 ∷ []))) rows) (λ none. some (sym is ∙ sym (ap (λ (T : Table). T.broken) r) ∙ none))

  by_broken : (b : List Cause) → y.broken ≡ b → S ≡ if_whole P.schema y.broken (table_of P.schema (sorted_rows o (width P)) y) → AsZip Z P → Shows R (sorted ∷ [])
  by_broken (x ∷ xs) q is zip =
      let s : S ≡ no_rows P.schema (x ∷ xs) = is ∙ ap (λ b. if_whole P.schema b (table_of P.schema (sorted_rows o (width P)) y)) q in
      broken_shows (x ∷ xs) (λ none. cc) (ap (λ (T : Table). T.schema) s ∙ fields) (ap (λ (T : Table). T.rows) s) (ap (λ (T : Table). T.broken) s)
  by_broken [] q is (inr (rows, some)) = absurd (some (whole_if q))
  by_broken [] q is (inl (rows, broken)) = whole_shows rows broken q (is ∙ ap (λ b. if_whole P.schema b (table_of P.schema (sorted_rows o (width P)) y)) q)

  pub sort_by_shows : Case F at (sort o) (P ∷ []) S → Shows R (sorted ∷ [])
  sort_by_shows (U, inl g, e') = by_broken y.broken refl (e' ∙ g ∙ ap (λ z. if_whole P.schema z.broken (table_of P.schema (sorted_rows o (width P)) z)) keyed_as) as_zip
  sort_by_shows (U, inr (V, g, some, u), e') =
      let z = keyed at o.keys P in
      let v : V.schema ≡ P.schema = ap (λ (T : Table). T.schema) g ∙ schema_of z.broken (table_of P.schema (sorted_rows o (width P)) z) refl in
      let s = e' ∙ u in
      broken_shows (lost_causes F at (sort o) (P ∷ []) V.rows) some (ap (λ (T : Table). T.schema) s ∙ v ∙ fields) (ap (λ (T : Table). T.rows) s) (ap (λ (T : Table). T.broken) s)
    where
      schema_of : (b : List Cause) (T : Table) → T.schema ≡ P.schema → (if_whole P.schema b T).schema ≡ P.schema
      schema_of [] T h = h
      schema_of (x ∷ xs) T h = refl

pub sort_bys_show : SortBysShow
sort_bys_show F at m ns d n e by k fs t P S R named count typed distinct gives case then_project =
    let g = selected F at (under (m ∷ ns) (e ∷ listed by)) t P gives in
    let q = ap (λ xs. eval at t e ∷ columns_at at xs t) (exprs_under ns (listed by) (count ∙ sym (count_listed by))) ∙ ap (λ xs. eval at t e ∷ xs) (trees_columns at t by) in
    sort_by_shows F at m ns d n e by k fs t P S R named count (g.0 ∙ ap (λ o. unwrap_or o []) typed) distinct (subst (λ xs. AsZip (zipped false at xs) P) q g.1) then_project case
