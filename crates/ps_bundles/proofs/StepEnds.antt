-- Sorts, filters and aggregates of what ends as expressions end as the sorts, filters and aggregates of these.
use Rattle.std.proofs.Common.{◌≡◌, ◌≢◌, ◌⊎◌, inl, inr, ℕ, zero, suc, Bool, true, false, not, cond, List, [], ◌∷◌, ◌++◌, length, drop, None, refl, sym, ap, subst, ◌∙◌, arith}
use Rattle.std.specs.Prelude.{IsTrue, Option, map, flat_map, filter as those, ◌==◌, ◌&&◌, ◌||◌}
use Rattle.std.specs.List.{AllByRecursion, list_any}
use Rattle.std.proofs.lemmas.Bool.{eqb-true}
use Rattle.ps_frame.specs.Aggregates.{aggregate_column}
use Rattle.ps_frame.specs.Causes.{Cause, Column, value, cell_causes, cell_values, column_causes, has_cause, is_empty, is_ended, whole_column}
use Rattle.ps_frame.specs.Eval.{at as item, eval, eval_all, from_whole, operand}
use Rattle.ps_frame.specs.Frames.{has_distinct_names}
use Rattle.ps_frame.specs.Functions.{Functions}
use Rattle.ps_frame.specs.Sorting.{directions_of, in_order_of_keys, values_in_order}
use Rattle.ps_frame.specs.Tables.{Fields, Table}
use Rattle.ps_frame.specs.Trees.{Aggregation, Tree, Trees}
use Rattle.ps_frame.specs.Typing.{kind_over, tree_count}
use Rattle.ps_frame.specs.Zip.{Extent, Zipped, broadcasts, extent_of, extents, unseen_causes, zip_length, zipped}
use Rattle.ps_frame.specs.declared.value.DataType.{DataType}
use Rattle.ps_frame.specs.declared.value.Value.{Value}
use Rattle.ps_meaning.proofs.Begins.{append-empty_left, append-empty_right}
use Rattle.ps_meaning.specs.Cases.{Case, if_whole, keyed, sorted_rows, table_of, where_true, width}
use Rattle.ps_meaning.specs.Distinct.{picked}
use Rattle.ps_meaning.specs.Schemas.{names_of}
use Rattle.ps_meaning.specs.Steps.{Name, SortStep, filter, project, select, sort}
use Rattle.ps_rules.specs.Slots.{columns_named}
use Rattle.ps_shares.specs.Kept.{HasNoOther, IsPartOf, all_causes}
use Rattle.ps_shares.specs.Shares.{IsClear, Shows}
use Rattle.ps_shares.proofs.Aggregated.{aggregate_as, aggregates_show, clear_is_whole, no_cause, same_values, whole_column_is}
use Rattle.ps_shares.proofs.KeySorts.{all_places, keyed_as as keys_as, places_are, project_is, sort_by_shows}
use Rattle.ps_shares.proofs.Leaves.{one_extent}
use Rattle.ps_shares.proofs.Members.{Has, from_has, to_has}
use Rattle.ps_shares.proofs.Stepped.{AsZip, filtered, filtered_as, first_back, keyed_as, keyed_broken, keyed_rows, keyed_whole, second_back, sort_shows, those_at, true_rows, two_wide}
use Rattle.ps_shares.proofs.ZipReach.{columns_show_all}
use Rattle.ps_shares.proofs.ZipShares.{inputs_show}
use Rattle.ps_bundles.specs.Endings.{AggregatesEnd, EndAs, Ends, FiltersEnd, SortBysEnd, SortsEnd, kept_predicate}
use Rattle.ps_bundles.proofs.ZipEnds.{LosesSome, columns_clear, differ, is_none, is_some, lost_in, lost_some, no_items, own_columns, rows_of_reach, selects_end, some_is, some_lost, zip_table, zip_table_shows}

-- How a broken table ends as a zip.
abbrev pub BrokenAs : List (List Value) → Zipped → Type 0
BrokenAs rows l = ((rows ≡ l.rows) × (l.broken ≢ [])) ⊎ ((rows ≡ []) × (l.lost ≢ []))

-- A table that shows columns ends as they do, where it does so once it is broken.
pub ends_by : (at : ℕ) (T : Table) (cs : List Column) → Shows T cs → (T.broken ≢ [] → BrokenAs T.rows (zipped false at cs)) → Ends at T cs
ends_by at T cs shows broken = by (is_empty T.broken) refl
  where
    over : is_empty T.broken ≡ false → BrokenAs T.rows (zipped false at cs) → Ends at T cs
    over q (inl (rows, some)) = inl (rows, q ∙ sym (some_is (zipped false at cs).broken some))
    over q (inr (rows, some)) = inr (rows, is_some T.broken q, some)

    by : (b : Bool) → is_empty T.broken ≡ b → Ends at T cs
    by true q =
        let w = shows.whole (is_none T.broken q) in
        let rows = rows_of_reach at T cs shows (inl w.1) in
        inl (rows, q ∙ sym (ap is_empty ((columns_show_all at [] cs).whole w.0 (sym (ap length rows) ∙ w.1))))
    by false q = over q (broken (is_some T.broken q))

pub as_zip : (z : Zipped) (P : Table) → EndAs P.rows P.broken z → AsZip z P
as_zip z P (inl (rows, alike)) = inl (rows, alike)
as_zip z P (inr (rows, broken, lost)) = inr (rows, broken)

-- zips of one column
pub one_count : (c : Column) → zip_length false (extents (c ∷ [])) ≡ length c.cells
one_count c = sym (ap (λ (e : Extent). e.len) (one_extent (extent_of c)))

pub one_lost : (at : ℕ) (c : Column) → (zipped false at (c ∷ [])).lost ≢ [] → c.lost ≢ []
one_lost at c some e = by (lost_some at (c ∷ []) some)
  where
    seen : (b : Bool) → broadcasts false (extent_of c) ≡ b → zip_length false (extents (c ∷ [])) ≡ 0 → unseen_causes false 0 (c ∷ []) ≡ []
    seen false q n = ap (λ b. flat_map (λ (c : Column). flat_map cell_causes c.cells) (cond b (c ∷ []) [])) q
    seen true q n =
        let one : length c.cells ≡ 1 = eqb-true (length c.cells) 1 (both (not (is_ended c)) (length c.cells == 1) q) in
        let count = one_count c in
        absurd (omega arith)
      where
        both : (a b : Bool) → (a && b) ≡ true → b ≡ true
        both true b h = h
        both false b h = cc

    by : LosesSome (c ∷ []) (zip_length false (extents (c ∷ []))) → ⊥
    by (inl l) = l (ap (λ xs. xs ++ []) e)
    by (inr (l, n)) = l (seen (broadcasts false (extent_of c)) refl n)

pub lost_one : (at : ℕ) (c : Column) → c.lost ≢ [] → (zipped false at (c ∷ [])).lost ≢ []
lost_one at c some = some_lost at (c ∷ []) (inl (λ e. some (append-empty_left c.lost [] e)))

-- a column that something ended before its first cell
pub ended_first : (at : ℕ) (c : Column) → c.cells ≡ [] → c.broken ≢ [] → ((zipped false at (c ∷ [])).rows ≡ []) × ((zipped false at (c ∷ [])).broken ≢ [])
ended_first at c none some =
    let few = (zip_table_shows at (c ∷ [])).few in
    let count = one_count c in
    let l = ap length none in (
      no_items (zipped false at (c ∷ [])).rows (omega arith),
      (λ e. some (append-empty_right (flat_map cell_causes c.cells) c.broken (whole_column_is at c e).0)),
    )

-- what takes a whole column
module _ (at : ℕ) (f : List (List Value) → Column) (c : Column) where
  abbrev W : Column
  W = from_whole f (c ∷ [])

  abbrev as_if : Bool → Column
  as_if b = cond b (record { cells = []; broken = flat_map column_causes (c ∷ []); lost = lost_in (c ∷ []) }) (record (f (map (λ (c : Column). cell_values c.cells) (c ∷ []))) { lost = lost_in (c ∷ []) })

  whole_loses : W.lost ≡ c.lost ++ []
  whole_loses = by (list_any has_cause (c ∷ []))
    where
      by : (b : Bool) → (as_if b).lost ≡ c.lost ++ []
      by true = refl
      by false = refl

  pub faulty_whole : column_causes c ≢ [] → W ≡ as_if true
  faulty_whole some = ap as_if (ap (λ b. not b || false) (some_is (column_causes c) some))

  pub broken_whole : (P : Table) (rows : List (List Value)) → rows ≡ [] → EndAs P.rows P.broken (zipped false at (c ∷ [])) → P.broken ≢ [] → BrokenAs rows (zipped false at (W ∷ []))
  broken_whole P rows none (inl (same, alike)) some =
      let causes : column_causes c ≢ [] = λ e. is_some (zipped false at (c ∷ [])).broken (sym alike ∙ some_is P.broken some) (clear_is_whole at c e) in
      let w = faulty_whole causes in
      let z = ended_first at W (ap (λ (c : Column). c.cells) w) (λ e. causes (append-empty_left (column_causes c) [] (sym (ap (λ (c : Column). c.broken) w) ∙ e))) in
      inl (none ∙ sym z.0, z.1)
  broken_whole P rows none (inr (same, broken, lost)) some =
      inr (none, lost_one at W (λ e. one_lost at c lost (append-empty_left c.lost [] (sym whole_loses ∙ e))))

-- what a step that needs its whole input gives, where that isn't whole
if_broken : (s : Fields) (b : List Cause) (T S : Table) → S ≡ if_whole s b T → T.broken ≡ b → S.broken ≢ [] → (S.rows ≡ []) × (b ≢ [])
if_broken s [] T S is same some = absurd (some (ap (λ (T : Table). T.broken) is ∙ same))
if_broken s (x ∷ xs) T S is same some = (ap (λ (T : Table). T.rows) is, (λ e. cc))

if_schema : (s : Fields) (b : List Cause) (T S : Table) → S ≡ if_whole s b T → T.schema ≡ s → S.schema ≡ s
if_schema s [] T S is same = ap (λ (T : Table). T.schema) is ∙ same
if_schema s (x ∷ xs) T S is same = ap (λ (T : Table). T.schema) is

-- columns of a table lose nothing
pub clear_lost : (at : ℕ) (cs : List Column) → AllByRecursion IsClear cs → (zipped false at cs).lost ≡ []
clear_lost at cs clear = by (zip_length false (extents cs))
  where
    nothing : (cs : List Column) → AllByRecursion IsClear cs → lost_in cs ≡ []
    nothing [] all = refl
    nothing (c ∷ cs) all = let p = all.0.1 in let q = nothing cs all.1 in λ i. p i ++ q i

    values : (vs : List Value) → flat_map cell_causes (map value vs) ≡ []
    values [] = refl
    values (v ∷ vs) = values vs

    unseen : (cs : List Column) → AllByRecursion IsClear cs → unseen_causes false 0 cs ≡ []
    unseen [] all = refl
    unseen (c ∷ cs) all = one (broadcasts false (extent_of c)) (unseen cs all.1)
      where
        one : (b : Bool) → unseen_causes false 0 cs ≡ [] → flat_map (λ (c : Column). flat_map cell_causes c.cells) (cond b (c ∷ those (λ c. broadcasts false (extent_of c)) cs) (those (λ c. broadcasts false (extent_of c)) cs)) ≡ []
        one true e = let p = ap (flat_map cell_causes) all.0.0.1 ∙ values all.0.0.0 in λ i. p i ++ e i
        one false e = e

    by : (n : ℕ) → lost_in cs ++ unseen_causes false n cs ≡ []
    by zero = let p = nothing cs clear in let q = unseen cs clear in λ i. p i ++ q i
    by (suc n) = let p = nothing cs clear in λ i. p i ++ []

-- sorts
module _ (F : Functions) (at : ℕ) (name : Name) (d n : Bool) (e : Tree) (k : DataType) (t P S : Table) (fields : P.schema ≡ (name, k) ∷ []) (ends : Ends at P (eval at t e ∷ [])) where
  abbrev step : SortStep
  step = record { keys = Tree.column name ∷ []; descending = d ∷ []; nulls_last = n ∷ []; cut = None }

  abbrev y : Zipped
  y = zipped false at (those_at at P (0 ∷ 0 ∷ []))

  abbrev zip : AsZip (zipped false at (eval at t e ∷ [])) P
  zip = as_zip (zipped false at (eval at t e ∷ [])) P ends

  keyed_is : keyed at step.keys P ≡ y
  keyed_is = keyed_as F at name d n e k t P S fields zip

  abbrev sorted_table : Table
  sorted_table = table_of P.schema (sorted_rows step (width P)) (keyed at step.keys P)

  sort_ends : Case F at (sort step) (P ∷ []) S → (S.schema ≡ (name, k) ∷ []) × Ends at S (eval at t (Tree.sort d n e) ∷ [])
  sort_ends (U, inl g, e') =
      let is : S ≡ if_whole P.schema (keyed at step.keys P).broken sorted_table = e' ∙ g in (
        if_schema P.schema (keyed at step.keys P).broken sorted_table S is refl ∙ fields,
        ends_by at S (eval at t (Tree.sort d n e) ∷ []) (sort_shows F at name d n e k t P S fields zip (U, inl g, e')) (λ some.
            let b = if_broken P.schema (keyed at step.keys P).broken sorted_table S is refl some in
            broken_whole at (λ vs. whole_column (values_in_order (record { descending = d; nulls_last = n }) (operand 0 vs))) (eval at t e) P S.rows b.0 ends (λ none. b.1 (ap (λ (z : Zipped). z.broken) keyed_is ∙ keyed_whole at P 0 (0 ∷ []) none))),
      )
  sort_ends (U, inr (V, g, some, u), e') = absurd (some (ap (λ (z : Zipped). z.lost) keyed_is ∙ clear_lost at (those_at at P (0 ∷ 0 ∷ [])) (columns_clear P (0 ∷ 0 ∷ []))))

pub sorts_end : SortsEnd
sorts_end F at name d n e k t P S fields ends case = sort_ends F at name d n e k t P S fields ends case

-- filters
module _ (F : Functions) (at : ℕ) (m n : Name) (e by : Tree) (k l : DataType) (t P S : Table) (apart : m ≢ n) (fields : P.schema ≡ (m, k) ∷ (n, l) ∷ []) (ends : Ends at P (eval at t e ∷ eval at t by ∷ [])) where
  abbrev Z : Zipped
  Z = zipped false at (eval at t e ∷ eval at t by ∷ [])

  abbrev x : Zipped
  x = zipped false at (those_at at P (0 ∷ 1 ∷ 1 ∷ []))

  abbrev both : AsZip Z P
  both = as_zip Z P ends

  abbrev shown : List Column
  shown = eval at t (Tree.filter e by) ∷ kept_predicate Z ∷ []

  keyed_for : keyed at (Tree.column n ∷ []) P ≡ x
  keyed_for = filtered_as F at m n e by k l t P S apart fields both

  as_broken : is_empty x.broken ≡ is_empty P.broken
  as_broken = cases (is_empty x.broken) (is_empty P.broken) refl refl
    where
      cases : (a b : Bool) → is_empty x.broken ≡ a → is_empty P.broken ≡ b → is_empty x.broken ≡ is_empty P.broken
      cases true true p q = p ∙ sym q
      cases false false p q = p ∙ sym q
      cases true false p q = absurd (differ (sym (ap is_empty (keyed_broken at P 0 (1 ∷ 1 ∷ []) (is_none x.broken p))) ∙ q))
      cases false true p q = absurd (differ (sym (ap is_empty (keyed_whole at P 0 (1 ∷ 1 ∷ []) (is_none P.broken q))) ∙ p))

  kept_ends : S ≡ table_of P.schema (where_true 2) x → EndAs P.rows P.broken Z → Ends at S shown
  kept_ends is (inl (rows, alike)) =
      let rs = true_rows F at m n e by k l t P S apart fields both Z.rows in
      let T : Table = record { schema = (m, k) ∷ (n, l) ∷ []; rows = map (picked (0 ∷ 1 ∷ [])) rs; broken = Z.broken } in
      let own = own_columns at T 0 (1 ∷ []) (inputs_show T (two_wide rs) (λ none. cc)) in
      let c0 = first_back rs in
      let c1 = second_back rs in
      let r = subst (λ cs. (T.rows ≡ (zipped false at cs).rows) × (is_empty T.broken ≡ is_empty (zipped false at cs).broken)) (λ i. record { cells = c0 i; broken = Z.broken; lost = [] } ∷ record { cells = c1 i; broken = Z.broken; lost = [] } ∷ []) own in
      inl (filtered F at m n e by k l t P S apart fields both is rows ∙ r.0, ap (λ (T : Table). is_empty T.broken) is ∙ as_broken ∙ alike ∙ r.1)
  kept_ends is (inr (rows, broken, lost)) =
      let none : where_true 2 x.rows ≡ [] = ap (where_true 2) (keyed_rows at P 0 (1 ∷ 1 ∷ []) ∙ ap (map (picked (0 ∷ 1 ∷ 1 ∷ []))) rows) in
      inr (
        ap (λ (T : Table). T.rows) is ∙ none,
        is_some S.broken (ap (λ (T : Table). is_empty T.broken) is ∙ as_broken ∙ some_is P.broken broken),
        some_lost at shown (inl (λ e. lost (append-empty_left Z.lost [] e))),
      )

  filter_ends : Case F at (filter (Tree.column n)) (P ∷ []) S → (S.schema ≡ (m, k) ∷ (n, l) ∷ []) × Ends at S shown
  filter_ends (U, inl g, e') =
      let is : S ≡ table_of P.schema (where_true 2) x = e' ∙ g ∙ (λ i. table_of P.schema (where_true (length (fields i))) (keyed_for i)) in
      (ap (λ (T : Table). T.schema) is ∙ fields, kept_ends is ends)
  filter_ends (U, inr (V, g, some, u), e') = absurd (some (ap (λ (z : Zipped). z.lost) keyed_for ∙ clear_lost at (those_at at P (0 ∷ 1 ∷ 1 ∷ [])) (columns_clear P (0 ∷ 1 ∷ 1 ∷ []))))

pub filters_end : FiltersEnd
filters_end F at m n e by k l t P S apart fields ends case = filter_ends F at m n e by k l t P S apart fields ends case

-- sorts by keys
module _ (F : Functions) (at : ℕ) (m : Name) (ns : List Name) (d n : List Bool) (e : Tree) (by : Trees) (k : DataType) (fs : Fields) (t P S R : Table) (named : names_of fs ≡ ns) (count : length ns ≡ tree_count by) (fields : P.schema ≡ (m, k) ∷ fs)
    (distinct : IsTrue (has_distinct_names ((m, k) ∷ fs))) (ends : Ends at P (eval at t e ∷ eval_all at t by)) (then_project : Case F at (project (m ∷ [])) (S ∷ []) R) where
  abbrev key_step : SortStep
  key_step = record { keys = columns_named ns; descending = d; nulls_last = n; cut = None }

  abbrev V : Zipped
  V = zipped false at (eval at t e ∷ eval_all at t by)

  abbrev sides : AsZip V P
  sides = as_zip V P ends

  abbrev K : Zipped
  K = zipped false at (those_at at P (all_places fs))

  abbrev sorted : Column
  sorted = eval at t (Tree.sort_by d n e by)

  keyed_by : keyed at key_step.keys P ≡ K
  keyed_by = keys_as F at m ns d n e by k fs t P S R named count fields distinct sides then_project

  goes_whole : P.broken ≡ [] → K.broken ≡ []
  goes_whole none =
      let q = places_are F at m ns d n e by k fs t P S R named count fields distinct sides then_project in
      ap (λ js. (zipped false at (those_at at P js)).broken) q.2 ∙ keyed_whole at P q.0 q.1 none

  project_of : S.schema ≡ (m, k) ∷ fs → R ≡ record { schema = (m, k) ∷ []; rows = map (picked (0 ∷ [])) S.rows; broken = S.broken }
  project_of = project_is F at m ns d n e by k fs t P S R named count fields distinct sides then_project

  abbrev sorted_over : Table
  sorted_over = table_of P.schema (sorted_rows key_step (width P)) (keyed at key_step.keys P)

  broken_sort : (rows : List (List Value)) → rows ≡ [] → EndAs P.rows P.broken V → P.broken ≢ [] → BrokenAs rows (zipped false at (sorted ∷ []))
  broken_sort rows none (inl (same, alike)) some =
      let b : V.broken ≢ [] = is_some V.broken (sym alike ∙ some_is P.broken some) in
      let z = ended_first at sorted (ap (λ b. cond b (map value (in_order_of_keys (directions_of (tree_count by) d n) (map (λ row. (drop 1 row, item 0 row)) V.rows))) []) (some_is V.broken b)) b in
      inl (none ∙ sym z.0, z.1)
  broken_sort rows none (inr (same, broken, lost)) some = inr (none, lost_one at sorted lost)

  sort_by_ends : Case F at (sort key_step) (P ∷ []) S → (S.schema ≡ (m, k) ∷ fs) × (R.schema ≡ (m, k) ∷ []) × Ends at R (sorted ∷ [])
  sort_by_ends (U, inl g, e') =
      let is : S ≡ if_whole P.schema (keyed at key_step.keys P).broken sorted_over = e' ∙ g in
      let s : S.schema ≡ (m, k) ∷ fs = if_schema P.schema (keyed at key_step.keys P).broken sorted_over S is refl ∙ fields in
      let r = project_of s in (
        s,
        ap (λ (T : Table). T.schema) r,
        ends_by at R (sorted ∷ []) (sort_by_shows F at m ns d n e by k fs t P S R named count fields distinct sides then_project (U, inl g, e')) (λ some.
            let b = if_broken P.schema (keyed at key_step.keys P).broken sorted_over S is refl (λ e. some (ap (λ (T : Table). T.broken) r ∙ e)) in
            broken_sort R.rows (ap (λ (T : Table). T.rows) r ∙ ap (map (picked (0 ∷ []))) b.0) ends (λ none. b.1 (ap (λ (z : Zipped). z.broken) keyed_by ∙ goes_whole none))),
      )
  sort_by_ends (U, inr (Y, g, some, u), e') = absurd (some (ap (λ (z : Zipped). z.lost) keyed_by ∙ clear_lost at (those_at at P (all_places fs)) (columns_clear P (all_places fs))))

pub sort_bys_end : SortBysEnd
sort_bys_end F at m ns d n e by k fs t P S R named count fields distinct ends case then_project = sort_by_ends F at m ns d n e by k fs t P S R named count fields distinct ends then_project case

-- aggregates
pub none_other : (xs ys : List Cause) → HasNoOther xs ys → ys ≡ [] → xs ≡ []
none_other [] ys h e = refl
none_other (x ∷ xs) ys h e = absurd (subst (λ ys. Has ys x) e (to_has ys x (h x (from_has (x ∷ xs) x (inl refl)))))

append_none : {A : Type 0} (xs : List A) → xs ++ [] ≡ xs
append_none [] = refl
append_none (x ∷ xs) = ap (λ ws. x ∷ ws) (append_none xs)

pub to_part : (p l : Zipped) → EndAs p.rows p.broken l → IsPartOf p l
to_part p l (inl (rows, alike)) = by (is_empty p.broken) refl
  where
    by : (b : Bool) → is_empty p.broken ≡ b → IsPartOf p l
    by true q = inl (is_none p.broken q, is_none l.broken (sym alike ∙ q), rows)
    by false q = inr (is_some p.broken q, ([], append_none p.rows ∙ rows))
to_part p l (inr (rows, broken, lost)) = inr (broken, (l.rows, ap (λ xs. xs ++ l.rows) rows))

module _ (F : Functions) (at : ℕ) (name : Name) (a : Aggregation) (given known : Tree) (z t R : Table) (kinds : kind_over z.schema given ≡ kind_over t.schema known) where
  abbrev c : Column
  c = eval at z given

  abbrev g : Column
  g = eval at t known

  abbrev A : Column
  A = eval at t (Tree.aggregate a known)

  abbrev B : Column
  B = eval at z (Tree.aggregate a given)

  abbrev p : Zipped
  p = zipped false at (c ∷ [])

  abbrev q : Zipped
  q = zipped false at (g ∷ [])

  abbrev by_kind : Option DataType → List (List Value) → Column
  by_kind k vs = aggregate_column at a k (operand 0 vs)

  module _ (none : HasNoOther (all_causes p) (all_causes q)) where
    -- where the values have no cause, both aggregates are the same but for what is lost
    over_values : column_causes c ≡ [] → EndAs p.rows p.broken q → EndAs R.rows R.broken (zipped false at (B ∷ [])) → R.broken ≢ [] → BrokenAs R.rows (zipped false at (A ∷ []))
    over_values clean (inr (rows, broken, lost)) ends some = absurd (broken (clear_is_whole at c clean))
    over_values clean (inl (rows, alike)) ends some =
        let whole = clear_is_whole at c clean in
        let known_whole = is_none q.broken (sym alike ∙ ap is_empty whole) in
        let u = whole_column_is at c whole in
        let v = whole_column_is at g known_whole in
        let vals = same_values (cell_values c.cells) (cell_values g.cells) (sym u.1 ∙ rows ∙ v.1) in
        let x : B ≡ aggregate_as at a (kind_over z.schema given) c false = ap (aggregate_as at a (kind_over z.schema given) c) (no_cause c u.0) in
        let y : A ≡ aggregate_as at a (kind_over t.schema known) g false = ap (aggregate_as at a (kind_over t.schema known) g) (no_cause g v.0) in
        let same : aggregate_column at a (kind_over z.schema given) (cell_values c.cells) ≡ aggregate_column at a (kind_over t.schema known) (cell_values g.cells) = λ i. aggregate_column at a (kinds i) (vals i) in
        let cells : B.cells ≡ A.cells = ap (λ (c : Column). c.cells) x ∙ ap (λ (c : Column). c.cells) same ∙ sym (ap (λ (c : Column). c.cells) y) in
        let broken : B.broken ≡ A.broken = ap (λ (c : Column). c.broken) x ∙ ap (λ (c : Column). c.broken) same ∙ sym (ap (λ (c : Column). c.broken) y) in
        by known_whole (λ i. zipped false at (record { cells = cells i; broken = broken i; lost = [] } ∷ [])) ends
      where
        by : q.broken ≡ [] → zipped false at (record { cells = B.cells; broken = B.broken; lost = [] } ∷ []) ≡ zipped false at (record { cells = A.cells; broken = A.broken; lost = [] } ∷ [])
            → EndAs R.rows R.broken (zipped false at (B ∷ [])) → BrokenAs R.rows (zipped false at (A ∷ []))
        by whole e (inl (rows, alike)) =
            inl (rows ∙ ap (λ (z : Zipped). z.rows) e, is_some (zipped false at (A ∷ [])).broken (sym (ap (λ (z : Zipped). is_empty z.broken) e) ∙ sym alike ∙ some_is R.broken some))
        by whole e (inr (rows, broken, lost)) =
            inr (rows, lost_one at A (λ e'. over (one_lost at B lost) (append-empty_left g.lost [] (sym (whole_loses at (by_kind (kind_over t.schema known)) g) ∙ e'))))
          where
            over : B.lost ≢ [] → g.lost ≢ []
            over more e' =
                let nothing : all_causes q ≡ [] = λ i. whole i ++ (clear_of e') i in
                more (whole_loses at (by_kind (kind_over z.schema given)) c ∙ ap (λ xs. xs ++ []) (no_lost (none_other (all_causes p) (all_causes q) none nothing)))
              where
                no_lost : all_causes p ≡ [] → c.lost ≡ []
                no_lost h = append-empty_left c.lost [] (append-empty_left (c.lost ++ []) _ (append-empty_right p.broken p.lost h))

                clear_of : g.lost ≡ [] → q.lost ≡ []
                clear_of h = none_if q.lost refl (λ some. one_lost at g some h)
                  where
                    none_if : (xs : List Cause) → q.lost ≡ xs → (q.lost ≢ [] → ⊥) → q.lost ≡ []
                    none_if [] w unless = w
                    none_if (cause ∷ more) w unless = absurd (unless (λ e. let r : cause ∷ more ≡ [] = sym w ∙ e in cc))

    aggregate_ends : EndAs p.rows p.broken q → Case F at (select ((name, Tree.aggregate a given) ∷ [])) (z ∷ []) R → Ends at R (A ∷ [])
    aggregate_ends ends case =
        let r = selects_end F at ((name, Tree.aggregate a given) ∷ []) z R case in
        ends_by at R (A ∷ []) (aggregates_show F at name a given known z t R kinds (to_part p q ends) case) (λ some. by (is_empty (column_causes c)) refl r some)
      where
        by : (b : Bool) → is_empty (column_causes c) ≡ b → EndAs R.rows R.broken (zipped false at (B ∷ [])) → R.broken ≢ [] → BrokenAs R.rows (zipped false at (A ∷ []))
        by true h r some = over_values (is_none (column_causes c) h) ends r some
        by false h r some =
            let causes = is_some (column_causes c) h in
            let w = faulty_whole at (by_kind (kind_over z.schema given)) c causes in
            let y = ended_first at B (ap (λ (c : Column). c.cells) w) (λ e. causes (append-empty_left (column_causes c) [] (sym (ap (λ (c : Column). c.broken) w) ∙ e))) in
            broken_whole at (by_kind (kind_over t.schema known)) g (zip_table at (c ∷ [])) R.rows (no_rows_of r y.0) ends (λ e. causes (whole_column_is at c e).0)
          where
            no_rows_of : EndAs R.rows R.broken (zipped false at (B ∷ [])) → (zipped false at (B ∷ [])).rows ≡ [] → R.rows ≡ []
            no_rows_of (inl (rows, alike)) e = rows ∙ e
            no_rows_of (inr (rows, broken, lost)) e = rows

pub aggregates_end : AggregatesEnd
aggregates_end F at name a given known z t R kinds ends none case = aggregate_ends F at name a given known z t R kinds none ends case
