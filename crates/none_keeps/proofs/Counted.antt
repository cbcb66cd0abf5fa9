-- A group-by of own columns with the picked value of each other one and the count of rows, of which those of one row are kept: the rows of the distinct by these that keeps the rows whose key comes once, up to a group of too many rows. A table that isn't large has no such group.
use Rattle.std.proofs.Common.{◌≡◌, ◌≢◌, ◌⊎◌, inl, inr, ℕ, ◌+◌, ◌<◌, ◌≤◌, Bool, true, false, cond, List, [], ◌∷◌, ◌++◌, length, get_or, Option, Some, None, refl, sym, ap, subst, ◌∙◌, arith, length-append}
use Rattle.std.proofs.lemmas.Grind.{flat_map-append}
use Rattle.std.proofs.lemmas.List.{append_assoc, append-nil, length-map, map-append}
use Rattle.std.proofs.lemmas.List.Sorted.{IsPermutation-refl}
use Rattle.std.specs.Prelude.{Contains, IsTrue, drop, filter, flat_map, map, take, unwrap_or, ◌==◌, if◌then◌else◌}
use Rattle.std.specs.List.{AllByRecursion, list_any}
use Rattle.ps_frame.specs.Aggregates.{count_column, max_rows}
use Rattle.ps_frame.specs.Causes.{Cause, Column, value, column_causes, is_empty}
use Rattle.ps_frame.specs.Eval.{eval}
use Rattle.ps_frame.specs.Frames.{has_distinct_names}
use Rattle.ps_frame.specs.Free.{free_causes}
use Rattle.ps_frame.specs.Functions.{Functions}
use Rattle.ps_frame.specs.Operators.{binary_value}
use Rattle.ps_frame.specs.Parts.{tree_parts}
use Rattle.ps_frame.specs.Tables.{Fields, Table, field_index, no_rows, values_at, values_at_some}
use Rattle.ps_frame.specs.Trees.{Aggregation, Tree}
use Rattle.ps_frame.specs.Typing.{is_elementwise}
use Rattle.ps_frame.specs.Values.{is_true, same_row}
use Rattle.ps_frame.specs.Zip.{Zipped, below}
use Rattle.ps_frame.specs.declared.expr.Operator.TheVariants as op
use Rattle.ps_frame.specs.declared.value.DataType.{DataType}
use Rattle.ps_frame.specs.declared.value.DataType.TheVariants as kind
use Rattle.ps_frame.specs.declared.value.Value.{Value}
use Rattle.ps_frame.specs.declared.value.Value.TheVariants as val
use Rattle.ps_meaning.specs.Cases.{Case, GivesBeforeCut, IsCaseBrokenBy, cut_by, if_whole, keyed, lost_causes, out_schema, rows_table, with_group_causes}
use Rattle.ps_meaning.specs.Distinct.{distinct_rows, kept_rows, key_places, picked, places_in}
use Rattle.ps_meaning.specs.Groups.{Group, group_causes_lost, group_columns, group_of, group_rows, groups, groups_table, keys_of, only_value, rows_before_faulty, rows_of_key}
use Rattle.ps_meaning.specs.Meaning.{HasLargeColumn, IsLargeCase}
use Rattle.ps_meaning.specs.Orders.{IsOrder}
use Rattle.ps_meaning.specs.Schemas.{is_among, names_of}
use Rattle.ps_meaning.specs.Steps.{DistinctStep, GroupStep, Name, distinct, exprs_of, group_by}
use Rattle.ps_meaning.proofs.Begins.{Begins, begins-empty, begins-filter, begins-map}
use Rattle.ps_meaning.proofs.Fits.{all-filter, all-map, all-of}
use Rattle.ps_meaning.proofs.StepFits.{all-order}
use Rattle.ps_rules.specs.Slots.{columns_named}
use Rattle.ps_shares.proofs.Aggregated.{map_again}
use Rattle.ps_shares.proofs.Ends.{has_either}
use Rattle.ps_shares.proofs.Members.{Has, from_has, to_has}
use Rattle.lowering_sizes.proofs.Lengths.{fewer}
use Rattle.lowering_sizes.proofs.Nodes.{plain_modest, some_rows, step_modest}
use Rattle.step_keeps.specs.Kept.{SomeIsLarge}
use Rattle.picked_zips.proofs.Members.{filter_each, filter_map, map_each, of_map}
use Rattle.keyed_calls.specs.Keyed.{AllStand}
use Rattle.distinct_parts.proofs.FirstRows.{keys_there, with_key}
use Rattle.distinct_parts.proofs.KeyedColumns.{b_causes, b_keys, b_lost, b_of_key, b_rows, kp, whole_from, whole_to}
use Rattle.distinct_parts.proofs.Picks.{Picks}
use Rattle.distinct_parts.proofs.Restored.{cells_are, clear_causes, clear_rows, no_causes_in, none_lost, picked_column, picked_of, restored, row_key, row_wide}
use Rattle.flagged_rows.proofs.Counts.{count_clear, count_few, count_lost, count_single}
use Rattle.flagged_rows.proofs.Groups.{before_begins, before_few, distinct_few, none_faulty}
use Rattle.flagged_rows.proofs.Orders.{order_filter, order_long, order_map}
use Rattle.flagged_rows.proofs.Places.{front_values, last_value}
use Rattle.flagged_rows.proofs.SingleRows.{comes_once}

no_free : (a : Aggregation) (picks : Picks a) (at : ℕ) (s : Fields) (rows : List (List Value)) (ns : List Name) → flat_map (free_causes at) (map (picked_of a picks at s rows) ns) ≡ []
no_free a picks at s rows [] = refl
no_free a picks at s rows (n ∷ ns) = let p = picks.free at n in let q = no_free a picks at s rows ns in λ i. p i ++ q i

module _ (a : Aggregation) (picks : Picks a) (F : Functions) (at : ℕ) (t : Table) (keys others : List Name) (placed : AllStand t.schema keys) (others_placed : AllStand t.schema others) (some : t.schema ≢ []) (wide : AllByRecursion (λ (row : List Value). length row ≡ length t.schema) t.rows)
    (names : has_distinct_names t.schema ≡ true) (g : Fields) (named : names_of g ≡ keys ++ others) (covers : (n : Name) → is_among n (names_of t.schema) ≡ true → is_among n (keys ++ others) ≡ true)
    (h : Name)
    (o : GroupStep) (of_keys : exprs_of o.keys ≡ columns_named keys) (of_aggs : exprs_of o.aggregates ≡ map (picked_of a picks at t.schema (keyed at (columns_named keys) t).rows) others ++ Tree.len ∷ []) (uncut : o.cut ≡ None)
    (out : out_schema F at (group_by o) (t ∷ []) ≡ g ++ (h, kind.IdxSize) ∷ [])
    (d : DistinctStep)
    (keeps : let places = kp at t keys placed some in (ys : List (List Value)) → IsOrder o.maintain_order (map (λ key. picks.row (with_key places key t.rows)) (filter (comes_once places t.rows) (distinct_rows (map (picked places) t.rows)))) ys → IsOrder d.maintain_order (kept_rows d.keep (key_places d t.schema) t.rows) ys) where
  abbrev s : Fields
  s = t.schema

  abbrev b : Zipped
  b = keyed at (columns_named keys) t

  abbrev aggs : List Tree
  aggs = map (picked_of a picks at s b.rows) others

  abbrev given : Zipped
  given = keyed at (exprs_of o.keys) t

  same_zip : given ≡ b
  same_zip = ap (λ es. keyed at es t) of_keys

  abbrev more : Fields
  more = (h, kind.IdxSize) ∷ []

  abbrev places : List ℕ
  places = kp at t keys placed some

  abbrev row_of : List Value → List Value
  row_of key = picks.row (with_key places key t.rows)

  abbrev IsThere : List Value → Type 0
  IsThere key = list_any (λ row. same_row key (picked places row)) t.rows ≡ true

  abbrev ks : List (List Value)
  ks = distinct_rows (map (picked places) t.rows)

  -- the count of a key's rows
  abbrev count : List Value → ℕ
  count key = length (rows_of_key (length s) key b.rows)

  count_is : (key : List Value) → count key ≡ length (with_key places key t.rows)
  count_is key = ap length (b_of_key at t keys placed some wide key)

  abbrev height : List Value → Column
  height key = count_column at (count key)

  abbrev columns : List Value → List Column
  columns key = group_columns at aggs s b.rows key

  columns_are : (key : List Value) → group_columns at (aggs ++ Tree.len ∷ []) s b.rows key ≡ columns key ++ height key ∷ []
  columns_are key = map-append (eval at (group_rows s b.rows key)) aggs (Tree.len ∷ [])

  -- a group with its count
  abbrev counted : List Value → Group
  counted key = record { cells = (group_of at aggs s b.rows key).cells ++ only_value (height key) ∷ []; causes = column_causes (height key) }

  counted_is : (key : List Value) → group_of at (aggs ++ Tree.len ∷ []) s b.rows key ≡ counted key
  counted_is key =
      let e = columns_are key in
      let cells = ap (λ cs. key ++ map only_value cs) e ∙ ap (λ vs. key ++ vs) (map-append only_value (columns key) (height key ∷ [])) ∙ sym (append_assoc key (map only_value (columns key)) (only_value (height key) ∷ [])) in
      let causes = ap (flat_map column_causes) e ∙ flat_map-append column_causes (columns key) (height key ∷ [])
      ∙ ap (λ xs. xs ++ (column_causes (height key) ++ [])) (no_causes_in a picks at t keys others placed others_placed some wide names g named covers key) ∙ append-nil (column_causes (height key)) in
      λ i. record { cells = cells i; causes = causes i }

  groups_counted : groups at (exprs_of o.aggregates) s given.rows ≡ map counted ks
  groups_counted =
      (λ i. groups at (of_aggs i) s (same_zip i).rows)
      ∙ (λ i. map (λ key. counted_is key i) (keys_of (length s) b.rows))
      ∙ ap (λ rows. map counted (distinct_rows rows)) (b_keys at t keys placed some wide)

  -- the columns of the table in order, of rows with the count 1
  abbrev pub back : List Value → List Value
  back row = picked (places_in (names_of s) (g ++ more)) row

  abbrev pub single : List Value → Bool
  single row = is_true (binary_value op.Eq (get_or row (length g) val.Null) (val.IdxSize 1))

  abbrev pub singles : List (List Value) → List (List Value)
  singles rows = map back (filter single rows)

  cells_long : (key : List Value) → IsThere key → length (group_of at aggs s b.rows key).cells ≡ length g
  cells_long key there =
      ap length (cells_are a picks at t keys others placed others_placed some wide names g named covers key (row_key a picks at t keys others placed others_placed some wide names g named covers key there))
      ∙ length-map (places_in (keys ++ others) s) (λ k. get_or (row_of key) k val.Null)
      ∙ length-map (keys ++ others) (λ n. unwrap_or (field_index n s) 0)
      ∙ sym (ap length named)
      ∙ length-map g (λ (f : Name × DataType). f.0)

  back_is : (key : List Value) → IsThere key → back (counted key).cells ≡ row_of key
  back_is key there =
      front_values (names_of s) g more (group_of at aggs s b.rows key).cells (only_value (height key)) (cells_long key there) (λ n m. ap (is_among n) named ∙ covers n m)
      ∙ restored a picks at t keys others placed others_placed some wide names g named covers key (row_key a picks at t keys others placed others_placed some wide names g named covers key there)
      (row_wide a picks at t keys others placed others_placed some wide names g named covers key there)

  single_is : (key : List Value) → IsThere key → single (counted key).cells ≡ comes_once places t.rows key
  single_is key there =
      let c = (group_of at aggs s b.rows key).cells in
      let v = only_value (height key) in
      ap (λ n. is_true (binary_value op.Eq (get_or (c ++ v ∷ []) n val.Null) (val.IdxSize 1))) (sym (cells_long key there))
      ∙ ap (λ v. is_true (binary_value op.Eq v (val.IdxSize 1))) (last_value c v)
      ∙ count_single at (count key)
      ∙ ap (λ n. n == 1) (count_is key)

  abbrev cells_of : Group → List Value
  cells_of x = x.cells

  singles_are : singles (map cells_of (map counted ks)) ≡ map row_of (filter (comes_once places t.rows) ks)
  singles_are =
      let there = keys_there places t.rows in
      let found : List Value → List Value = λ key. (counted key).cells in
      ap singles (map_again cells_of counted ks)
      ∙ ap (map back) (filter_map found single ks)
      ∙ map_again back found (filter (λ key. single (found key)) ks)
      ∙ ap (map (λ key. back (found key))) (filter_each (λ key. single (found key)) (comes_once places t.rows) IsThere single_is ks there)
      ∙ map_each (λ key. back (found key)) row_of IsThere back_is (filter (comes_once places t.rows) ks) (all-filter IsThere (comes_once places t.rows) ks there)

  abbrev IsDistinct : Table → Type 0
  IsDistinct K = GivesBeforeCut F at (distinct d) (t ∷ []) K

  -- in order
  in_order : (gs : List Group) → IsOrder o.maintain_order (groups at (exprs_of o.aggregates) s given.rows) gs → IsOrder o.maintain_order (map counted ks) gs
  in_order gs order = subst (λ hs. IsOrder o.maintain_order hs gs) groups_counted order

  -- the rows of groups in some order
  kept_by : (gs : List Group) → IsOrder o.maintain_order (groups at (exprs_of o.aggregates) s given.rows) gs → IsDistinct (if_whole s t.broken (rows_table s (singles (map cells_of gs))))
  kept_by gs order =
      let m = o.maintain_order in
      let cells = order_map cells_of m (map counted ks) gs (in_order gs order) in
      let tested = order_filter single m (map cells_of (map counted ks)) (map cells_of gs) cells in
      let mapped = order_map back m (filter single (map cells_of (map counted ks))) (filter single (map cells_of gs)) tested in
      inl (singles (map cells_of gs), keeps (singles (map cells_of gs)) (subst (λ rs. IsOrder m rs (singles (map cells_of gs))) singles_are mapped), refl)

  schema_of : (cs : List Cause) (rows : List (List Value)) → (if_whole s cs (rows_table s rows)).schema ≡ s
  schema_of [] rows = refl
  schema_of (c ∷ cs) rows = refl

  none_is : (x : Cause) (ds : List Cause) → x ∷ ds ≡ [] → ⊥
  none_is x ds w = cc

  -- nothing is lost
  all_lose_none : (qs : List (List Value)) → flat_map (λ key. flat_map (λ (c : Column). c.lost) (group_columns at (aggs ++ Tree.len ∷ []) s b.rows key)) qs ≡ []
  all_lose_none [] = refl
  all_lose_none (key ∷ qs) =
      let p = ap (flat_map (λ (c : Column). c.lost)) (columns_are key) ∙ flat_map-append (λ (c : Column). c.lost) (columns key) (height key ∷ []) ∙ (λ i. none_lost a picks at s (rows_of_key (length s) key b.rows) others i ++ (count_lost at (count key) i ++ [])) in
      let q = all_lose_none qs in
      λ i. p i ++ q i

  all_free : flat_map (free_causes at) (aggs ++ Tree.len ∷ []) ≡ []
  all_free = flat_map-append (free_causes at) aggs (Tree.len ∷ []) ∙ ap (λ xs. xs ++ []) (no_free a picks at s b.rows others)

  lost_nothing : (rows : List (List Value)) → lost_causes F at (group_by o) (t ∷ []) rows ≡ []
  lost_nothing rows =
      (λ i. (same_zip i).lost ++ ((if is_empty (same_zip i).broken then group_causes_lost at (of_aggs i) s (same_zip i).rows else []) ++ (if is_empty rows then flat_map (free_causes at) (of_aggs i) else [])))
      ∙ (λ i. b_lost at t keys placed some i ++ ((if is_empty b.broken then all_lose_none (keys_of (length s) b.rows) i else []) ++ (if is_empty rows then all_free i else [])))
      ∙ none (is_empty b.broken) (is_empty rows)
    where
      none : (p q : Bool) → cond {A = List Cause} p [] [] ++ cond {A = List Cause} q [] [] ≡ []
      none true true = refl
      none true false = refl
      none false true = refl
      none false false = refl

  uncut_case : (L U : Table) → L ≡ cut_by o.cut U → L ≡ U
  uncut_case L U e = e ∙ ap (λ c. cut_by c U) uncut

  -- its schema, and the width of its rows
  pub case_schema : (L : Table) → Case F at (group_by o) (t ∷ []) L → L.schema ≡ g ++ more
  case_schema L (U, k, e) = ap (λ (T : Table). T.schema) (uncut_case L U e) ∙ by U k
    where
      whole_schema : (p : Fields) (cs : List Cause) (gs : List Group) → (if_whole p cs (groups_table p gs)).schema ≡ p
      whole_schema p [] gs = refl
      whole_schema p (c ∷ cs) gs = refl

      by : (U : Table) → GivesBeforeCut F at (group_by o) (t ∷ []) U → U.schema ≡ g ++ more
      by U (inl (gs, order, e)) = ap (λ (T : Table). T.schema) e ∙ whole_schema (out_schema F at (group_by o) (t ∷ [])) (with_group_causes given.broken gs) gs ∙ out
      by U (inr (V, k, lost, e)) = absurd (lost (lost_nothing V.rows))

  abbrev IsRow : List Value → Type 0
  IsRow row = length row ≡ length g + 1

  pub case_wide : (L : Table) → Case F at (group_by o) (t ∷ []) L → AllByRecursion (λ (row : List Value). length row ≡ length g + 1) L.rows
  case_wide L (U, k, e) = subst (λ (T : Table). AllByRecursion IsRow T.rows) (sym (uncut_case L U e)) (by U k)
    where
      rows_wide : (gs : List Group) → AllByRecursion (λ (x : Group). length x.cells ≡ length g + 1) gs → AllByRecursion IsRow (rows_before_faulty gs)
      rows_wide [] all = tt
      rows_wide (x ∷ gs) all = step (is_empty x.causes) (rows_wide gs all.1)
        where
          step : (b : Bool) → AllByRecursion IsRow (rows_before_faulty gs) → AllByRecursion IsRow (if b then x.cells ∷ rows_before_faulty gs else [])
          step true rest = (all.0, rest)
          step false rest = tt

      whole_wide : (p : Fields) (cs : List Cause) (gs : List Group) → AllByRecursion (λ (x : Group). length x.cells ≡ length g + 1) gs → AllByRecursion IsRow (if_whole p cs (groups_table p gs)).rows
      whole_wide p [] gs all = rows_wide gs all
      whole_wide p (c ∷ cs) gs all = tt

      long : (key : List Value) → IsThere key → length (counted key).cells ≡ length g + 1
      long key there = length-append (group_of at aggs s b.rows key).cells (only_value (height key) ∷ []) ∙ ap (λ n. n + 1) (cells_long key there)

      by : (U : Table) → GivesBeforeCut F at (group_by o) (t ∷ []) U → AllByRecursion IsRow U.rows
      by U (inl (gs, order, e)) =
          subst (λ (T : Table). AllByRecursion IsRow T.rows) (sym e)
          (whole_wide (out_schema F at (group_by o) (t ∷ [])) (with_group_causes given.broken gs) gs
          (all-order (λ (x : Group). length x.cells ≡ length g + 1) o.maintain_order (map counted ks) gs (in_order gs order) (all-map IsThere (λ (x : Group). length x.cells ≡ length g + 1) counted long ks (keys_there places t.rows))))
      by U (inr (V, k, lost, e)) = absurd (lost (lost_nothing V.rows))

  -- the rows of the groups before a faulty one
  pub record Begun (L : Table) : Type 0 where
    pub table : Table
    pub gives : IsDistinct table
    pub schema : table.schema ≡ s
    pub rows : Begins (singles L.rows) table.rows
    pub whole : L.broken ≡ [] → (table.rows ≡ singles L.rows) × (table.broken ≡ [])

  begun_groups : (L : Table) (gs : List Group) → IsOrder o.maintain_order (groups at (exprs_of o.aggregates) s given.rows) gs → L ≡ if_whole (out_schema F at (group_by o) (t ∷ [])) (with_group_causes given.broken gs) (groups_table (out_schema F at (group_by o) (t ∷ [])) gs) → Begun L
  begun_groups L gs order e =
      let both = by t.broken refl given.broken refl in
      record { table = if_whole s t.broken (rows_table s (singles (map cells_of gs))); gives = kept_by gs order; schema = schema_of t.broken (singles (map cells_of gs)); rows = both.0; whole = both.1 }
    where
      by : (cs : List Cause) → t.broken ≡ cs → (ds : List Cause) → given.broken ≡ ds
          → Begins (singles L.rows) (if_whole s t.broken (rows_table s (singles (map cells_of gs)))).rows
          × (L.broken ≡ [] → ((if_whole s t.broken (rows_table s (singles (map cells_of gs)))).rows ≡ singles L.rows) × ((if_whole s t.broken (rows_table s (singles (map cells_of gs)))).broken ≡ []))
      by [] p [] q =
          let f = out_schema F at (group_by o) (t ∷ []) in
          let is : L ≡ groups_table f gs = e ∙ ap (λ ds. if_whole f (with_group_causes ds gs) (groups_table f gs)) q in
          let left = ap (λ cs. if_whole s cs (rows_table s (singles (map cells_of gs)))) p in
          let begins = begins-map back (filter single (rows_before_faulty gs)) (filter single (map cells_of gs)) (begins-filter single (rows_before_faulty gs) (map cells_of gs) (before_begins gs)) in (
            subst (λ (T : Table). Begins (singles L.rows) T.rows) (sym left) (subst (λ (T : Table). Begins (singles T.rows) (singles (map cells_of gs))) (sym is) begins),
            λ none.
                let all = none_faulty gs (sym (ap (λ (T : Table). T.broken) is) ∙ none) in
                (ap (λ (T : Table). T.rows) left ∙ ap singles (sym (clear_rows gs all)) ∙ sym (ap (λ (T : Table). singles T.rows) is), ap (λ (T : Table). T.broken) left),
          )
      by (c ∷ cs) p (x ∷ ds) q =
          let f = out_schema F at (group_by o) (t ∷ []) in
          let is : L ≡ no_rows f ((x ∷ ds) ++ flat_map (λ (y : Group). y.causes) gs) = e ∙ ap (λ ds. if_whole f (with_group_causes ds gs) (groups_table f gs)) q in
          let rows = (if_whole s t.broken (rows_table s (singles (map cells_of gs)))).rows in (
            subst (λ (T : Table). Begins (singles T.rows) rows) (sym is) (begins-empty rows),
            λ none. let w : x ∷ (ds ++ flat_map (λ (y : Group). y.causes) gs) ≡ [] = sym (ap (λ (T : Table). T.broken) is) ∙ none in absurd (none_is x (ds ++ flat_map (λ (y : Group). y.causes) gs) w),
          )
      by [] p (x ∷ ds) q = let w : x ∷ ds ≡ [] = sym q ∙ ap (λ (z : Zipped). z.broken) same_zip ∙ whole_from at t keys placed some p in absurd (none_is x ds w)
      by (c ∷ cs) p [] q = let w : c ∷ cs ≡ [] = sym p ∙ whole_to at t keys placed some (sym (ap (λ (z : Zipped). z.broken) same_zip) ∙ q) in absurd (none_is c cs w)

  begun_before : (L : Table) → GivesBeforeCut F at (group_by o) (t ∷ []) L → Begun L
  begun_before L (inl (gs, order, e)) = begun_groups L gs order e
  begun_before L (inr (V, k, lost, e)) = absurd (lost (lost_nothing V.rows))

  pub begun : (L : Table) → Case F at (group_by o) (t ∷ []) L → Begun L
  begun L (U, k, e) = begun_before L (subst (GivesBeforeCut F at (group_by o) (t ∷ [])) (sym (uncut_case L U e)) k)

  -- causes
  abbrev one_given : Table
  one_given = if_whole s t.broken (rows_table s (singles (map cells_of (groups at (exprs_of o.aggregates) s given.rows))))

  order_itself : (m : Bool) (xs : List Group) → IsOrder m xs xs
  order_itself true xs = refl
  order_itself false xs = IsPermutation-refl xs

  gives_one : IsDistinct one_given
  gives_one = kept_by (groups at (exprs_of o.aggregates) s given.rows) (order_itself o.maintain_order (groups at (exprs_of o.aggregates) s given.rows))

  own_cause : (cs : List Cause) (rows : List (List Value)) (c : Cause) → Has cs c → Has (if_whole s cs (rows_table s rows)).broken c
  own_cause [] rows c k = absurd k
  own_cause (x ∷ cs) rows c k = k

  pub breaks : (c : Cause) → Contains t.broken c → IsCaseBrokenBy F at (distinct d) (t ∷ []) c
  breaks c k = (one_given, inr gives_one, from_has one_given.broken c (own_cause t.broken (singles (map cells_of (groups at (exprs_of o.aggregates) s given.rows))) c (to_has t.broken c k)))

  -- sizes
  abbrev Large : Type 0
  Large = IsLargeCase F at (distinct d) (t ∷ []) ⊎ SomeIsLarge (t ∷ [])

  columns_plain : (ns : List Name) → AllByRecursion (λ e. IsTrue (is_elementwise e)) (columns_named ns)
  columns_plain [] = tt
  columns_plain (n ∷ ns) = (refl, columns_plain ns)

  as_high : length given.rows ≡ length t.rows
  as_high = ap (λ (z : Zipped). length z.rows) same_zip ∙ ap length (b_rows at t keys placed some) ∙ length-map t.rows (picked (below (length s) ++ places_in keys s))

  values_few : (q : Option ℕ) (rows : List (List Value)) → length (map value (values_at_some q rows)) ≤ length rows
  values_few None rows = omega arith
  values_few (Some j) rows = let l = length-map (values_at j rows) value in let m = length-map rows (λ row. get_or row j val.Null) in omega arith

  -- Of a table that isn't large no group has too many rows.
  module _ (few : length t.rows ≤ max_rows) where
    counted_clear : (key : List Value) → column_causes (height key) ≡ []
    counted_clear key =
        let e = count_is key in
        let f = fewer (λ row. same_row key (picked places row)) t.rows in
        count_clear at (count key) (omega (arith, e, f, few))

    clear : (gs : List Group) → IsOrder o.maintain_order (groups at (exprs_of o.aggregates) s given.rows) gs → AllByRecursion (λ (x : Group). x.causes ≡ []) gs
    clear gs order = all-order (λ (x : Group). x.causes ≡ []) o.maintain_order (map counted ks) gs (in_order gs order) (all-of (λ (x : Group). x.causes ≡ []) counted counted_clear ks)

    pub record Distinguished (L : Table) : Type 0 where
      pub table : Table
      pub gives : IsDistinct table
      pub schema : table.schema ≡ s
      pub rows : table.rows ≡ singles L.rows
      pub whole : is_empty table.broken ≡ is_empty L.broken

    by_groups : (L : Table) (gs : List Group) → IsOrder o.maintain_order (groups at (exprs_of o.aggregates) s given.rows) gs → L ≡ if_whole (out_schema F at (group_by o) (t ∷ [])) (with_group_causes given.broken gs) (groups_table (out_schema F at (group_by o) (t ∷ [])) gs) → Distinguished L
    by_groups L gs order e =
        let both = by t.broken refl given.broken refl in
        record { table = if_whole s t.broken (rows_table s (singles (map cells_of gs))); gives = kept_by gs order; schema = schema_of t.broken (singles (map cells_of gs)); rows = both.0; whole = both.1 }
      where
        by : (cs : List Cause) → t.broken ≡ cs → (ds : List Cause) → given.broken ≡ ds
            → ((if_whole s t.broken (rows_table s (singles (map cells_of gs)))).rows ≡ singles L.rows) × (is_empty (if_whole s t.broken (rows_table s (singles (map cells_of gs)))).broken ≡ is_empty L.broken)
        by [] p [] q =
            let f = out_schema F at (group_by o) (t ∷ []) in
            let is : L ≡ groups_table f gs = e ∙ ap (λ ds. if_whole f (with_group_causes ds gs) (groups_table f gs)) q in
            let left = ap (λ cs. if_whole s cs (rows_table s (singles (map cells_of gs)))) p in (
              ap (λ (T : Table). T.rows) left ∙ ap singles (sym (clear_rows gs (clear gs order))) ∙ sym (ap (λ (T : Table). singles T.rows) is),
              ap (λ (T : Table). is_empty T.broken) left ∙ sym (ap is_empty (clear_causes gs (clear gs order))) ∙ sym (ap (λ (T : Table). is_empty T.broken) is),
            )
        by (c ∷ cs) p (x ∷ ds) q =
            let f = out_schema F at (group_by o) (t ∷ []) in
            let is : L ≡ no_rows f ((x ∷ ds) ++ flat_map (λ (y : Group). y.causes) gs) = e ∙ ap (λ ds. if_whole f (with_group_causes ds gs) (groups_table f gs)) q in
            let left = ap (λ cs. if_whole s cs (rows_table s (singles (map cells_of gs)))) p in
            (ap (λ (T : Table). T.rows) left ∙ sym (ap (λ (T : Table). singles T.rows) is), ap (λ (T : Table). is_empty T.broken) left ∙ sym (ap (λ (T : Table). is_empty T.broken) is))
        by [] p (x ∷ ds) q = let w : x ∷ ds ≡ [] = sym q ∙ ap (λ (z : Zipped). z.broken) same_zip ∙ whole_from at t keys placed some p in absurd (none_is x ds w)
        by (c ∷ cs) p [] q = let w : c ∷ cs ≡ [] = sym p ∙ whole_to at t keys placed some (sym (ap (λ (z : Zipped). z.broken) same_zip) ∙ q) in absurd (none_is c cs w)

    of_before : (L : Table) → GivesBeforeCut F at (group_by o) (t ∷ []) L → Distinguished L
    of_before L (inl (gs, order, e)) = by_groups L gs order e
    of_before L (inr (V, k, lost, e)) = absurd (lost (lost_nothing V.rows))

    pub of_case : (L : Table) → Case F at (group_by o) (t ∷ []) L → Distinguished L
    of_case L (U, k, e) = of_before L (subst (GivesBeforeCut F at (group_by o) (t ∷ [])) (sym (uncut_case L U e)) k)

    cause_before : (U : Table) (c : Cause) → GivesBeforeCut F at (group_by o) (t ∷ []) U → Contains U.broken c → Contains t.broken c
    cause_before U c (inr (V, k, lost, e)) m = absurd (lost (lost_nothing V.rows))
    cause_before U c (inl (gs, order, e)) m = by given.broken refl (to_has U.broken c m)
      where
        by : (ds : List Cause) → given.broken ≡ ds → Has U.broken c → Contains t.broken c
        by [] q k =
            let p = out_schema F at (group_by o) (t ∷ []) in
            let is : U.broken ≡ [] = ap (λ (T : Table). T.broken) (e ∙ ap (λ ds. if_whole p (with_group_causes ds gs) (groups_table p gs)) q) ∙ clear_causes gs (clear gs order) in
            absurd (subst (λ cs. Has cs c) is k)
        by (x ∷ ds) q k =
            let p = out_schema F at (group_by o) (t ∷ []) in
            let is : U.broken ≡ (x ∷ ds) ++ [] = ap (λ (T : Table). T.broken) (e ∙ ap (λ ds. if_whole p (with_group_causes ds gs) (groups_table p gs)) q) ∙ ap (λ cs. (x ∷ ds) ++ cs) (clear_causes gs (clear gs order)) in
            b_causes at t keys placed some c (from_has b.broken c (subst (λ cs. Has cs c) (is ∙ append-nil (x ∷ ds) ∙ sym q ∙ ap (λ (z : Zipped). z.broken) same_zip) k))

    pub own_causes : (c : Cause) → IsCaseBrokenBy F at (group_by o) (t ∷ []) c → Contains t.broken c
    own_causes c (U, inl (V, k, e), m) = cause_before V c k (subst (λ (T : Table). Contains T.broken c) (uncut_case U V e) m)
    own_causes c (U, inr k, m) = cause_before U c k m

    large_group : (key : List Value) → HasLargeColumn at (exprs_of o.aggregates) (group_rows s given.rows key) → max_rows < length t.rows
    large_group key (e, p, there, part, long) = which (has_either aggs (Tree.len ∷ []) e (to_has (aggs ++ Tree.len ∷ []) e (subst (λ es. Contains es e) of_aggs there)))
      where
        fewer_rows : length (rows_of_key (length s) key given.rows) ≤ length given.rows
        fewer_rows = let l = length-map (filter (λ row. same_row key (drop (length s) row)) given.rows) (take (length s)) in let m = fewer (λ row. same_row key (drop (length s) row)) given.rows in omega arith

        by : (n : Name) → (picked_of a picks at s b.rows n ≡ p) ⊎ ((Tree.column n ≡ p) ⊎ ⊥) → max_rows < length t.rows
        by n (inl q) =
            let l = ap (λ (c : Column). length c.cells) (ap (eval at (group_rows s given.rows key)) (sym q) ∙ picked_column a picks at s (rows_of_key (length s) key given.rows) n) in
            let m = some_rows in
            absurd (omega arith)
        by n (inr (inl q)) =
            let l = ap (λ e. length (eval at (group_rows s given.rows key) e).cells) q in
            let m = values_few (field_index n s) (rows_of_key (length s) key given.rows) in
            let f = fewer_rows in
            let k = as_high in
            omega arith
        by n (inr (inr q)) = absurd q

        of_height : (Tree.len ≡ p) ⊎ ⊥ → max_rows < length t.rows
        of_height (inl q) =
            let l = ap (λ e. length (eval at (group_rows s given.rows key) e).cells) q in
            let k : length (eval at (group_rows s given.rows key) Tree.len).cells ≤ 1 = count_few at (length (rows_of_key (length s) key given.rows)) in
            let m = some_rows in
            absurd (omega arith)
        of_height (inr q) = absurd q

        which : Has aggs e ⊎ ((Tree.len ≡ e) ⊎ ⊥) → max_rows < length t.rows
        which (inl k) =
            let r = of_map (picked_of a picks at s b.rows) others e k in
            by r.0 (to_has (tree_parts (picked_of a picks at s b.rows r.0)) p (subst (λ e. Contains (tree_parts e) p) (sym r.2) part))
        which (inr (inl q)) = of_height (to_has (tree_parts Tree.len) p (subst (λ e. Contains (tree_parts e) p) (sym q) part))
        which (inr (inr q)) = absurd q

    table_few : (p : Fields) (cs : List Cause) (gs : List Group) → length (if_whole p cs (groups_table p gs)).rows ≤ length gs
    table_few p [] gs = before_few gs
    table_few p (c ∷ cs) gs = omega arith

    rows_few : (U : Table) → GivesBeforeCut F at (group_by o) (t ∷ []) U → length U.rows ≤ length t.rows
    rows_few U (inr (V, k, lost, e)) = absurd (lost (lost_nothing V.rows))
    rows_few U (inl (gs, order, e)) =
        let f = out_schema F at (group_by o) (t ∷ []) in
        let l = ap (λ (T : Table). length T.rows) e in
        let m = table_few f (with_group_causes given.broken gs) gs in
        let n = order_long o.maintain_order (map counted ks) gs (in_order gs order) in
        let c = length-map ks counted in
        let q = distinct_few (map (picked places) t.rows) in
        let r = length-map t.rows (picked places) in
        omega arith

    pub same_sizes : IsLargeCase F at (group_by o) (t ∷ []) ⊎ SomeIsLarge (t ∷ []) → Large
    same_sizes (inr l) = inr l
    same_sizes (inl (inl (inl l))) = step_modest Large at t (exprs_of o.keys) (plain_modest Large at t (λ long. inr (inl long)) (exprs_of o.keys) (subst (AllByRecursion (λ e. IsTrue (is_elementwise e))) (sym of_keys) (columns_plain keys))) l
    same_sizes (inl (inl (inr (k, key, lt, is, l)))) = inr (inl (large_group key l))
    same_sizes (inl (inr (U, k, long))) = let r = rows_few U k in inr (inl (omega arith))
