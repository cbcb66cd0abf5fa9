-- Further columns whose expressions are lowered beside all columns.
use Rattle.std.proofs.Common.{◌≡◌, ◌≢◌, ◌⊎◌, inl, inr, ℕ, zero, suc, ◌<◌, ◌≤◌, ◌^◌, Bool, true, false, cond, ◌||◌, List, [], ◌∷◌, ◌++◌, length, drop, get_or, Option, Some, None, refl, sym, ap, subst, ◌∙◌, arith, length-append}
use Rattle.std.proofs.Math.Seq.{drop-append_seam}
use Rattle.std.proofs.lemmas.List.{get_or-map, length-map}
use Rattle.std.specs.Prelude.{Contains, IsTrue, if◌then◌else◌, is_some, map, option_map, slice_get, unwrap_or}
use Rattle.std.specs.List.{AllByRecursion, list_all}
use Rattle.std.specs.Str.{bytes_eq}
use Rattle.std.specs.Cmp.Lexicographic.{bytes_decides}
use Rattle.std.proofs.lemmas.Option.{same_Some}
use Rattle.ps_frame.specs.Causes.{Cause, Column, is_empty}
use Rattle.ps_frame.specs.Frames.{has_distinct_names, has_name}
use Rattle.ps_frame.specs.Functions.{Functions}
use Rattle.ps_frame.specs.Tables.{Fields, Table, field_kind, no_rows}
use Rattle.ps_frame.specs.Trees.{Tree}
use Rattle.ps_frame.specs.Typing.{is_elementwise, kind_over}
use Rattle.ps_frame.specs.Zip.{Zipped, zipped}
use Rattle.ps_frame.specs.declared.value.DataType.{DataType}
use Rattle.ps_frame.specs.declared.value.Value.{Value}
use Rattle.ps_meaning.specs.Cases.{Case, GivesBeforeCut, IsCaseBrokenBy, columns_at, hstack_places, keyed, out_schema, table_of}
use Rattle.ps_meaning.specs.Distinct.{picked, places_in}
use Rattle.ps_meaning.specs.Meaning.{IsLargeCase}
use Rattle.ps_meaning.specs.Schemas.{both as both_of, expr_names, fields_of, is_among, names_of, put_fields}
use Rattle.ps_meaning.specs.Shape.{IsPhysicalChoice, PhysicalNode, select_node}
use Rattle.ps_meaning.specs.Sound.{schema_at as schema_there}
use Rattle.ps_meaning.specs.Steps.{Name, Named, exprs_of, hstack, select}
use Rattle.ps_meaning.proofs.StepFits.{or-parts, same-name}
use Rattle.ps_shares.proofs.Projected.{kind_as, named_as}
use Rattle.ps_plan.specs.Lowering.{HasRowsOf}
use Rattle.ps_rules.specs.Calls.{Answer}
use Rattle.ps_rules.specs.Lowered.{lower_exprs}
use Rattle.ps_rules.specs.Slots.{Made, State, Stream, over, schema_at, under}
use Rattle.ps_shares.specs.Kept.{HasNoOther, IsReady, all_causes}
use Rattle.ps_shares.proofs.Aggregated.{map_again}
use Rattle.ps_shares.proofs.Ends.{exprs_under, has_either, has_first}
use Rattle.ps_shares.proofs.Members.{Has, from_has, to_has}
use Rattle.ps_shares.proofs.Stands.{HasKind}
use Rattle.ps_bundles.proofs.ExprEnds.{one_of}
use Rattle.ps_bundles.proofs.Gathered.{has_last}
use Rattle.ps_bundles.proofs.StepEnds.{none_other}
use Rattle.ps_bundles.proofs.ZipEnds.{some_is}
use Rattle.lowering_sizes.proofs.Nodes.{plain_modest, select_rows, step_modest}
use Rattle.plan_rules.specs.Groups.{columns_over}
use Rattle.plan_rules.specs.Nodes.{expr_or_column, extended_apart, hstack_stream}
use Rattle.step_keeps.specs.Kept.{EndsAsStep, IsKeptStep, KeepsStep, ShowsOnlyStep, SomeIsLarge}
use Rattle.step_keeps.proofs.Added.{restricted}
use Rattle.step_keeps.proofs.One.{last_there, plain_means}
use Rattle.picked_zips.proofs.Members.{has_place}
use Rattle.picked_zips.specs.Picked.{columns_in}
use Rattle.keyed_calls.specs.Keyed.{IsLargeBy, KeyedAlike, row_by}
use Rattle.keyed_calls.proofs.Alike.{of_named, same_empty}
use Rattle.keyed_calls.proofs.Asked.{IsOf, Makes, case_of, makes, own_schema, shown}
use Rattle.keyed_calls.proofs.Calls.{alike_behind, keys_behind, shows_behind}
use Rattle.keyed_calls.proofs.Told.{Adds, Tells, adds_node, one_fed, tells_step, tells_then}
use Rattle.column_keeps.proofs.Entries.{Entry, at_or, entries, expr_is, index_of, next, own_index, put_has, put_keeps}
use Rattle.column_keeps.proofs.Places.{IsOut, OutsStandForAll, beside_kept, columns_alike, cs, later, out_columns, out_values, place, places_are}

-- what a table of an hstack is
module _ (F : Functions) (at : ℕ) (es : List Named) (t : Table) (fs : Fields) (is : out_schema F at (hstack es) (t ∷ []) ≡ fs) where
  abbrev z : Zipped
  z = keyed at (exprs_of es) t

  abbrev picks : List (List Value) → List (List Value)
  picks rows = map (picked (hstack_places (names_of (out_schema F at (hstack es) (t ∷ []))) es t.schema)) rows

  abbrev given : Table
  given = table_of (out_schema F at (hstack es) (t ∷ [])) picks z

  abbrev without : Table
  without = no_rows (out_schema F at (hstack es) (t ∷ [])) z.lost

  is_given : Case F at (hstack es) (t ∷ []) given
  is_given = (given, inl refl, refl)

  is_without : z.lost ≢ [] → Case F at (hstack es) (t ∷ []) without
  is_without some = (without, inr (given, refl, some, refl), refl)

  has_some : (xs : List Cause) (c : Cause) → Has xs c → xs ≢ []
  has_some [] c h e = absurd h
  has_some (x ∷ xs) c h e = cc

  breaks : (c : Cause) → Contains (all_causes z) c → IsCaseBrokenBy F at (hstack es) (t ∷ []) c
  breaks c h = by (has_either z.broken z.lost c (to_has (all_causes z) c h))
    where
      by : Has z.broken c ⊎ Has z.lost c → IsCaseBrokenBy F at (hstack es) (t ∷ []) c
      by (inl k) = (given, inl is_given, from_has z.broken c k)
      by (inr k) = (without, inl (is_without (has_some z.lost c k)), from_has z.lost c k)

-- the names of the fields of expressions
fields_are : (es : List Named) (s fs : Fields) → fields_of es s ≡ Some fs → names_of fs ≡ expr_names es
fields_are [] s fs e = ap names_of (sym (same_Some [] fs e))
fields_are (x ∷ es) s fs e = by (kind_over s x.1) (fields_of es s) e (fields_are es s)
  where
    by : (o : Option DataType) (r : Option Fields) → both_of (λ (k : DataType) (gs : Fields). (x.0, k) ∷ gs) o r ≡ Some fs → ((gs : Fields) → r ≡ Some gs → names_of gs ≡ expr_names es) → names_of fs ≡ x.0 ∷ expr_names es
    by None None e more = cc
    by None (Some gs) e more = cc
    by (Some k) None e more = cc
    by (Some k) (Some gs) e more = ap names_of (sym (same_Some ((x.0, k) ∷ gs) fs e)) ∙ ap (λ ms. x.0 ∷ ms) (more gs refl)

-- names of output fields
all_out : (es : List Named) (s fs : Fields) → AllByRecursion (Entry es s) fs → AllByRecursion (IsOut es s) (names_of fs)
all_out es s [] all = tt
all_out es s (f ∷ fs) all = (by all.0, all_out es s fs all.1)
  where
    by : Entry es s f → IsOut es s f.0
    by (inl h) = inl (h.m, h.is, h.inside)
    by (inr (none, own)) = inr (none, ap is_some own)

has_named : (n : Name) (fs : Fields) → has_name n fs ≡ true → Has (names_of fs) n
has_named n [] h = cc
has_named n (f ∷ fs) h = by (bytes_eq n f.0) refl h (has_named n fs)
  where
    by : (b : Bool) → bytes_eq n f.0 ≡ b → (bytes_eq n f.0 || has_name n fs) ≡ true → (has_name n fs ≡ true → Has (names_of fs) n) → (f.0 ≡ n) ⊎ Has (names_of fs) n
    by true q h rest = inl (sym ((bytes_decides n f.0).0 q))
    by false q h rest = inr (rest (sym (ap (λ b. b || has_name n fs) q) ∙ h))

named_has : (n : Name) (fs : Fields) → Has (names_of fs) n → has_name n fs ≡ true
named_has n [] h = absurd h
named_has n (f ∷ fs) (inl e) = ap (λ m. bytes_eq n m || has_name n fs) e ∙ ap (λ b. b || has_name n fs) (same-name n)
named_has n (f ∷ fs) (inr h) = right (bytes_eq n f.0) (has_name n fs) (named_has n fs h)
  where
    right : (a b : Bool) → b ≡ true → (a || b) ≡ true
    right true b h = refl
    right false b h = h

-- what is asked of the fields of an hstack: kinds over another table
out_fields : (es : List Named) (s f : Fields) (xs : List Tree) (fs : Fields) → AllByRecursion (Entry es s) fs → map (kind_over f) xs ≡ map (kind_over s) (exprs_of es) → length xs ≡ length es → ((n : Name) → HasKind s n → field_kind n f ≡ field_kind n s)
    → fields_of (under (names_of fs) (map (λ n. expr_or_column (under (expr_names es) xs) n) (names_of fs))) f ≡ Some fs
out_fields es s f xs [] all kinds count same = refl
out_fields es s f xs (x ∷ fs) all kinds count same =
    let rest = out_fields es s f xs fs all.1 kinds count same in
    let first = by all.0 in
    λ i. both_of (λ (k : DataType) (gs : Fields). (x.0, k) ∷ gs) (first i) (rest i)
  where
    by : Entry es s x → kind_over f (expr_or_column (under (expr_names es) xs) x.0) ≡ Some x.1
    by (inl h) =
        let lt : h.m < length xs = subst (λ k. h.m < k) (sym count) h.inside in
        let lt' : h.m < length (exprs_of es) = subst (λ k. h.m < k) (sym (length-map es (λ (e : Named). e.1))) h.inside in
        ap (kind_over f) (expr_is x.0 es xs count)
        ∙ ap (λ o. kind_over f (at_or (λ m. get_or xs m Tree.missing) (Tree.column x.0) o)) h.is
        ∙ sym (get_or-map (kind_over f) xs h.m Tree.missing None lt)
        ∙ ap (λ ks. get_or ks h.m None) kinds
        ∙ get_or-map (kind_over s) (exprs_of es) h.m Tree.missing None lt'
        ∙ h.kind
    by (inr (none, own)) =
        ap (kind_over f) (expr_is x.0 es xs count)
        ∙ ap (λ o. kind_over f (at_or (λ m. get_or xs m Tree.missing) (Tree.column x.0) o)) none
        ∙ same x.0 (ap is_some own)
        ∙ own

-- the expression at each place has its own output name
pub each_out : (es : List Named) (s gs : Fields) → fields_of es s ≡ Some gs → has_distinct_names gs ≡ true → (m : ℕ) → m < length es → (n : Name) × Has (names_of (put_fields s gs)) n × (index_of n es ≡ Some m)
each_out es s gs fields apart m lt =
    let n = (get_or es m ([], Tree.missing)).0 in
    let in_gs : has_name n gs ≡ true = named_has n gs (subst (λ (ns : List Name). Has ns n) (sym (fields_are es s gs fields)) (name_there es m lt)) in
    (n, has_named n (put_fields s gs) (put_has n gs s in_gs), own_index es gs s fields apart m lt)
  where
    name_there : (es : List Named) (m : ℕ) → m < length es → Has (expr_names es) (get_or es m ([], Tree.missing)).0
    name_there [] m lt = absurd (omega arith)
    name_there (e ∷ es) zero lt = inl refl
    name_there (e ∷ es) (suc m) lt = inr (name_there es m (omega arith))

pub all_outs : (es : List Named) (s gs : Fields) → fields_of es s ≡ Some gs → has_distinct_names s ≡ true → has_distinct_names gs ≡ true → AllByRecursion (IsOut es s) (names_of (put_fields s gs))
all_outs es s gs fields distinct apart = all_out es s (put_fields s gs) (entries es s gs fields distinct apart)

-- Expressions that are alike behind two tables, and what a select gives of the one.
module _ (F : Functions) (at : ℕ) (es : List Named) (xs : List Tree) (gs : Fields) (t z' : Table) (alike : KeyedAlike at (names_of t.schema) (exprs_of es) xs t z') (fields : fields_of es t.schema ≡ Some gs) (distinct : has_distinct_names t.schema ≡ true) (apart : has_distinct_names gs ≡ true)
    (count : length xs ≡ length es) (zips : OutsStandForAll at es gs xs t z') where
  abbrev fs : Fields
  fs = put_fields t.schema gs

  abbrev out : List Name
  out = names_of fs

  abbrev selectors : List Named
  selectors = under out (map (λ n. expr_or_column (under (expr_names es) xs) n) out)

  same : (n : Name) → HasKind t.schema n → field_kind n z'.schema ≡ field_kind n t.schema
  same n h = of_named (λ n. field_kind n z'.schema ≡ field_kind n t.schema) t.schema n h alike.same_kinds

  all : AllByRecursion (IsOut es t.schema) out
  all = all_outs es t.schema gs fields distinct apart

  abbrev a : Zipped
  a = keyed at xs z'

  abbrev b : Zipped
  b = keyed at (exprs_of es) t

  selected_columns : columns_in (cs es t.schema z'.schema xs count same at z' refl) (map (place es t.schema z'.schema xs count same) out) ≡ columns_at at (exprs_of selectors) z'
  selected_columns =
      (out_columns es t.schema z'.schema xs count same at z' refl out all).0
      ∙ (λ i. columns_at at (map (λ n. sym (expr_is n es xs count) i) out) z')
      ∙ ap (λ ys. columns_at at ys z') (sym (exprs_under out (map (λ n. expr_or_column (under (expr_names es) xs) n) out) (sym (length-map out (λ n. expr_or_column (under (expr_names es) xs) n)))))

  abbrev y : Zipped
  y = zipped false at (columns_at at (exprs_of selectors) z')

  y_rows : y.rows ≡ map (picked (map (place es t.schema z'.schema xs count same) out)) a.rows
  y_rows = sym (ap (λ (ds : List Column). (zipped false at ds).rows) selected_columns) ∙ zips.rows

  y_broken : is_empty y.broken ≡ is_empty a.broken
  y_broken = sym (ap (λ (ds : List Column). is_empty (zipped false at ds).broken) selected_columns) ∙ same_empty _ a.broken zips.broken_by_all zips.broken_by_these

  y_lost : HasNoOther y.lost a.lost
  y_lost = subst (λ (ds : List Column). HasNoOther (zipped false at ds).lost a.lost) selected_columns zips.lost_by_all

  y_causes : HasNoOther (all_causes y) (all_causes a)
  y_causes c h = by (has_either y.broken y.lost c (to_has (all_causes y) c h))
    where
      by : Has y.broken c ⊎ Has y.lost c → Contains (all_causes a) c
      by (inl k) = from_has (all_causes a) c (has_first a.broken a.lost c (to_has a.broken c (subst (λ (ds : List Column). HasNoOther (zipped false at ds).broken a.broken) selected_columns zips.broken_by_all c (from_has y.broken c k))))
      by (inr k) = from_has (all_causes a) c (has_last a.broken a.lost c (to_has a.lost c (y_lost c (from_has y.lost c k))))

  same_self : (n : Name) → HasKind t.schema n → field_kind n t.schema ≡ field_kind n t.schema
  same_self n h = refl

  own_count : length (exprs_of es) ≡ length es
  own_count = length-map es (λ (e : Named). e.1)

  abbrev is_out : Type 0
  is_out = out_schema F at (hstack es) (t ∷ []) ≡ fs

  -- the values of the output columns
  same_rows : (out_t : is_out) → map (row_by (places_in (names_of t.schema) z'.schema) (length z'.schema) xs) a.rows ≡ map (row_by (places_in (names_of t.schema) t.schema) (length t.schema) (exprs_of es)) b.rows → y.rows ≡ picks F at es t fs out_t b.rows
  same_rows out_t rows =
      let l = later es t.schema z'.schema xs count same in
      y_rows
      ∙ (λ i. map (λ row. out_values es t.schema z'.schema xs count same out all row i) a.rows)
      ∙ sym (map_again (picked (map l out)) (row_by (places_in (names_of t.schema) z'.schema) (length z'.schema) xs) a.rows)
      ∙ ap (map (picked (map l out))) rows
      ∙ map_again (picked (map l out)) (row_by (places_in (names_of t.schema) t.schema) (length t.schema) (exprs_of es)) b.rows
      ∙ (λ i. map (λ row. sym (out_values es t.schema t.schema (exprs_of es) own_count same_self out all row) i) b.rows)
      ∙ ap (λ js. map (picked js) b.rows) (sym (places_are es t.schema t.schema (exprs_of es) own_count same_self out))
      ∙ ap (λ gs. map (picked (hstack_places (names_of gs) es t.schema)) b.rows) (sym out_t)

  -- a table of the select ends as one of the hstack
  pub record Extended (L : Table) : Type 0 where
    pub table : Table
    pub case : Case F at (hstack es) (t ∷ []) table
    pub schema : table.schema ≡ fs
    pub rows : table.rows ≡ L.rows
    pub whole : is_empty table.broken ≡ is_empty L.broken

  pub extended : is_out → (L : Table) → IsOf F at selectors z' L → Extended L
  extended out_t L (inl (r, q)) = by alike.ends
    where
      by : ((map (row_by (places_in (names_of t.schema) z'.schema) (length z'.schema) xs) a.rows ≡ map (row_by (places_in (names_of t.schema) t.schema) (length t.schema) (exprs_of es)) b.rows) × (is_empty a.broken ≡ is_empty b.broken)) ⊎ ((a.rows ≡ []) × (a.broken ≢ []) × (b.lost ≢ [])) → Extended L
      by (inl (rows, whole)) = record { table = given F at es t fs out_t; case = is_given F at es t fs out_t; schema = out_t; rows = sym (same_rows out_t rows) ∙ sym r; whole = sym whole ∙ sym y_broken ∙ ap is_empty (sym q) }
      by (inr (none, broken, lost)) =
          record {
            table = without F at es t fs out_t;
            case = is_without F at es t fs out_t lost;
            schema = out_t;
            rows = sym (r ∙ y_rows ∙ ap (map (picked (map (place es t.schema z'.schema xs count same) out))) none);
            whole = some_is b.lost lost ∙ sym (some_is a.broken broken) ∙ sym y_broken ∙ ap is_empty (sym q);
          }
  extended out_t L (inr (r, q, some)) = by (alike.lost (λ e. some (none_other y.lost a.lost y_lost e)))
    where
      by : ((b.rows ≡ []) × (b.broken ≢ [])) ⊎ (b.lost ≢ []) → Extended L
      by (inl (none, broken)) =
          record {
            table = given F at es t fs out_t;
            case = is_given F at es t fs out_t;
            schema = out_t;
            rows = ap (picks F at es t fs out_t) none ∙ sym r;
            whole = some_is b.broken broken ∙ sym (some_is y.lost some) ∙ ap is_empty (sym q);
          }
      by (inr lost) = record { table = without F at es t fs out_t; case = is_without F at es t fs out_t lost; schema = out_t; rows = sym r; whole = some_is b.lost lost ∙ sym (some_is y.lost some) ∙ ap is_empty (sym q) }

  pub same_causes : is_out → (c : Cause) → IsCaseBrokenBy F at (select selectors) (z' ∷ []) c → IsCaseBrokenBy F at (hstack es) (t ∷ []) c
  same_causes out_t c h = breaks F at es t fs out_t c (alike.causes c (y_causes c (shown F at selectors z' c h)))

  abbrev Large : Type 0
  Large = IsLargeCase F at (hstack es) (t ∷ []) ⊎ SomeIsLarge (t ∷ [])

  pub to_large : IsLargeBy at (exprs_of es) t → Large
  to_large (inl l) = inl (inl l)
  to_large (inr l) = inr (inl l)

  all_plain : AllByRecursion (λ e. IsTrue (is_elementwise e)) (exprs_of selectors)
  all_plain =
      subst (AllByRecursion (λ e. IsTrue (is_elementwise e))) (sym (exprs_under out (map (λ n. expr_or_column (under (expr_names es) xs) n) out) (sym (length-map out (λ n. expr_or_column (under (expr_names es) xs) n))))) (by out all)
    where
      one : (n : Name) → IsOut es t.schema n → is_elementwise (expr_or_column (under (expr_names es) xs) n) ≡ true
      one n (inl (m, is, lt)) =
          let lt' : m < length xs = subst (λ k. m < k) (sym count) lt in
          ap is_elementwise (expr_is n es xs count ∙ ap (λ o. at_or (λ m. get_or xs m Tree.missing) (Tree.column n) o) is) ∙ one_of (λ e. is_elementwise e ≡ true) xs (get_or xs m Tree.missing) alike.elementwise (has_place xs m Tree.missing lt')
      one n (inr (none, own)) = ap is_elementwise (expr_is n es xs count ∙ ap (λ o. at_or (λ m. get_or xs m Tree.missing) (Tree.column n) o) none)

      by : (ns : List Name) → AllByRecursion (IsOut es t.schema) ns → AllByRecursion (λ e. IsTrue (is_elementwise e)) (map (λ n. expr_or_column (under (expr_names es) xs) n) ns)
      by [] h = tt
      by (n ∷ ns) h = (one n h.0, by ns h.1)

  pub same_sizes : IsLargeCase F at (select selectors) (z' ∷ []) ⊎ SomeIsLarge (z' ∷ []) → Large
  same_sizes (inl (inl l)) = step_modest Large at z' (exprs_of selectors) (plain_modest Large at z' (λ long. to_large (alike.small long)) (exprs_of selectors) all_plain) l
  same_sizes (inl (inr (U, g, long))) = select_rows Large at F selectors z' U (plain_modest Large at z' (λ long. to_large (alike.small long)) (exprs_of selectors) all_plain) g long
  same_sizes (inr (inl long)) = to_large (alike.small long)
  same_sizes (inr (inr l)) = absurd l

module _ (F : Functions) (at : ℕ) (s : State) (i : Stream) (es : List Named) (gs : Fields) (cells : list_all is_elementwise (exprs_of es) ≡ false) (some : schema_at s.nodes i ≢ []) (fields : fields_of es (schema_at s.nodes i) ≡ Some gs) (apart : has_distinct_names gs ≡ true)
    (ready : IsReady s i (columns_over i s ++ exprs_of es)) (low : (lower_exprs at i (columns_over i s ++ exprs_of es) s).state.names.next ≤ 2 ^ 64)
    (full : let xs = drop (length (columns_over i s)) (lower_exprs at i (columns_over i s ++ exprs_of es) s).exprs in (t z : Table) → t.schema ≡ schema_at s.nodes i → KeyedAlike at (names_of t.schema) (exprs_of es) xs t z → has_distinct_names t.schema ≡ true → OutsStandForAll at es gs xs t z) where
  abbrev asked : List Tree
  asked = columns_over i s ++ exprs_of es

  abbrev schema : Fields
  schema = put_fields (schema_at s.nodes i) gs

  abbrev call : Answer
  call = lower_exprs at i asked s

  abbrev ys : List Tree
  ys = drop (length (columns_over i s)) call.exprs

  abbrev chosen_exprs : List Named
  chosen_exprs = under (names_of schema) (map (expr_or_column (under (expr_names es) ys)) (names_of schema))

  abbrev node : PhysicalNode
  node = record { kind = select_node chosen_exprs false; schema = schema; origin = at; inputs = call.stream ∷ [] }

  abbrev m : Made
  m = over at (select_node chosen_exprs false) schema call.stream call.state

  made_is : hstack_stream at es schema i s ≡ m
  made_is = ap (λ (b : Bool). cond {A = Stream → State → Made} b (over at (select_node es true) schema) (extended_apart at es schema) i s) cells

  answered : (keys_behind F at i s (exprs_of es) some ready).0 ≡ ys
  answered = let k = keys_behind F at i s (exprs_of es) some ready in sym (ap (drop (length (columns_over i s))) k.1 ∙ drop-append_seam (columns_over i s) k.0)

  many : length ys ≡ length es
  many = sym (ap length answered) ∙ (keys_behind F at i s (exprs_of es) some ready).2 ∙ length-map es (λ (e : Named). e.1)

  lowered : Makes F at i s asked ready
  lowered = makes F at i s asked ready

  first_adds : Adds at s.nodes (i ∷ []) call.state.nodes
  first_adds = record { more = lowered.more; nodes = lowered.nodes; made = lowered.made }

  all_adds : Adds at s.nodes (i ∷ []) m.state.nodes
  all_adds = adds_node at s.nodes call.state.nodes (i ∷ []) first_adds node refl (one_fed s.nodes (i ∷ []) call.stream lowered.fed)

  module _ (tables : ℕ → Table) (chosen : IsPhysicalChoice F m.state.nodes tables) (rows : HasRowsOf (schema_there (slice_get s.nodes i.0)) (tables i.0)) where
    abbrev T : Table
    T = tables i.0

    abbrev Z : Table
    Z = tables call.stream.0

    abbrev S : Table
    S = tables m.stream.0

    chosen_first : IsPhysicalChoice F call.state.nodes tables
    chosen_first = restricted F call.state.nodes m.state.nodes (node ∷ []) refl tables chosen

    own : schema_at s.nodes i ≡ T.schema
    own = own_schema F at i s asked ready low tables chosen_first rows

    distinct : has_distinct_names T.schema ≡ true
    distinct = ap has_distinct_names (rows.0 ∙ ap schema_there ready.there) ∙ ready.distinct_names

    alike : KeyedAlike at (names_of T.schema) (exprs_of es) ys T Z
    alike =
        subst (λ (f : Fields). KeyedAlike at (names_of f) (exprs_of es) ys T Z) own
        (subst (λ (xs : List Tree). KeyedAlike at (names_of (schema_at s.nodes i)) (exprs_of es) xs T Z) answered (alike_behind F at i s (exprs_of es) some ready low tables chosen_first rows))

    fields_T : fields_of es T.schema ≡ Some gs
    fields_T = ap (fields_of es) (sym own) ∙ fields

    outs : OutsStandForAll at es gs ys T Z
    outs = full T Z (sym own) alike distinct

    out_T : out_schema F at (hstack es) (T ∷ []) ≡ put_fields T.schema gs
    out_T = ap (λ o. unwrap_or (option_map (put_fields T.schema) o) []) fields_T

    same_schema : schema ≡ put_fields T.schema gs
    same_schema = ap (λ (f : Fields). put_fields f gs) own

    abbrev news : List Named
    news = selectors F at es ys gs T Z alike fields_T distinct apart many outs

    same_exprs : chosen_exprs ≡ news
    same_exprs = ap (λ (f : Fields). under (names_of f) (map (expr_or_column (under (expr_names es) ys)) (names_of f))) same_schema

    stage : EndsAsStep F at (select chosen_exprs) (Z ∷ []) S × ShowsOnlyStep F call.state.nodes m.state.nodes tables at (select chosen_exprs) (Z ∷ [])
    stage = plain_means F at (select chosen_exprs) (select_node chosen_exprs false) schema (call.stream ∷ []) refl (λ ts. refl) refl call.state.nodes tables chosen

    abbrev L : Table
    L = stage.0.table.0

    case_L : Case F at (select news) (Z ∷ []) L
    case_L = subst (λ (ns : List Named). Case F at (select ns) (Z ∷ []) L) same_exprs stage.0.table.1

    is_of : IsOf F at news Z L
    is_of = case_of F at news Z L case_L

    L_schema : L.schema ≡ put_fields T.schema gs
    L_schema = select_schema case_L ∙ ap (λ o. unwrap_or o []) (out_fields es T.schema Z.schema ys (put_fields T.schema gs) (entries es T.schema gs fields_T distinct apart) alike.kinds many (λ n h. of_named (λ n. field_kind n Z.schema ≡ field_kind n T.schema) T.schema n h alike.same_kinds))
      where
        before_schema : (U : Table) → GivesBeforeCut F at (select news) (Z ∷ []) U → U.schema ≡ out_schema F at (select news) (Z ∷ [])
        before_schema U (inl e) = ap (λ (T : Table). T.schema) e
        before_schema U (inr (V, g, some, e)) = ap (λ (T : Table). T.schema) e ∙ ap (λ (T : Table). T.schema) g

        select_schema : Case F at (select news) (Z ∷ []) L → L.schema ≡ out_schema F at (select news) (Z ∷ [])
        select_schema (U, g, e) = ap (λ (T : Table). T.schema) e ∙ before_schema U g

    k : Extended F at es ys gs T Z alike fields_T distinct apart many outs L
    k = extended F at es ys gs T Z alike fields_T distinct apart many outs out_T L is_of

    abbrev Bad : Cause → Type 0
    Bad c = IsCaseBrokenBy F at (hstack es) (T ∷ []) c

    abbrev Large' : Type 0
    Large' = IsLargeCase F at (hstack es) (T ∷ []) ⊎ SomeIsLarge (T ∷ [])

    first_tells : Tells F tables Bad Large' s.nodes call.state.nodes
    first_tells =
        let h = shows_behind F at i s (exprs_of es) some ready low tables chosen_first rows in
        record {
          causes = λ n U c le lt may has. breaks F at es T (put_fields T.schema gs) out_T c (h.causes n U c le lt may has);
          sizes = λ n le lt large. to_large F at es ys gs T Z alike fields_T distinct apart many outs (h.sizes n le lt large);
        }

    bad : (c : Cause) → IsCaseBrokenBy F at (select chosen_exprs) (Z ∷ []) c → Bad c
    bad c h = same_causes F at es ys gs T Z alike fields_T distinct apart many outs out_T c (subst (λ (ns : List Named). IsCaseBrokenBy F at (select ns) (Z ∷ []) c) same_exprs h)

    large : IsLargeCase F at (select chosen_exprs) (Z ∷ []) ⊎ SomeIsLarge (Z ∷ []) → Large'
    large h = same_sizes F at es ys gs T Z alike fields_T distinct apart many outs (subst (λ (ns : List Named). IsLargeCase F at (select ns) (Z ∷ []) ⊎ SomeIsLarge (Z ∷ [])) same_exprs h)

    means : EndsAsStep F at (hstack es) (T ∷ []) S × ShowsOnlyStep F s.nodes m.state.nodes tables at (hstack es) (T ∷ [])
    means =
        let told = tells_then F tables Bad Large' s.nodes call.state.nodes m.state.nodes (node ∷ []) refl first_tells (tells_step F tables Bad Large' at (select chosen_exprs) (Z ∷ []) call.state.nodes m.state.nodes stage.1 bad large) in
        let a = stage.0.table.2 in (
          record {
            table = (k.table, k.case, record { same_schema = a.same_schema ∙ L_schema ∙ sym k.schema; same_rows = a.same_rows ∙ sym k.rows; both_whole = a.both_whole ∙ sym k.whole });
            causes = λ c h. bad c (stage.0.causes c h);
          },
          record { causes = told.causes; sizes = told.sizes },
        )

  made_keeps : KeepsStep F at (hstack es) s m.state (i ∷ []) m.stream
  made_keeps =
      record {
        more = all_adds.more;
        nodes = all_adds.nodes;
        made = all_adds.made;
        there = last_there call.state.nodes node;
        fed = inl (let l = ap length first_adds.nodes ∙ length-append s.nodes first_adds.more in omega arith);
        meaning = λ tables chosen rows. means tables chosen rows.0;
      }

  pub columns_keep : IsKeptStep F at (hstack es) schema (i ∷ []) s
  columns_keep = subst (λ (m : Made). KeepsStep F at (hstack es) s m.state (i ∷ []) m.stream) (sym made_is) made_keeps

-- a name that no expression has
no_index : (n : Name) (es : List Named) → is_among n (expr_names es) ≡ false → index_of n es ≡ None
no_index n [] h = refl
no_index n (e ∷ es) h =
    let parts = or-parts (bytes_eq n e.0) (is_among n (expr_names es)) h in
    ap (λ b. if b then Some 0 else next (index_of n es)) parts.0 ∙ ap next (no_index n es parts.1)

-- where some column stays, its own and the expressions stand for all
stays_stand : (at : ℕ) (es : List Named) (xs : List Tree) (gs : Fields) (t z : Table) → KeyedAlike at (names_of t.schema) (exprs_of es) xs t z → fields_of es t.schema ≡ Some gs → has_distinct_names t.schema ≡ true → has_distinct_names gs ≡ true → length xs ≡ length es → (other : Name)
    → HasKind t.schema other → index_of other es ≡ None → OutsStandForAll at es gs xs t z
stays_stand at es xs gs t z alike fields distinct apart count other own free =
    let out = names_of (put_fields t.schema gs) in
    let same : (n : Name) → HasKind t.schema n → field_kind n z.schema ≡ field_kind n t.schema = λ n h. of_named (λ n. field_kind n z.schema ≡ field_kind n t.schema) t.schema n h alike.same_kinds in
    let all = all_outs es t.schema gs fields distinct apart in
    let among : Has out other = has_named other (put_fields t.schema gs) (put_keeps other gs t.schema (sym (kind_as other t.schema) ∙ own)) in
    columns_alike es t.schema z.schema xs count same at z refl out all (each_out es t.schema gs fields apart) (beside_kept es t.schema z.schema xs count same at z refl out all other among free own)

pub further_columns_keep : (F : Functions) (at : ℕ) (s : State) (i : Stream) (es : List Named) (gs : Fields) (name : Name) → list_all is_elementwise (exprs_of es) ≡ false → schema_at s.nodes i ≢ [] → fields_of es (schema_at s.nodes i) ≡ Some gs → has_distinct_names gs ≡ true
    → is_among name (names_of (schema_at s.nodes i)) ≡ true → is_among name (expr_names es) ≡ false → let asked = columns_over i s ++ exprs_of es in IsReady s i asked → (lower_exprs at i asked s).state.names.next ≤ 2 ^ 64 → IsKeptStep F at (hstack es) (put_fields (schema_at s.nodes i) gs) (i ∷ []) s
further_columns_keep F at s i es gs name cells some fields apart among free ready low =
    let k = keys_behind F at i s (exprs_of es) some ready in
    let answered : k.0 ≡ drop (length (columns_over i s)) (lower_exprs at i (columns_over i s ++ exprs_of es) s).exprs = sym (ap (drop (length (columns_over i s))) k.1 ∙ drop-append_seam (columns_over i s) k.0) in
    let many = sym (ap length answered) ∙ k.2 ∙ length-map es (λ (e : Named). e.1) in
    let own = kind_as name (schema_at s.nodes i) ∙ sym (named_as name (schema_at s.nodes i)) ∙ among in
    columns_keep F at s i es gs cells some fields apart ready low
    (λ t z is alike distinct. stays_stand at es (drop (length (columns_over i s)) (lower_exprs at i (columns_over i s ++ exprs_of es) s).exprs) gs t z alike (ap (fields_of es) is ∙ fields) distinct apart many name (ap (λ (f : Fields). is_some (field_kind name f)) is ∙ own) (no_index name es free))
