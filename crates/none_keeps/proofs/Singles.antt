-- A distinct that keeps the rows whose key comes once: groups with their heights, those of height 1, the columns in order and the slice.
use Rattle.std.proofs.Common.{◌≡◌, ◌≢◌, ◌⊎◌, inl, inr, ℕ, ◌+◌, ◌<◌, ◌≤◌, Bool, true, false, not, cond, ◌&&◌, List, [], ◌∷◌, ◌++◌, length, Option, Some, None, refl, sym, ap, subst, ◌∙◌, arith, length-append}
use Rattle.std.proofs.lemmas.List.{append_assoc, length-map, map-append}
use Rattle.std.specs.Prelude.{Contains, filter as those, map, slice_get, unwrap_or, if◌then◌else◌}
use Rattle.std.specs.List.{AllByRecursion, list_all}
use Rattle.ps_frame.specs.Aggregates.{max_rows}
use Rattle.ps_frame.specs.Causes.{Cause, is_empty}
use Rattle.ps_frame.specs.Frames.{has_distinct_names}
use Rattle.ps_frame.specs.Functions.{Functions}
use Rattle.ps_frame.specs.Tables.{Fields, Table, field_index, field_kind}
use Rattle.ps_frame.specs.Trees.{Aggregation, Tree}
use Rattle.ps_frame.specs.Typing.{is_elementwise}
use Rattle.ps_frame.specs.Zip.{Zipped}
use Rattle.ps_frame.specs.declared.value.DataType.{DataType}
use Rattle.ps_frame.specs.declared.value.DataType.TheVariants as kind
use Rattle.ps_frame.specs.declared.value.Value.{Value}
use Rattle.ps_meaning.specs.Cases.{Case, GivesBeforeCut, IsCaseBrokenBy, out_schema, table_of, where_true}
use Rattle.ps_meaning.specs.Distinct.{distinct_rows, kept_rows, key_places, picked, places_in, single_rows as singles_in, subset_places}
use Rattle.ps_meaning.specs.Meaning.{IsLargeCase}
use Rattle.ps_meaning.specs.Orders.{IsOrder}
use Rattle.ps_meaning.specs.Schemas.{fields_of, is_among, named_fields, names_of}
use Rattle.ps_meaning.specs.Shape.{IsPhysicalChoice, PhysicalNode, filter_node, group_by_node, in_memory_map}
use Rattle.ps_meaning.specs.Steps.{Cut, DistinctStep, GroupStep, Name, Named, distinct, exprs_of, filter, group_by}
use Rattle.ps_meaning.specs.declared.options.UniqueKeepStrategy.{UniqueKeepStrategy}
use Rattle.ps_meaning.specs.declared.options.UniqueKeepStrategy.TheVariants as keep
use Rattle.ps_meaning.specs.Within.{Within}
use Rattle.ps_meaning.proofs.Begins.{Begins}
use Rattle.ps_meaning.proofs.Fits.{all-append, all-filter}
use Rattle.ps_meaning.proofs.StepFits.{own-kinds}
use Rattle.ps_rules.specs.Names.{after_fresh}
use Rattle.ps_rules.specs.Slots.{Made, State, Stream, after_name, columns_named, insert_node, new_name, over_same, schema_at, schema_or_none, selected_schema, with_columns}
use Rattle.plan_rules.specs.Distinct.{distinct_stream, grouped_distinct, groups_with, is_one, kept_value, kept_values, keeps_last, keeps_none, mapped_distinct, other_than, single_rows}
use Rattle.plan_rules.specs.Groups.{can_stream, group_stream, mapped_groups, own_columns, streamed_groups}
use Rattle.plan_rules.specs.Slices.{cut_stream}
use Rattle.step_keeps.specs.Kept.{EndsAsStep, HaveRows, IsKeptStep, IsPlainReduction, KeepsStep, ShowsOnlyStep, SomeIsLarge, tables_from}
use Rattle.step_keeps.proofs.Added.{restricted}
use Rattle.step_keeps.proofs.ByCell.{columns_cells}
use Rattle.step_keeps.proofs.Mapped.{mapped_groups_keep}
use Rattle.step_keeps.proofs.One.{last_node, last_there, plain_means}
use Rattle.step_keeps.proofs.OwnColumns.{named_names, own_fields}
use Rattle.step_keeps.proofs.Streamed.{groups_made, plain_groups_keep}
use Rattle.ps_shares.proofs.Aggregated.{map_again}
use Rattle.ps_shares.proofs.Ends.{exprs_under}
use Rattle.lowering_sizes.proofs.Nodes.{filter_rows, plain_modest, step_modest}
use Rattle.picked_zips.proofs.Keyed.{all_both}
use Rattle.keyed_calls.specs.Keyed.{AllStand}
use Rattle.keyed_calls.proofs.Projecting.{IsNamed, Projects, is_named, projects}
use Rattle.keyed_calls.proofs.Told.{Adds, IsFed, Tells, adds_node, adds_then, fed_later, one_fed, tells_step, tells_then}
use Rattle.distinct_parts.proofs.FirstPicked.{first_picked, picks_first}
use Rattle.distinct_parts.proofs.FirstRows.{with_key}
use Rattle.distinct_parts.proofs.Picks.{Picks}
use Rattle.distinct_parts.proofs.Columns.{all_places, covered, field_kinds, fields_both, have_fields, names_kinds, olds, own_fields_of, picked_fields_of, schemas_agree}
use Rattle.plan_keeps.specs.Small.{IsKeptSmallStep, KeepsStepOver}
use Rattle.none_keeps.proofs.Counted.{Begun, begun, breaks, case_schema, case_wide, of_case, own_causes, same_sizes, single, singles}
use Rattle.none_keeps.specs.Stays.{TablesStayWithin}
use Rattle.flagged_rows.proofs.CutOver.{cut_over}
use Rattle.flagged_rows.proofs.CutStays.{cut_stays}
use Rattle.flagged_rows.proofs.Flagged.{same_end, z, z_broken, z_causes, z_kept, z_lost, z_whole}
use Rattle.flagged_rows.proofs.FieldKinds.{among_own, kinds_stay}
use Rattle.flagged_rows.proofs.Places.{kind_behind, stands_behind}
use Rattle.flagged_rows.proofs.SingleRows.{comes_once, single_rows_are}
use native.Mathlib.Decide.{dec_le}
use mathlib.Core.Logic.{dite}

-- a slice draws no names
cut_names : (at : ℕ) (cut : Cut) (i : Stream) (s : State) → (cut_stream at cut i s).state.names ≡ s.names
cut_names at None i s = refl
cut_names at (Some cut) i s = refl

module _ (a : Aggregation) (picks : Picks a) (F : Functions) (at : ℕ) (s : State) (i : Stream) (o : DistinctStep) (apart : (o.maintain_order && keeps_last o.keep) ≡ false) (none : keeps_none o.keep ≡ true) (value_is : kept_value o.keep ≡ a)
    (keeps : (places : List ℕ) (rows ys : List (List Value)) → IsOrder o.maintain_order (map (λ key. picks.row (with_key places key rows)) (those (comes_once places rows) (distinct_rows (map (picked places) rows)))) ys → IsOrder o.maintain_order (kept_rows o.keep places rows) ys)
    (some : schema_at s.nodes i ≢ []) (distinct_names : has_distinct_names (schema_at s.nodes i) ≡ true)
    (kf : Fields) (keyed_by : named_fields (unwrap_or o.subset (names_of (schema_at s.nodes i))) (schema_at s.nodes i) ≡ Some kf) (some_key : unwrap_or o.subset (names_of (schema_at s.nodes i)) ≢ []) where
  abbrev own : Fields
  own = schema_at s.nodes i

  abbrev all : List Name
  all = names_of own

  abbrev keys : List Name
  keys = unwrap_or o.subset all

  abbrev others : List Name
  others = other_than keys all

  abbrev height : Name
  height = new_name s

  abbrev heights : List Named
  heights = (height, Tree.len) ∷ []

  abbrev started : State
  started = after_name s

  abbrev go : GroupStep
  go = record { keys = own_columns keys; aggregates = kept_values o.keep others ++ heights; maintain_order = o.maintain_order; cut = None }

  abbrev uncut : DistinctStep
  uncut = record { subset = o.subset; maintain_order = o.maintain_order; keep = o.keep; cut = None }

  abbrev HasKindIn : Name → Type 0
  HasKindIn n = (k : DataType) × (field_kind n own ≡ Some k)

  others_fields : (f : Fields) × (named_fields others own ≡ Some f)
  others_fields = have_fields others own (all-filter HasKindIn (λ n. not (is_among n keys)) all (names_kinds own own (own-kinds own distinct_names)))

  abbrev g0 : Fields
  g0 = kf ++ others_fields.0

  abbrev more : Fields
  more = (height, kind.IdxSize) ∷ []

  abbrev g1 : Fields
  g1 = g0 ++ more

  abbrev picked_named : Name → Named
  picked_named n = (n, Tree.aggregate a (Tree.column n))

  picked_are : kept_values o.keep others ≡ map picked_named others
  picked_are = ap (λ a. map (λ n. (n, Tree.aggregate a (Tree.column n))) others) value_is

  fields : fields_of (go.keys ++ go.aggregates) own ≡ Some g1
  fields =
      ap (λ (es : List Named). fields_of es own) (sym (append_assoc (own_columns keys) (kept_values o.keep others) heights))
      ∙ fields_both (own_columns keys ++ kept_values o.keep others) heights own g0 more
      (ap (λ (es : List Named). fields_of (own_columns keys ++ es) own) picked_are ∙ fields_both (own_columns keys) (map picked_named others) own kf others_fields.0 (own_fields_of keys own kf keyed_by) (picked_fields_of a picks others own others_fields.0 others_fields.1)) refl

  plain : AllByRecursion (λ (e : Named). IsPlainReduction e.1) go.aggregates
  plain = subst (λ (es : List Named). AllByRecursion (λ (e : Named). IsPlainReduction e.1) (es ++ heights)) (sym picked_are) (all-append (λ (e : Named). IsPlainReduction e.1) (map picked_named others) heights (by others) (tt, tt))
    where
      by : (ns : List Name) → AllByRecursion (λ (e : Named). IsPlainReduction e.1) (map picked_named ns)
      by [] = tt
      by (n ∷ ns) = (tt, by ns)

  keys_are : exprs_of go.keys ≡ columns_named keys
  keys_are = exprs_under keys (columns_named keys) (sym (length-map keys (λ n. Tree.column n)))

  cells : list_all is_elementwise (exprs_of go.keys) ≡ true
  cells = ap (list_all is_elementwise) keys_are ∙ columns_cells keys

  some_group_key : go.keys ≢ []
  some_group_key = by keys some_key
    where
      by : (ns : List Name) → ns ≢ [] → own_columns ns ≢ []
      by [] some = absurd (some refl)
      by (n ∷ ns) some = λ e. cc

  -- one node, whether it streams or not
  one : (p : PhysicalNode) × (group_stream at go i started ≡ insert_node started p) × (p.schema ≡ g1)
  one = by (can_stream go) refl
    where
      schema_is : selected_schema (go.keys ++ go.aggregates) own ≡ g1
      schema_is = ap (λ r. unwrap_or r []) fields

      by : (b : Bool) → can_stream go ≡ b → (p : PhysicalNode) × (group_stream at go i started ≡ insert_node started p) × (p.schema ≡ g1)
      by true q =
          (record { kind = group_by_node go.keys go.aggregates; schema = selected_schema (go.keys ++ go.aggregates) own; origin = at; inputs = i ∷ [] }, groups_made F at g1 i started go q cells plain some_group_key some fields, schema_is)
      by false q =
          (record { kind = in_memory_map (group_by go); schema = selected_schema (go.keys ++ go.aggregates) own; origin = at; inputs = i ∷ [] }, ap (λ (b : Bool). cond {A = Stream → State → Made} b (streamed_groups at go) (mapped_groups at go) i started) q, schema_is)

  group_kept : IsKeptStep F at (group_by go) g1 (i ∷ []) started
  group_kept = by (can_stream go) refl
    where
      by : (b : Bool) → can_stream go ≡ b → IsKeptStep F at (group_by go) g1 (i ∷ []) started
      by true q = plain_groups_keep F at g1 i started go q cells plain some_group_key some fields
      by false q = mapped_groups_keep F at g1 i started go q

  abbrev gm : Made
  gm = insert_node started one.0

  kept : KeepsStep F at (group_by go) started gm.state (i ∷ []) gm.stream
  kept = subst (λ (m : Made). KeepsStep F at (group_by go) started m.state (i ∷ []) m.stream) one.1 group_kept

  abbrev p : Tree
  p = is_one height

  abbrev node : PhysicalNode
  node = record { kind = filter_node p; schema = schema_at gm.state.nodes gm.stream; origin = at; inputs = gm.stream ∷ [] }

  abbrev fm : Made
  fm = over_same at (filter_node p) gm.stream gm.state

  abbrev w : Made
  w = with_columns at all fm.stream fm.state

  -- the columns in order and the slice
  abbrev then_ordered : Made → Made
  then_ordered g = let r = with_columns at all g.stream g.state in cut_stream at o.cut r.stream r.state

  made_is : distinct_stream at o i s ≡ cut_stream at o.cut w.stream w.state
  made_is =
      ap (λ (b : Bool). cond {A = Stream → State → Made} b (mapped_distinct at o) (grouped_distinct at o) i s) apart
      ∙ ap (λ (b : Bool). then_ordered (cond {A = Stream → State → Made} b (single_rows at o) (groups_with at [] o) i s)) none
      ∙ ap (λ (g : Made). then_ordered (over_same at (filter_node p) g.stream g.state)) one.1

  projected : Projects F at all fm.stream fm.state (last_there gm.state.nodes node) w
  projected = projects F at all fm.stream fm.state (last_there gm.state.nodes node)

  pub grown : (distinct_stream at o i s).state.names ≡ after_fresh s.names
  grown = ap (λ (m : Made). m.state.names) made_is ∙ cut_names at o.cut w.stream w.state ∙ projected.names

  first_adds : Adds at s.nodes (i ∷ []) gm.state.nodes
  first_adds = record { more = kept.more; nodes = kept.nodes; made = kept.made }

  mid_adds : Adds at s.nodes (i ∷ []) fm.state.nodes
  mid_adds = adds_node at s.nodes gm.state.nodes (i ∷ []) first_adds node refl (one_fed s.nodes (i ∷ []) gm.stream kept.fed)

  mid_fed : (j : Stream) → Contains (fm.stream ∷ []) j → IsFed s.nodes (i ∷ []) j
  mid_fed = one_fed s.nodes (i ∷ []) fm.stream (inl (let l = ap length first_adds.nodes ∙ length-append s.nodes first_adds.more in omega arith))

  g_kinds : AllByRecursion (λ (x : Name × DataType). field_kind x.0 own ≡ Some x.1) g0
  g_kinds = all_both (λ (x : Name × DataType). field_kind x.0 own ≡ Some x.1) kf others_fields.0 (field_kinds keys own kf keyed_by).0 (field_kinds others own others_fields.0 others_fields.1).0

  named_g : names_of g0 ≡ keys ++ others
  named_g = map-append (λ (f : Name × DataType). f.0) kf others_fields.0 ∙ (λ j. named_names keys own kf keyed_by j ++ named_names others own others_fields.0 others_fields.1 j)

  module _ (fresh : is_among height all ≡ false) where
    fresh_group : is_among height (names_of g0) ≡ false
    fresh_group = by (is_among height (names_of g0)) refl
      where
        by : (b : Bool) → is_among height (names_of g0) ≡ b → is_among height (names_of g0) ≡ false
        by true q = let w : true ≡ false = sym (among_own height g0 own g_kinds q) ∙ fresh in cc
        by false q = q

    module _ (tables : ℕ → Table) (chosen : IsPhysicalChoice F w.state.nodes tables) (rows : HaveRows s.nodes tables (i ∷ [])) where
      abbrev T : Table
      T = tables i.0

      abbrev S : Table
      S = tables gm.stream.0

      abbrev R : Table
      R = tables fm.stream.0

      chosen_mid : IsPhysicalChoice F fm.state.nodes tables
      chosen_mid = restricted F fm.state.nodes w.state.nodes projected.adds.more projected.adds.nodes tables chosen

      chosen_first : IsPhysicalChoice F gm.state.nodes tables
      chosen_first = restricted F gm.state.nodes fm.state.nodes (node ∷ []) refl tables chosen_mid

      stage : EndsAsStep F at (group_by go) (T ∷ []) S × ShowsOnlyStep F s.nodes gm.state.nodes tables at (group_by go) (T ∷ [])
      stage = kept.meaning tables chosen_first rows

      abbrev L : Table
      L = stage.0.table.0

      T_schema : T.schema ≡ own
      T_schema = rows.0.0 ∙ schemas_agree (slice_get s.nodes i.0)

      wide_T : AllByRecursion (λ (row : List Value). length row ≡ length T.schema) T.rows
      wide_T = subst (λ (f : Fields). AllByRecursion (λ (row : List Value). length row ≡ length f) T.rows) (sym rows.0.0) rows.0.1

      placed : AllStand T.schema keys
      placed = subst (λ (f : Fields). AllStand f keys) (sym T_schema) (field_kinds keys own kf keyed_by).1

      others_placed : AllStand T.schema others
      others_placed = subst (λ (f : Fields). AllStand f others) (sym T_schema) (field_kinds others own others_fields.0 others_fields.1).1

      some_T : T.schema ≢ []
      some_T e = some (sym T_schema ∙ e)

      names_T : has_distinct_names T.schema ≡ true
      names_T = ap has_distinct_names T_schema ∙ distinct_names

      covers : (n : Name) → is_among n (names_of T.schema) ≡ true → is_among n (keys ++ others) ≡ true
      covers n h = covered n keys all (ap (λ (f : Fields). is_among n (names_of f)) (sym T_schema) ∙ h)

      aggs_are : exprs_of go.aggregates ≡ map (λ n. Tree.aggregate a (Tree.column n)) others ++ Tree.len ∷ []
      aggs_are = ap (λ (es : List Named). exprs_of (es ++ heights)) picked_are ∙ map-append (λ (e : Named). e.1) (map picked_named others) heights ∙ ap (λ xs. xs ++ Tree.len ∷ []) (map_again (λ (e : Named). e.1) picked_named others)

      out_T : out_schema F at (group_by go) (T ∷ []) ≡ g1
      out_T = ap (λ (f : Fields). unwrap_or (fields_of (go.keys ++ go.aggregates) f) []) T_schema ∙ ap (λ r. unwrap_or r []) fields

      same_places : (u : Option (List Name)) → subset_places u T.schema ≡ places_in (unwrap_or u all) T.schema
      same_places None = sym (ap (λ (f : Fields). places_in (names_of f) T.schema) (sym T_schema) ∙ all_places T.schema names_T)
      same_places (Some ns) = refl

      keeps_T : let places = places_in keys T.schema in (ys : List (List Value)) → IsOrder o.maintain_order (map (λ key. picks.row (with_key places key T.rows)) (those (comes_once places T.rows) (distinct_rows (map (picked places) T.rows)))) ys
          → IsOrder o.maintain_order (kept_rows uncut.keep (key_places uncut T.schema) T.rows) ys
      keeps_T ys h = subst (λ ps. IsOrder o.maintain_order (kept_rows o.keep ps T.rows) ys) (sym (same_places o.subset)) (keeps (places_in keys T.schema) T.rows ys h)

      grouped : Case F at (group_by go) (T ∷ []) L
      grouped = stage.0.table.1

      S_schema : S.schema ≡ g1
      S_schema = stage.0.table.2.same_schema ∙ case_schema a picks F at T keys others placed others_placed some_T wide_T names_T g0 named_g covers height go keys_are aggs_are refl out_T uncut keeps_T L grouped

      count : length g0 + 1 ≡ length S.schema
      count = sym (length-append g0 more) ∙ sym (ap length S_schema)

      wide_S : AllByRecursion (λ (row : List Value). length row ≡ length S.schema) S.rows
      wide_S =
          subst (λ n. AllByRecursion (λ (row : List Value). length row ≡ n) S.rows) count
          (subst (AllByRecursion (λ (row : List Value). length row ≡ length g0 + 1)) (sym stage.0.table.2.same_rows) (case_wide a picks F at T keys others placed others_placed some_T wide_T names_T g0 named_g covers height go keys_are aggs_are refl out_T uncut keeps_T L grouped))

      -- the filter
      stands : field_index height S.schema ≡ Some (length g0)
      stands = ap (field_index height) S_schema ∙ stands_behind height kind.IdxSize g0 fresh_group

      of_kind : field_kind height S.schema ≡ Some kind.IdxSize
      of_kind = ap (field_kind height) S_schema ∙ kind_behind height kind.IdxSize g0 fresh_group

      filtering : EndsAsStep F at (filter p) (S ∷ []) R × ShowsOnlyStep F gm.state.nodes fm.state.nodes tables at (filter p) (S ∷ [])
      filtering = plain_means F at (filter p) (filter_node p) node.schema (gm.stream ∷ []) refl (λ ts. refl) refl gm.state.nodes tables chosen_mid

      abbrev zip : Zipped
      zip = z at S height (length g0) stands of_kind

      abbrev filtered : Table
      filtered = table_of S.schema (where_true (length S.schema)) zip

      before_is : (U : Table) → GivesBeforeCut F at (filter p) (S ∷ []) U → U ≡ filtered
      before_is U (inl e) = e
      before_is U (inr (V, k, lost, e)) = absurd (lost (z_lost at S height (length g0) stands of_kind))

      case_is : (U : Table) → Case F at (filter p) (S ∷ []) U → U ≡ filtered
      case_is U (V, k, e) = e ∙ before_is V k

      abbrev M : Table
      M = filtering.0.table.0

      M_is : M ≡ filtered
      M_is = case_is M filtering.0.table.1

      R_schema : R.schema ≡ S.schema
      R_schema = filtering.0.table.2.same_schema ∙ ap (λ (U : Table). U.schema) M_is

      abbrev test : List Value → Bool
      test = single a picks F at T keys others placed others_placed some_T wide_T names_T g0 named_g covers height go keys_are aggs_are refl out_T uncut keeps_T

      R_rows : R.rows ≡ those test S.rows
      R_rows = filtering.0.table.2.same_rows ∙ ap (λ (U : Table). U.rows) M_is ∙ z_kept at S height (length g0) stands of_kind wide_S

      R_whole : is_empty R.broken ≡ is_empty S.broken
      R_whole = filtering.0.table.2.both_whole ∙ ap (λ (U : Table). is_empty U.broken) M_is ∙ same_end zip.broken S.broken (z_broken at S height (length g0) stands of_kind) (z_whole at S height (length g0) stands of_kind)

      wide_R : AllByRecursion (λ (row : List Value). length row ≡ length R.schema) R.rows
      wide_R =
          subst (λ (f : Fields). AllByRecursion (λ (row : List Value). length row ≡ length f) R.rows) (sym R_schema)
          (subst (AllByRecursion (λ (row : List Value). length row ≡ length S.schema)) (sym R_rows) (all-filter (λ (row : List Value). length row ≡ length S.schema) test S.rows wide_S))

      -- the columns in order
      has : schema_at fm.state.nodes fm.stream ≡ R.schema
      has = ap schema_or_none (last_node gm.state.nodes node) ∙ ap schema_or_none (last_node s.nodes one.0) ∙ one.2 ∙ sym S_schema ∙ sym R_schema

      within : (n : Name) → is_among n all ≡ true → is_among n (names_of g0) ≡ true
      within n h = ap (is_among n) named_g ∙ covered n keys all h

      named_so : named_fields all R.schema ≡ Some T.schema
      named_so = ap (named_fields all) (R_schema ∙ S_schema) ∙ own_fields g1 own (kinds_stay g0 more own within (olds own g0 own g_kinds within (own-kinds own distinct_names))) ∙ ap Some (sym T_schema)

      named : IsNamed F at all fm.stream fm.state (last_there gm.state.nodes node) tables T.schema has named_so names_T (ap names_of T_schema) wide_R w
      named = is_named F at all fm.stream fm.state (last_there gm.state.nodes node) tables T.schema has named_so names_T (ap names_of T_schema) wide_R chosen

      abbrev Bad : Cause → Type 0
      Bad c = IsCaseBrokenBy F at (distinct uncut) (T ∷ []) c

      abbrev Large : Type 0
      Large = IsLargeCase F at (distinct uncut) (T ∷ []) ⊎ SomeIsLarge (T ∷ [])

      -- what the stream shows
      abbrev P : Table
      P = tables w.stream.0

      shown : P.rows ≡ singles a picks F at T keys others placed others_placed some_T wide_T names_T g0 named_g covers height go keys_are aggs_are refl out_T uncut keeps_T L.rows
      shown =
          let places : places_in all R.schema ≡ places_in (names_of T.schema) g1 = λ j. places_in (names_of (sym T_schema j)) ((R_schema ∙ S_schema) j) in
          let passed : R.rows ≡ those test L.rows = R_rows ∙ ap (those test) stage.0.table.2.same_rows in
          named.rows ∙ (λ j. map (picked (places j)) (passed j))

      shown_whole : is_empty P.broken ≡ is_empty L.broken
      shown_whole = named.whole ∙ R_whole ∙ stage.0.table.2.both_whole

      -- it lies within a table of the distinct, however large the input is
      abbrev Begins_so : Type 0
      Begins_so = Begun a picks F at T keys others placed others_placed some_T wide_T names_T g0 named_g covers height go keys_are aggs_are refl out_T uncut keeps_T L

      k : Begins_so
      k = begun a picks F at T keys others placed others_placed some_T wide_T names_T g0 named_g covers height go keys_are aggs_are refl out_T uncut keeps_T L grouped

      stays : (K : Table) × Case F at (distinct uncut) (T ∷ []) K × Within P K
      stays = (k.table, (k.table, k.gives, refl), record { same_schema = named.schema ∙ sym k.schema; part = by L.broken refl })
        where
          none_of : (xs : List Cause) → is_empty xs ≡ true → xs ≡ []
          none_of [] e = refl
          none_of (x ∷ xs) e = cc

          by : (cs : List Cause) → L.broken ≡ cs → (P ≡ k.table) ⊎ (P.broken ≡ [] → ⊥) × ((rest : List (List Value)) × (P.rows ++ rest ≡ k.table.rows))
          by [] e =
              let both = k.whole e in
              let none = none_of P.broken (shown_whole ∙ ap is_empty e) in
              let fields = named.schema ∙ sym k.schema in
              let same = shown ∙ sym both.0 in
              let clear = none ∙ sym both.1 in
              inl (λ j. record { schema = fields j; rows = same j; broken = clear j })
          by (c ∷ cs) e =
              let rest = subst (λ rs. Begins rs k.table.rows) (sym shown) k.rows in
              inr ((λ whole. let x : true ≡ false = sym (ap is_empty whole) ∙ shown_whole ∙ ap is_empty e in cc), rest)

      -- over an input that isn't large it ends alike
      module _ (small : SomeIsLarge (tables_from tables (i ∷ [])) → ⊥) where
        few : length T.rows ≤ max_rows
        few = dite (dec_le (length T.rows) max_rows) (λ le. le) (λ beyond. absurd (small (inl (omega arith))))

        bad : (c : Cause) → IsCaseBrokenBy F at (group_by go) (T ∷ []) c → Bad c
        bad c h =
            breaks a picks F at T keys others placed others_placed some_T wide_T names_T g0 named_g covers height go keys_are aggs_are refl out_T uncut keeps_T c
            (own_causes a picks F at T keys others placed others_placed some_T wide_T names_T g0 named_g covers height go keys_are aggs_are refl out_T uncut keeps_T few c h)

        first_tells : Tells F tables Bad Large s.nodes gm.state.nodes
        first_tells =
            tells_step F tables Bad Large at (group_by go) (T ∷ []) s.nodes gm.state.nodes stage.1 bad (same_sizes a picks F at T keys others placed others_placed some_T wide_T names_T g0 named_g covers height go keys_are aggs_are refl out_T uncut keeps_T few)

        S_small : max_rows < length S.rows → Large
        S_small long = first_tells.sizes gm.stream.0 (omega arith) kept.there (inl (S, inl refl, long))

        S_shows : (c : Cause) → Contains S.broken c → Bad c
        S_shows c h = bad c (stage.0.causes c h)

        own_shows : (U : Table) (c : Cause) → U ≡ filtered → Contains U.broken c → Bad c
        own_shows U c e h = S_shows c (z_causes at S height (length g0) stands of_kind c (subst (λ (V : Table). Contains V.broken c) e h))

        filter_bad : (c : Cause) → IsCaseBrokenBy F at (filter p) (S ∷ []) c → Bad c
        filter_bad c (U, inl k, h) = own_shows U c (case_is U k) h
        filter_bad c (U, inr k, h) = own_shows U c (before_is U k) h

        filter_sizes : IsLargeCase F at (filter p) (S ∷ []) ⊎ SomeIsLarge (S ∷ []) → Large
        filter_sizes (inl (inl l)) = step_modest Large at S (p ∷ []) (plain_modest Large at S S_small (p ∷ []) (refl, tt)) l
        filter_sizes (inl (inr (U, k, long))) = filter_rows Large at F p S U S_small refl k long
        filter_sizes (inr (inl long)) = S_small long
        filter_sizes (inr (inr l)) = absurd l

        mid_tells : Tells F tables Bad Large gm.state.nodes fm.state.nodes
        mid_tells = tells_step F tables Bad Large at (filter p) (S ∷ []) gm.state.nodes fm.state.nodes filtering.1 filter_bad filter_sizes

        R_small : max_rows < length R.rows → Large
        R_small long = mid_tells.sizes fm.stream.0 (omega arith) (last_there gm.state.nodes node) (inl (R, inl refl, long))

        R_shows : (c : Cause) → Contains R.broken c → Bad c
        R_shows c h = filter_bad c (filtering.0.causes c h)

        last_tells : Tells F tables Bad Large fm.state.nodes w.state.nodes
        last_tells = record { causes = λ n U c le lt may has. R_shows c (named.tells.causes n U c le lt may has); sizes = λ n le lt large. R_small (named.tells.sizes n le lt large) }

        means : EndsAsStep F at (distinct uncut) (T ∷ []) (tables w.stream.0) × ShowsOnlyStep F s.nodes w.state.nodes tables at (distinct uncut) (T ∷ [])
        means =
            let q = of_case a picks F at T keys others placed others_placed some_T wide_T names_T g0 named_g covers height go keys_are aggs_are refl out_T uncut keeps_T few L grouped in
            let told = tells_then F tables Bad Large s.nodes fm.state.nodes w.state.nodes projected.adds.more projected.adds.nodes (tells_then F tables Bad Large s.nodes gm.state.nodes fm.state.nodes (node ∷ []) refl first_tells mid_tells) last_tells in (
              record {
                table = (
                  q.table,
                  (q.table, q.gives, refl),
                  record {
                    same_schema = named.schema ∙ sym q.schema;
                    same_rows = shown ∙ sym q.rows;
                    both_whole = shown_whole ∙ sym q.whole;
                  },
                );
                causes = λ c h. R_shows c (named.causes c h);
              },
              record { causes = told.causes; sizes = told.sizes },
            )

    abbrev IsSmall : List Table → Type 0
    IsSmall ts = SomeIsLarge ts → ⊥

    uncut_keep : KeepsStepOver IsSmall F at (distinct uncut) s w.state (i ∷ []) w.stream
    uncut_keep =
        let every = adds_then at s.nodes fm.state.nodes (i ∷ []) mid_adds w.state.nodes (fm.stream ∷ []) mid_fed projected.adds in
        record {
          more = every.more;
          nodes = every.nodes;
          made = every.made;
          there = projected.there;
          fed = fed_later at s.nodes fm.state.nodes (i ∷ []) mid_adds (fm.stream ∷ []) mid_fed w.stream projected.fed;
          meaning = means;
        }

    pub counted_keep : (schema : Fields) → IsKeptSmallStep F at (distinct o) schema (i ∷ []) s
    counted_keep schema =
        let kept_all = cut_over F at (distinct uncut) (distinct o) (λ ts U h. h) (λ ts l. l) refl IsSmall s w.state (i ∷ []) w.stream uncut_keep o.cut refl in
        subst (λ (m : Made). KeepsStepOver IsSmall F at (distinct o) s m.state (i ∷ []) m.stream) (sym made_is) kept_all

    pub counted_stays : (schema : Fields) → TablesStayWithin F at (distinct o) schema (i ∷ []) s
    counted_stays schema =
        subst (λ (m : Made). (tables : ℕ → Table) → IsPhysicalChoice F m.state.nodes tables → HaveRows s.nodes tables (i ∷ []) → (K : Table) × Case F at (distinct o) (tables_from tables (i ∷ [])) K × Within (tables m.stream.0) K) (sym made_is)
        (λ tables chosen rows. cut_stays F at o w.state w.stream tables (tables_from tables (i ∷ [])) o.cut chosen (λ mid. stays tables mid rows))

-- the only row of a key is its first
single_kept : (k : UniqueKeepStrategy) → keeps_none k ≡ true → (places : List ℕ) (rows : List (List Value)) → kept_rows k places rows ≡ singles_in places rows rows
single_kept keep.First n places rows = cc
single_kept keep.Any n places rows = cc
single_kept keep.Last n places rows = cc
single_kept keep.None n places rows = refl

never_last : (k : UniqueKeepStrategy) → keeps_none k ≡ true → keeps_last k ≡ false
never_last keep.First n = refl
never_last keep.Any n = refl
never_last keep.Last n = cc
never_last keep.None n = refl

first_value : (k : UniqueKeepStrategy) → keeps_last k ≡ false → kept_value k ≡ Aggregation.first
first_value k l = ap (λ b. if b then Aggregation.last else Aggregation.first) l

and_false : (a b : Bool) → b ≡ false → (a && b) ≡ false
and_false true b h = h
and_false false b h = refl

module _ (F : Functions) (at : ℕ) (s : State) (i : Stream) (o : DistinctStep) (none : keeps_none o.keep ≡ true) where
  abbrev keys_there : List Name
  keys_there = unwrap_or o.subset (names_of (schema_at s.nodes i))

  kept_so : (places : List ℕ) (rows ys : List (List Value)) → IsOrder o.maintain_order (map (λ key. picks_first.row (with_key places key rows)) (those (comes_once places rows) (distinct_rows (map (picked places) rows)))) ys → IsOrder o.maintain_order (kept_rows o.keep places rows) ys
  kept_so places rows ys h =
      let keys = those (comes_once places rows) (distinct_rows (map (picked places) rows)) in
      subst (λ rs. IsOrder o.maintain_order rs ys) ((λ i. map (λ key. first_picked (with_key places key rows) i) keys) ∙ single_rows_are places rows ∙ sym (single_kept o.keep none places rows)) h

  -- one name is drawn
  pub names_after : schema_at s.nodes i ≢ [] → has_distinct_names (schema_at s.nodes i) ≡ true → (kf : Fields) → named_fields keys_there (schema_at s.nodes i) ≡ Some kf → keys_there ≢ [] → (distinct_stream at o i s).state.names ≡ after_fresh s.names
  names_after some names kf keyed_by some_key =
      let few = never_last o.keep none in
      grown Aggregation.first picks_first F at s i o (and_false o.maintain_order (keeps_last o.keep) few) none (first_value o.keep few) kept_so some names kf keyed_by some_key

  pub single_distincts_keep : schema_at s.nodes i ≢ [] → has_distinct_names (schema_at s.nodes i) ≡ true → (kf : Fields) → named_fields keys_there (schema_at s.nodes i) ≡ Some kf → keys_there ≢ [] → is_among (new_name s) (names_of (schema_at s.nodes i)) ≡ false → (schema : Fields)
      → IsKeptSmallStep F at (distinct o) schema (i ∷ []) s
  single_distincts_keep some names kf keyed_by some_key fresh schema =
      let few = never_last o.keep none in
      counted_keep Aggregation.first picks_first F at s i o (and_false o.maintain_order (keeps_last o.keep) few) none (first_value o.keep few) kept_so some names kf keyed_by some_key fresh schema

  pub single_distincts_stay : schema_at s.nodes i ≢ [] → has_distinct_names (schema_at s.nodes i) ≡ true → (kf : Fields) → named_fields keys_there (schema_at s.nodes i) ≡ Some kf → keys_there ≢ [] → is_among (new_name s) (names_of (schema_at s.nodes i)) ≡ false → (schema : Fields)
      → TablesStayWithin F at (distinct o) schema (i ∷ []) s
  single_distincts_stay some names kf keyed_by some_key fresh schema =
      let few = never_last o.keep none in
      counted_stays Aggregation.first picks_first F at s i o (and_false o.maintain_order (keeps_last o.keep) few) none (first_value o.keep few) kept_so some names kf keyed_by some_key fresh schema
