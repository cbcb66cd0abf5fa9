-- A distinct that keeps a picked row of each key: groups by the key columns, and the columns in order.
use Rattle.std.proofs.Common.{◌≡◌, ◌≢◌, ◌⊎◌, inl, ℕ, ◌+◌, ◌<◌, Bool, true, false, not, cond, ◌&&◌, List, [], ◌∷◌, ◌++◌, length, Option, Some, None, refl, sym, ap, subst, ◌∙◌, arith, length-append}
use Rattle.std.proofs.lemmas.List.{append-nil, length-map, map-append}
use Rattle.std.specs.Prelude.{Contains, map, slice_get, unwrap_or}
use Rattle.std.specs.List.{AllByRecursion, list_all}
use Rattle.ps_frame.specs.Aggregates.{max_rows}
use Rattle.ps_frame.specs.Causes.{Cause}
use Rattle.ps_frame.specs.Frames.{has_distinct_names}
use Rattle.ps_frame.specs.Functions.{Functions}
use Rattle.ps_frame.specs.Tables.{Fields, Table, field_kind}
use Rattle.ps_frame.specs.Trees.{Aggregation, Tree}
use Rattle.ps_frame.specs.Typing.{is_elementwise}
use Rattle.ps_frame.specs.declared.value.DataType.{DataType}
use Rattle.ps_frame.specs.declared.value.Value.{Value}
use Rattle.ps_meaning.specs.Cases.{IsCaseBrokenBy, out_schema}
use Rattle.ps_meaning.specs.Distinct.{distinct_rows, kept_rows, key_places, picked, places_in, subset_places}
use Rattle.ps_meaning.specs.Meaning.{IsLargeCase}
use Rattle.ps_meaning.specs.Orders.{IsOrder}
use Rattle.ps_meaning.specs.Schemas.{fields_of, is_among, named_fields, names_of}
use Rattle.ps_meaning.specs.Shape.{IsPhysicalChoice, PhysicalNode, group_by_node, in_memory_map}
use Rattle.ps_meaning.specs.Steps.{DistinctStep, GroupStep, Name, Named, distinct, exprs_of, group_by}
use Rattle.ps_meaning.proofs.Fits.{all-filter}
use Rattle.ps_meaning.proofs.StepFits.{own-kinds}
use Rattle.ps_rules.specs.Slots.{Made, State, Stream, columns_named, insert_node, schema_at, schema_or_none, selected_schema, with_columns}
use Rattle.plan_rules.specs.Distinct.{distinct_stream, grouped_distinct, groups_with, kept_value, kept_values, keeps_last, keeps_none, mapped_distinct, other_than, single_rows}
use Rattle.plan_rules.specs.Groups.{can_stream, group_stream, mapped_groups, own_columns, streamed_groups}
use Rattle.plan_rules.specs.Slices.{cut_stream}
use Rattle.step_keeps.specs.Kept.{EndsAsStep, HaveRows, IsKeptStep, IsPlainReduction, KeepsStep, ShowsOnlyStep, SomeIsLarge}
use Rattle.step_keeps.proofs.Added.{restricted}
use Rattle.step_keeps.proofs.Cuts.{cut_keeps}
use Rattle.step_keeps.proofs.OwnColumns.{named_names, own_fields}
use Rattle.step_keeps.proofs.ByCell.{columns_cells}
use Rattle.step_keeps.proofs.Mapped.{mapped_groups_keep}
use Rattle.step_keeps.proofs.One.{last_node}
use Rattle.step_keeps.proofs.Streamed.{groups_made, plain_groups_keep}
use Rattle.ps_shares.proofs.Aggregated.{map_again}
use Rattle.ps_shares.proofs.Ends.{exprs_under}
use Rattle.picked_zips.proofs.Keyed.{all_both}
use Rattle.keyed_calls.specs.Keyed.{AllStand}
use Rattle.keyed_calls.proofs.Projecting.{IsNamed, Projects, is_named, projects}
use Rattle.keyed_calls.proofs.Told.{Adds, IsFed, Tells, adds_then, fed_later, one_fed, tells_step, tells_then}
use Rattle.distinct_parts.proofs.FirstRows.{with_key}
use Rattle.distinct_parts.proofs.Picks.{Picks}
use Rattle.distinct_parts.proofs.Columns.{all_places, covered, field_kinds, fields_both, have_fields, names_kinds, olds, own_fields_of, picked_fields_of, schemas_agree}
use Rattle.distinct_keeps.proofs.Distincts.{case_schema, case_wide, of_case, same_causes, same_sizes}

module _ (a : Aggregation) (picks : Picks a) (F : Functions) (at : ℕ) (s : State) (i : Stream) (o : DistinctStep) (few : (o.maintain_order && keeps_last o.keep) ≡ false) (many : keeps_none o.keep ≡ false) (value_is : kept_value o.keep ≡ a)
    (keeps : (places : List ℕ) (rows ys : List (List Value)) → IsOrder o.maintain_order (map (λ key. picks.row (with_key places key rows)) (distinct_rows (map (picked places) rows))) ys → IsOrder o.maintain_order (kept_rows o.keep places rows) ys)
    (some : schema_at s.nodes i ≢ []) (distinct_names : has_distinct_names (schema_at s.nodes i) ≡ true)
    (kf : Fields) (keyed_by : named_fields (unwrap_or o.subset (names_of (schema_at s.nodes i))) (schema_at s.nodes i) ≡ Some kf) (some_key : unwrap_or o.subset (names_of (schema_at s.nodes i)) ≢ []) where
  abbrev own : Fields
  own = schema_at s.nodes i

  abbrev all : List Name
  all = names_of own

  abbrev keys : List Name
  keys = unwrap_or o.subset all

  abbrev others : List Name
  others = other_than keys all

  abbrev go : GroupStep
  go = record { keys = own_columns keys; aggregates = kept_values o.keep others ++ []; maintain_order = o.maintain_order; cut = None }

  abbrev uncut : DistinctStep
  uncut = record { subset = o.subset; maintain_order = o.maintain_order; keep = o.keep; cut = None }

  abbrev HasKindIn : Name → Type 0
  HasKindIn n = (k : DataType) × (field_kind n own ≡ Some k)

  others_fields : (f : Fields) × (named_fields others own ≡ Some f)
  others_fields = have_fields others own (all-filter HasKindIn (λ n. not (is_among n keys)) all (names_kinds own own (own-kinds own distinct_names)))

  abbrev g0 : Fields
  g0 = kf ++ others_fields.0

  abbrev picked_named : Name → Named
  picked_named n = (n, Tree.aggregate a (Tree.column n))

  picked_are : kept_values o.keep others ++ [] ≡ map picked_named others
  picked_are = append-nil (kept_values o.keep others) ∙ ap (λ a. map (λ n. (n, Tree.aggregate a (Tree.column n))) others) value_is

  fields : fields_of (go.keys ++ go.aggregates) own ≡ Some g0
  fields = ap (λ (es : List Named). fields_of (own_columns keys ++ es) own) picked_are ∙ fields_both (own_columns keys) (map picked_named others) own kf others_fields.0 (own_fields_of keys own kf keyed_by) (picked_fields_of a picks others own others_fields.0 others_fields.1)

  plain : AllByRecursion (λ (e : Named). IsPlainReduction e.1) go.aggregates
  plain = subst (AllByRecursion (λ (e : Named). IsPlainReduction e.1)) (sym picked_are) (by others)
    where
      by : (ns : List Name) → AllByRecursion (λ (e : Named). IsPlainReduction e.1) (map picked_named ns)
      by [] = tt
      by (n ∷ ns) = (tt, by ns)

  keys_are : exprs_of go.keys ≡ columns_named keys
  keys_are = exprs_under keys (columns_named keys) (sym (length-map keys (λ n. Tree.column n)))

  cells : list_all is_elementwise (exprs_of go.keys) ≡ true
  cells = ap (list_all is_elementwise) keys_are ∙ columns_cells keys

  some_group_key : go.keys ≢ []
  some_group_key = by keys some_key
    where
      by : (ns : List Name) → ns ≢ [] → own_columns ns ≢ []
      by [] some = absurd (some refl)
      by (n ∷ ns) some = λ e. cc

  -- one node, whether it streams or not
  one : (p : PhysicalNode) × (group_stream at go i s ≡ insert_node s p) × (p.schema ≡ g0)
  one = by (can_stream go) refl
    where
      schema_is : selected_schema (go.keys ++ go.aggregates) own ≡ g0
      schema_is = ap (λ r. unwrap_or r []) fields

      by : (b : Bool) → can_stream go ≡ b → (p : PhysicalNode) × (group_stream at go i s ≡ insert_node s p) × (p.schema ≡ g0)
      by true q = (record { kind = group_by_node go.keys go.aggregates; schema = selected_schema (go.keys ++ go.aggregates) own; origin = at; inputs = i ∷ [] }, groups_made F at g0 i s go q cells plain some_group_key some fields, schema_is)
      by false q =
          (record { kind = in_memory_map (group_by go); schema = selected_schema (go.keys ++ go.aggregates) own; origin = at; inputs = i ∷ [] }, ap (λ (b : Bool). cond {A = Stream → State → Made} b (streamed_groups at go) (mapped_groups at go) i s) q, schema_is)

  group_kept : IsKeptStep F at (group_by go) g0 (i ∷ []) s
  group_kept = by (can_stream go) refl
    where
      by : (b : Bool) → can_stream go ≡ b → IsKeptStep F at (group_by go) g0 (i ∷ []) s
      by true q = plain_groups_keep F at g0 i s go q cells plain some_group_key some fields
      by false q = mapped_groups_keep F at g0 i s go q

  abbrev gm : Made
  gm = insert_node s one.0

  kept : KeepsStep F at (group_by go) s gm.state (i ∷ []) gm.stream
  kept = subst (λ (m : Made). KeepsStep F at (group_by go) s m.state (i ∷ []) m.stream) one.1 group_kept

  abbrev w : Made
  w = with_columns at all gm.stream gm.state

  -- the groups, the columns in order and the slice
  abbrev then_ordered : Made → Made
  then_ordered g = let r = with_columns at all g.stream g.state in cut_stream at o.cut r.stream r.state

  made_is : distinct_stream at o i s ≡ cut_stream at o.cut w.stream w.state
  made_is =
      ap (λ (b : Bool). cond {A = Stream → State → Made} b (mapped_distinct at o) (grouped_distinct at o) i s) few
      ∙ ap (λ (b : Bool). then_ordered (cond {A = Stream → State → Made} b (single_rows at o) (groups_with at [] o) i s)) many
      ∙ ap then_ordered one.1

  projected : Projects F at all gm.stream gm.state kept.there w
  projected = projects F at all gm.stream gm.state kept.there

  first_adds : Adds at s.nodes (i ∷ []) gm.state.nodes
  first_adds = record { more = kept.more; nodes = kept.nodes; made = kept.made }

  mid_fed : (j : Stream) → Contains (gm.stream ∷ []) j → IsFed s.nodes (i ∷ []) j
  mid_fed = one_fed s.nodes (i ∷ []) gm.stream kept.fed

  module _ (tables : ℕ → Table) (chosen : IsPhysicalChoice F w.state.nodes tables) (rows : HaveRows s.nodes tables (i ∷ [])) where
    abbrev T : Table
    T = tables i.0

    abbrev S : Table
    S = tables gm.stream.0

    chosen_mid : IsPhysicalChoice F gm.state.nodes tables
    chosen_mid = restricted F gm.state.nodes w.state.nodes projected.adds.more projected.adds.nodes tables chosen

    stage : EndsAsStep F at (group_by go) (T ∷ []) S × ShowsOnlyStep F s.nodes gm.state.nodes tables at (group_by go) (T ∷ [])
    stage = kept.meaning tables chosen_mid rows

    abbrev L : Table
    L = stage.0.table.0

    T_schema : T.schema ≡ own
    T_schema = rows.0.0 ∙ schemas_agree (slice_get s.nodes i.0)

    wide_T : AllByRecursion (λ (row : List Value). length row ≡ length T.schema) T.rows
    wide_T = subst (λ (f : Fields). AllByRecursion (λ (row : List Value). length row ≡ length f) T.rows) (sym rows.0.0) rows.0.1

    placed : AllStand T.schema keys
    placed = subst (λ (f : Fields). AllStand f keys) (sym T_schema) (field_kinds keys own kf keyed_by).1

    others_placed : AllStand T.schema others
    others_placed = subst (λ (f : Fields). AllStand f others) (sym T_schema) (field_kinds others own others_fields.0 others_fields.1).1

    some_T : T.schema ≢ []
    some_T e = some (sym T_schema ∙ e)

    names_T : has_distinct_names T.schema ≡ true
    names_T = ap has_distinct_names T_schema ∙ distinct_names

    named_g : names_of g0 ≡ keys ++ others
    named_g = map-append (λ (f : Name × DataType). f.0) kf others_fields.0 ∙ (λ j. named_names keys own kf keyed_by j ++ named_names others own others_fields.0 others_fields.1 j)

    covers : (n : Name) → is_among n (names_of T.schema) ≡ true → is_among n (keys ++ others) ≡ true
    covers n h = covered n keys all (ap (λ (f : Fields). is_among n (names_of f)) (sym T_schema) ∙ h)

    aggs_are : exprs_of go.aggregates ≡ map (λ n. Tree.aggregate a (Tree.column n)) others
    aggs_are = ap exprs_of picked_are ∙ map_again (λ (e : Named). e.1) picked_named others

    out_T : out_schema F at (group_by go) (T ∷ []) ≡ g0
    out_T = ap (λ (f : Fields). unwrap_or (fields_of (go.keys ++ go.aggregates) f) []) T_schema ∙ ap (λ r. unwrap_or r []) fields

    same_places : (u : Option (List Name)) → subset_places u T.schema ≡ places_in (unwrap_or u all) T.schema
    same_places None = sym (ap (λ (f : Fields). places_in (names_of f) T.schema) (sym T_schema) ∙ all_places T.schema names_T)
    same_places (Some ns) = refl

    keeps_T : (ys : List (List Value)) → IsOrder o.maintain_order (map (λ key. picks.row (with_key (places_in keys T.schema) key T.rows)) (distinct_rows (map (picked (places_in keys T.schema)) T.rows))) ys → IsOrder o.maintain_order (kept_rows uncut.keep (key_places uncut T.schema) T.rows) ys
    keeps_T ys h = subst (λ ps. IsOrder o.maintain_order (kept_rows o.keep ps T.rows) ys) (sym (same_places o.subset)) (keeps (places_in keys T.schema) T.rows ys h)

    S_schema : S.schema ≡ g0
    S_schema = stage.0.table.2.same_schema ∙ case_schema a picks F at T keys others placed others_placed some_T wide_T names_T g0 named_g covers go keys_are aggs_are refl out_T uncut keeps_T L stage.0.table.1

    has : schema_at gm.state.nodes gm.stream ≡ S.schema
    has = ap schema_or_none (last_node s.nodes one.0) ∙ one.2 ∙ sym S_schema

    g_kinds : AllByRecursion (λ (x : Name × DataType). field_kind x.0 own ≡ Some x.1) g0
    g_kinds = all_both (λ (x : Name × DataType). field_kind x.0 own ≡ Some x.1) kf others_fields.0 (field_kinds keys own kf keyed_by).0 (field_kinds others own others_fields.0 others_fields.1).0

    named_so : named_fields all S.schema ≡ Some T.schema
    named_so =
        ap (named_fields all) S_schema
        ∙ own_fields g0 own (olds own g0 own g_kinds (λ n h. ap (is_among n) named_g ∙ covered n keys all h) (own-kinds own distinct_names))
        ∙ ap Some (sym T_schema)

    count : length keys + length others ≡ length S.schema
    count = sym (length-append keys others) ∙ sym (ap length named_g) ∙ length-map g0 (λ (f : Name × DataType). f.0) ∙ sym (ap length S_schema)

    wide_S : AllByRecursion (λ (row : List Value). length row ≡ length S.schema) S.rows
    wide_S =
        subst (λ n. AllByRecursion (λ (row : List Value). length row ≡ n) S.rows) count
        (subst (AllByRecursion (λ (row : List Value). length row ≡ length keys + length others)) (sym stage.0.table.2.same_rows)
        (case_wide a picks F at T keys others placed others_placed some_T wide_T names_T g0 named_g covers go keys_are aggs_are refl out_T uncut keeps_T L stage.0.table.1))

    named : IsNamed F at all gm.stream gm.state kept.there tables T.schema has named_so names_T (ap names_of T_schema) wide_S w
    named = is_named F at all gm.stream gm.state kept.there tables T.schema has named_so names_T (ap names_of T_schema) wide_S chosen

    abbrev Bad : Cause → Type 0
    Bad c = IsCaseBrokenBy F at (distinct uncut) (T ∷ []) c

    abbrev Large' : Type 0
    Large' = IsLargeCase F at (distinct uncut) (T ∷ []) ⊎ SomeIsLarge (T ∷ [])

    bad : (c : Cause) → IsCaseBrokenBy F at (group_by go) (T ∷ []) c → Bad c
    bad = same_causes a picks F at T keys others placed others_placed some_T wide_T names_T g0 named_g covers go keys_are aggs_are refl out_T uncut keeps_T

    first_tells : Tells F tables Bad Large' s.nodes gm.state.nodes
    first_tells = tells_step F tables Bad Large' at (group_by go) (T ∷ []) s.nodes gm.state.nodes stage.1 bad (same_sizes a picks F at T keys others placed others_placed some_T wide_T names_T g0 named_g covers go keys_are aggs_are refl out_T uncut keeps_T)

    S_small : max_rows < length S.rows → Large'
    S_small long = first_tells.sizes gm.stream.0 (omega arith) kept.there (inl (S, inl refl, long))

    S_shows : (c : Cause) → Contains S.broken c → Bad c
    S_shows c h = bad c (stage.0.causes c h)

    last_tells : Tells F tables Bad Large' gm.state.nodes w.state.nodes
    last_tells = record { causes = λ n U c le lt may has. S_shows c (named.tells.causes n U c le lt may has); sizes = λ n le lt large. S_small (named.tells.sizes n le lt large) }

    means : EndsAsStep F at (distinct uncut) (T ∷ []) (tables w.stream.0) × ShowsOnlyStep F s.nodes w.state.nodes tables at (distinct uncut) (T ∷ [])
    means =
        let k = of_case a picks F at T keys others placed others_placed some_T wide_T names_T g0 named_g covers go keys_are aggs_are refl out_T uncut keeps_T L stage.0.table.1 in
        let told = tells_then F tables Bad Large' s.nodes gm.state.nodes w.state.nodes projected.adds.more projected.adds.nodes first_tells last_tells in
        let places : places_in all S.schema ≡ places_in (names_of T.schema) g0 = λ j. places_in (names_of (sym T_schema j)) (S_schema j) in (
          record {
            table = (
              k.table,
              (k.table, k.gives, refl),
              record {
                same_schema = named.schema ∙ sym k.schema;
                same_rows = named.rows ∙ (λ j. map (picked (places j)) (stage.0.table.2.same_rows j)) ∙ sym k.rows;
                both_whole = named.whole ∙ stage.0.table.2.both_whole ∙ sym k.whole;
              },
            );
            causes = λ c h. S_shows c (named.causes c h);
          },
          record { causes = told.causes; sizes = told.sizes },
        )

  uncut_keep : KeepsStep F at (distinct uncut) s w.state (i ∷ []) w.stream
  uncut_keep =
      let all_added = adds_then at s.nodes gm.state.nodes (i ∷ []) first_adds w.state.nodes (gm.stream ∷ []) mid_fed projected.adds in
      record {
        more = all_added.more;
        nodes = all_added.nodes;
        made = all_added.made;
        there = projected.there;
        fed = fed_later at s.nodes gm.state.nodes (i ∷ []) first_adds (gm.stream ∷ []) mid_fed w.stream projected.fed;
        meaning = means;
      }

  pub distincts_keep : (schema : Fields) → IsKeptStep F at (distinct o) schema (i ∷ []) s
  distincts_keep schema =
      let kept_all = cut_keeps F at (distinct uncut) (distinct o) (λ ts U h. h) (λ ts l. l) refl s w.state (i ∷ []) w.stream uncut_keep o.cut refl in
      subst (λ (m : Made). KeepsStep F at (distinct o) s m.state (i ∷ []) m.stream) (sym made_is) kept_all
