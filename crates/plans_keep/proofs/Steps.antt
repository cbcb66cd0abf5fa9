-- The call of a step of a kept kind keeps it, over streams of a shape that is sound but for its readers.
use Rattle.std.proofs.Common.{◌≡◌, ◌≢◌, inl, ℕ, ◌≤◌, ◌^◌, Bool, true, false, cond, List, [], ◌∷◌, ◌++◌, ◌&&◌, take, length, Option, Some, None, refl, sym, ap, subst, ◌∙◌, arith}
use Rattle.std.proofs.lemmas.List.{append-nil}
use Rattle.std.specs.Prelude.{IsSomeAnd, IsTrue, drop, option_map, unwrap_or}
use Rattle.std.specs.List.{AllByRecursion, list_all}
use Rattle.ps_frame.proofs.Lists.{both}
use Rattle.ps_frame.specs.Frames.{has_distinct_names}
use Rattle.ps_frame.specs.Functions.{Functions}
use Rattle.ps_frame.specs.Tables.{Fields, Frame}
use Rattle.ps_frame.specs.Trees.{Tree}
use Rattle.ps_frame.specs.Typing.{is_elementwise}
use Rattle.ps_meaning.proofs.HStackFits.{distinct-from}
use Rattle.ps_meaning.specs.Joins.{goes_by_left}
use Rattle.ps_meaning.specs.Schemas.{expr_names, fields_of, is_among, named_fields, names_of, put_fields, schema_or_empty}
use Rattle.ps_meaning.specs.Shape.{Shape, equi_join, filter_node, group_by_node, in_memory_join, select_node}
use Rattle.ps_meaning.specs.Sound.{IsSoundButForReaders, have_all_kinds}
use Rattle.ps_meaning.specs.StepRefusals.{column_not_found, duplicate, unsupported, lacks_name, repeats}
use Rattle.ps_frame.specs.declared.expr.What.TheVariants as what
use Rattle.ps_meaning.specs.Steps.{DistinctStep, GroupStep, JoinStep, Name, Named, Step, cache, distinct, exprs_of, filter, group_by, hconcat, hstack, join, left_out, project, row_index, scan, select, sink, slice, sort, union, user}
use Rattle.ps_plan.proofs.TypedSteps.{output-distinct}
use Rattle.ps_rules.specs.Lowered.{lower_exprs, select_stream}
use Rattle.ps_rules.proofs.Free.{fresh_unknown}
use Rattle.ps_rules.specs.Names.{IsKnown, Names, after_fresh}
use Rattle.ps_rules.specs.Rules.{first_tree}
use Rattle.ps_rules.specs.Slots.{Made, State, Stream, columns_named, new_name, over, over_same, over_selected, schema_at, selected_schema, under}
use Rattle.ps_shares.proofs.Growing.{columns_names}
use Rattle.ps_shares.specs.Kept.{IsReady}
use Rattle.ps_bundles.proofs.Lowers.{selects_keep as select_ends}
use Rattle.ps_bundles.proofs.Reading.{has_fields}
use Rattle.name_rules.proofs.Ruling.{field_names, typed_fields}
use Rattle.lowering_sizes.proofs.Sizes.{selects_stay_small}
use Rattle.plan_rules.specs.Distinct.{distinct_stream, keeps_last, keeps_none}
use Rattle.plan_rules.specs.Groups.{can_stream, columns_over, group_stream, mapped_groups, own_columns, streamed_groups}
use Rattle.plan_rules.specs.Joins.{equi_join_stream, join_stream, keyed_join, over_both}
use Rattle.plan_rules.specs.Nodes.{extended_apart, filter_stream, hstack_stream, step_stream}
use Rattle.plan_rules.specs.Reductions.{split_aggregates}
use Rattle.step_keeps.specs.Kept.{IsKeptStep}
use Rattle.step_keeps.proofs.Cuts.{slices_keep, unions_keep}
use Rattle.step_keeps.proofs.Mapped.{columns_by_cell_keep, mapped_distincts_keep, mapped_groups_keep}
use Rattle.step_keeps.proofs.Scans.{scans_keep, whole_scans_keep}
use Rattle.step_keeps.proofs.Steps.{functions_keep, hconcats_keep, projections_keep, row_numbers_keep, sinks_keep, sorts_keep}
use Rattle.step_keeps.proofs.WholeJoins.{whole_joins_keep}
use Rattle.replacing_keeps.proofs.Replacing.{replacing_columns_keep}
use Rattle.distinct_keeps.proofs.Firsts.{first_distincts_keep}
use Rattle.join_keeps.proofs.Joins.{joins_keep}
use Rattle.last_keeps.proofs.Lasts.{last_distincts_keep}
use Rattle.filter_keeps.proofs.Filters.{filters_keep}
use Rattle.aggregates_keep.proofs.Streams.{streamed_groups_keep}
use Rattle.select_keeps.proofs.Selects.{selects_keep}
use Rattle.rule_parts.specs.Good.{AreStreams, IsGoodStep, IsStream, KnowsNames}
use Rattle.rule_parts.proofs.Columns.{own_found, own_itself}
use Rattle.rule_parts.proofs.Grouped.{have_both, have_parts}
use Rattle.rule_parts.proofs.Growing.{select_grows}
use Rattle.rule_parts.proofs.Inputs.{own_schema}
use Rattle.rule_parts.proofs.Passing.{all_stand, cut_names, good_some, good_there}
use Rattle.rule_parts.proofs.Standing.{schema_is, sound_distinct, sound_some}
use Rattle.rule_nodes.proofs.Calls.{all_among, ready}
use Rattle.rule_nodes.proofs.Further.{own_typed}
use Rattle.plan_keeps.specs.Small.{IsKeptSmallStep}
use Rattle.none_keeps.specs.Stays.{TablesStayWithin}
use Rattle.none_keeps.proofs.Singles.{names_after, single_distincts_keep, single_distincts_stay}
use Rattle.plans_keep.specs.Kinds.{CountsRows, IsOfKeptKind}

-- streams of no, of one and of two schemas
module _ (nodes : Shape) (P : List Stream → List Fields → Type 0) where
  over_none : (is : List Stream) (ss : List Fields) → AreStreams nodes is ss → length ss ≡ 0 → P [] [] → P is ss
  over_none [] [] h n p = p
  over_none (i ∷ is) [] h n p = absurd h
  over_none is (s ∷ ss) h n p = absurd (omega arith)

  over_one : (is : List Stream) (ss : List Fields) → AreStreams nodes is ss → length ss ≡ 1 → ((i : Stream) → IsStream nodes i (schema_at nodes i) → P (i ∷ []) (schema_at nodes i ∷ [])) → P is ss
  over_one is [] h n p = absurd (omega arith)
  over_one is (s ∷ t ∷ ss) h n p = absurd (omega arith)
  over_one [] (s ∷ []) h n p = absurd h
  over_one (i ∷ j ∷ is) (s ∷ []) h n p = absurd h.1
  over_one (i ∷ []) (s ∷ []) h n p = subst (λ (f : Fields). P (i ∷ []) (f ∷ [])) (schema_is nodes i s h.0) (p i (own_schema nodes i s h.0))

  over_two : (is : List Stream) (ss : List Fields) → AreStreams nodes is ss → length ss ≡ 2
      → ((i j : Stream) → IsStream nodes i (schema_at nodes i) → IsStream nodes j (schema_at nodes j) → P (i ∷ j ∷ []) (schema_at nodes i ∷ schema_at nodes j ∷ [])) → P is ss
  over_two is [] h n p = absurd (omega arith)
  over_two is (s ∷ []) h n p = absurd (omega arith)
  over_two is (s ∷ t ∷ u ∷ ss) h n p = absurd (omega arith)
  over_two [] (s ∷ t ∷ []) h n p = absurd h
  over_two (i ∷ []) (s ∷ t ∷ []) h n p = absurd h.1
  over_two (i ∷ j ∷ k ∷ is) (s ∷ t ∷ []) h n p = absurd h.1.1
  over_two (i ∷ j ∷ []) (s ∷ t ∷ []) h n p =
      let a = schema_is nodes i s h.0 in
      let b = schema_is nodes j t h.1.0 in
      subst (λ (fs : List Fields). P (i ∷ j ∷ []) fs) (λ k. a k ∷ b k ∷ []) (p i j (own_schema nodes i s h.0) (own_schema nodes j t h.1.0))

-- counters along a call
still_small : (b c d top : ℕ) → b ≤ c → d ≡ c → d ≤ top → b ≤ top
still_small b c d top more same small = omega arith

-- what is asked for beside all columns
some_exprs : (f : Fields) (es : List Named) → unwrap_or (fields_of es f) [] ≢ [] → exprs_of es ≢ []
some_exprs f [] some e = some refl
some_exprs f (x ∷ es) some e = let w : x.1 ∷ exprs_of es ≡ [] = e in cc

some_columns : (f : Fields) (es : List Tree) → f ≢ [] → columns_named (names_of f) ++ es ≢ []
some_columns [] es some e = some refl
some_columns (x ∷ f) es some e = let w : Tree.column x.0 ∷ (columns_named (names_of f) ++ es) ≡ [] = e in cc

some_keys : (keys : List Named) (es : List Tree) → keys ≢ [] → exprs_of keys ++ es ≢ []
some_keys [] es some e = some refl
some_keys (x ∷ keys) es some e = let w : x.1 ∷ (exprs_of keys ++ es) ≡ [] = e in cc

some_last : (keys : List Tree) (f : Fields) → f ≢ [] → keys ++ columns_named (names_of f) ≢ []
some_last [] [] some e = some refl
some_last [] (x ∷ f) some e = let w : Tree.column x.0 ∷ columns_named (names_of f) ≡ [] = e in cc
some_last (k ∷ keys) f some e = let w : k ∷ (keys ++ columns_named (names_of f)) ≡ [] = e in cc

-- the key columns of a distinct
record AreThere (f : Fields) (keys : List Name) : Type 0 where
  fields : Fields
  found : named_fields keys f ≡ Some fields
  some : keys ≢ []

keys_there : (f : Fields) → f ≢ [] → has_distinct_names f ≡ true → (subset : Option (List Name)) → (subset ≡ Some [] → ⊥) → ((n : Name) → IsSomeAnd subset (λ ns. IsTrue (lacks_name n f ns)) → ⊥) → AreThere f (unwrap_or subset (names_of f))
keys_there f some once None key missing = record { fields = f; found = own_found f f (own_itself f once); some = named f some }
  where
    named : (f : Fields) → f ≢ [] → names_of f ≢ []
    named [] some e = some refl
    named (x ∷ f) some e = let w : x.0 ∷ names_of f ≡ [] = e in cc
keys_there f some once (Some ns) key missing =
    let h = has_fields ns f (all_stand ns f (λ n q. missing n q)) in
    record { fields = h.fields; found = h.found; some = λ e. key (ap (λ (ns : List Name). Some ns) e) }

module _ (F : Functions) (at : ℕ) (s : State) (sound : IsSoundButForReaders F s.nodes) where
  scan_kept : (t : Frame) (columns : Option (List Name)) → IsGoodStep F (scan t columns) [] → IsKeptStep F at (scan t columns) (schema_or_empty F (scan t columns) []) [] s
  scan_kept t None good = whole_scans_keep F at t s
  scan_kept t (Some names) good = let step = scan t (Some names) in scans_keep F at t s names (schema_or_empty F step []) (good_there F step [] good) good.table.1 good.table.0

  -- over one stream
  module _ (i : Stream) (stream : IsStream s.nodes i (schema_at s.nodes i)) (known : KnowsNames s.names (schema_at s.nodes i)) where
    abbrev f : Fields
    f = schema_at s.nodes i

    abbrev ss : List Fields
    ss = f ∷ []

    some : f ≢ []
    some = sound_some F s.nodes i f sound stream

    once : has_distinct_names f ≡ true
    once = sound_distinct F s.nodes i f sound stream

    beside_columns : (es : List Tree) → have_all_kinds f es ≡ true → IsReady s i (columns_over i s ++ es)
    beside_columns es typed = ready F at i s f sound stream known (columns_over i s ++ es) (own_typed f f es (own_itself f once) typed) (some_columns f es some)

    beside_keys : (keys : List Named) → keys ≢ [] → have_all_kinds f (exprs_of keys) ≡ true → IsReady s i (exprs_of keys ++ columns_over i s)
    beside_keys keys key typed =
        let columns = columns_over i s in
        let all : have_all_kinds f columns ≡ true = ap (have_all_kinds f) (sym (append-nil columns)) ∙ own_typed f f [] (own_itself f once) refl in
        ready F at i s f sound stream known (exprs_of keys ++ columns) (have_both f (exprs_of keys) columns typed all) (some_keys keys columns key)

    select_kept : (es : List Named) → IsGoodStep F (select es) ss → (select_stream at i es s).state.names.next ≤ 2 ^ 64 → (schema : Fields) → IsKeptStep F at (select es) schema (i ∷ []) s
    select_kept es good small schema =
        let asked = ready F at i s f sound stream known (exprs_of es) good.typed.kinds (some_exprs f es (good_some F (select es) ss good)) in
        selects_keep F at schema s i es asked
        (λ tables choice rows.
        let ends = select_ends F at i s es asked small tables choice rows in
        (ends.0, record { causes = ends.1; sizes = selects_stay_small F at i s es asked tables choice rows }))

    filter_kept : (e : Tree) → IsGoodStep F (filter e) ss → (filter_stream at e i s).state.names.next ≤ 2 ^ 64 → (schema : Fields) → IsKeptStep F at (filter e) schema (i ∷ []) s
    filter_kept e good small schema =
        let columns = columns_over i s in
        let a = lower_exprs at i (columns ++ e ∷ []) s in
        let m = over_same at (filter_node (first_tree (drop (length columns) a.exprs))) a.stream a.state in
        let same = ap (λ (x : Names). x.next) (columns_names at i (names_of f) m.stream m.state) in
        filters_keep F at schema s i e some (beside_columns (e ∷ []) good.typed.kinds) (subst (λ (n : ℕ). n ≤ 2 ^ 64) same small)

    columns_kept : (es : List Named) → IsGoodStep F (hstack es) ss → (hstack_stream at es (schema_or_empty F (hstack es) ss) i s).state.names.next ≤ 2 ^ 64 → IsKeptStep F at (hstack es) (schema_or_empty F (hstack es) ss) (i ∷ []) s
    columns_kept es good = by (list_all is_elementwise (exprs_of es)) refl
      where
        out : Fields
        out = schema_or_empty F (hstack es) ss

        apart : list_all is_elementwise (exprs_of es) ≡ false → (extended_apart at es out i s).state.names.next ≤ 2 ^ 64 → IsKeptStep F at (hstack es) out (i ∷ []) s
        apart q small =
            let gs = selected_schema es f in
            let fields = typed_fields f es good.typed.kinds in
            let names = field_names f es gs fields in
            let differ = distinct-from gs (λ n r. good.typed.rules (duplicate n) (inl (ap (repeats n) (sym names) ∙ r))) in
            let is : out ≡ put_fields f gs = ap (λ o. unwrap_or (option_map (put_fields f) o) []) fields in
            subst (λ (g : Fields). IsKeptStep F at (hstack es) g (i ∷ []) s) (sym is) (replacing_columns_keep F at s i es gs q some fields differ (beside_columns (exprs_of es) good.typed.kinds) small)

        by : (b : Bool) → list_all is_elementwise (exprs_of es) ≡ b → (cond {A = Stream → State → Made} b (over at (select_node es true) out) (extended_apart at es out) i s).state.names.next ≤ 2 ^ 64 → IsKeptStep F at (hstack es) out (i ∷ []) s
        by true q small = columns_by_cell_keep F at out i s es q
        by false q small = apart q small

    group_kept : (o : GroupStep) → IsGoodStep F (group_by o) ss → KnowsNames s.names (schema_or_empty F (group_by o) ss) → (group_stream at o i s).state.names.next ≤ 2 ^ 64 → IsKeptStep F at (group_by o) (schema_or_empty F (group_by o) ss) (i ∷ []) s
    group_kept o good known_out = by (can_stream o) refl
      where
        out : Fields
        out = schema_or_empty F (group_by o) ss

        streamed : can_stream o ≡ true → (streamed_groups at o i s).state.names.next ≤ 2 ^ 64 → IsKeptStep F at (group_by o) out (i ∷ []) s
        streamed q small =
            let asked = exprs_of o.keys ++ columns_over i s in
            let a = lower_exprs at i asked s in
            let split = split_aggregates o.aggregates a.state.names in
            let keys = under (expr_names o.keys) a.exprs in
            let g = over_selected at (group_by_node keys split.reductions) (keys ++ split.reductions) a.stream (record a.state { names = split.names }) in
            let shown = own_columns (expr_names o.keys) ++ split.above in
            let m = select_stream at g.stream shown g.state in
            let more = (select_grows at g.stream shown g.state).1 in
            let same = ap (λ (x : Names). x.next) (cut_names at o.cut m.stream m.state) in
            let low = still_small split.names.next m.state.names.next (streamed_groups at o i s).state.names.next (2 ^ 64) more same small in
            streamed_groups_keep F at out s i o q (λ k. good.typed.rules (unsupported what.LiteralAggregate) k) (λ e. good.key e) some (good_there F (group_by o) ss good) (output-distinct F (group_by o) ss good.typed.rules) known_out
            (beside_keys o.keys (λ e. good.key e) (have_parts f (exprs_of o.keys) (exprs_of o.aggregates) good.typed.kinds).0) low

        by : (b : Bool) → can_stream o ≡ b → (cond {A = Stream → State → Made} b (streamed_groups at o) (mapped_groups at o) i s).state.names.next ≤ 2 ^ 64 → IsKeptStep F at (group_by o) out (i ∷ []) s
        by false q small = mapped_groups_keep F at out i s o q
        by true q small = streamed q small

    distinct_kept : (o : DistinctStep) → IsGoodStep F (distinct o) ss → keeps_none o.keep ≡ false → (schema : Fields) → IsKeptStep F at (distinct o) schema (i ∷ []) s
    distinct_kept o good few schema = by (keeps_last o.keep) refl o.maintain_order refl
      where
        keys : AreThere f (unwrap_or o.subset (names_of f))
        keys = keys_there f some once o.subset (λ e. good.key e) (λ n h. good.typed.rules (column_not_found n) h)

        by : (last : Bool) → keeps_last o.keep ≡ last → (maintained : Bool) → o.maintain_order ≡ maintained → IsKeptStep F at (distinct o) schema (i ∷ []) s
        by false q m p = first_distincts_keep F at s i o q few some once keys.fields keys.found keys.some schema
        by true q true p = mapped_distincts_keep F at schema i s o (λ j. p j && q j)
        by true q false p = last_distincts_keep F at s i o q p some once keys.fields keys.found keys.some schema

    -- where the rows of each key are counted, over inputs that aren't large, and in tables over any
    single_kept : (o : DistinctStep) → IsGoodStep F (distinct o) ss → keeps_none o.keep ≡ true → (distinct_stream at o i s).state.names.next ≤ 2 ^ 64 → (schema : Fields) → IsKeptSmallStep F at (distinct o) schema (i ∷ []) s × TablesStayWithin F at (distinct o) schema (i ∷ []) s
    single_kept o good none small schema =
        let keys = keys_there f some once o.subset (λ e. good.key e) (λ n h. good.typed.rules (column_not_found n) h) in
        let grown = names_after F at s i o none some once keys.fields keys.found keys.some in
        let low : (after_fresh s.names).next ≤ 2 ^ 64 = subst (λ (x : Names). x.next ≤ 2 ^ 64) grown small in
        let fresh = fresh_differs low (is_among (new_name s) (names_of f)) refl in
        (single_distincts_keep F at s i o none some once keys.fields keys.found keys.some fresh schema, single_distincts_stay F at s i o none some once keys.fields keys.found keys.some fresh schema)
      where
        fresh_differs : (after_fresh s.names).next ≤ 2 ^ 64 → (b : Bool) → is_among (new_name s) (names_of f) ≡ b → is_among (new_name s) (names_of f) ≡ false
        fresh_differs low true q = absurd (fresh_unknown s.names low (known (new_name s) q))
        fresh_differs low false q = q

  -- over two streams
  module _ (l r : Stream) (left : IsStream s.nodes l (schema_at s.nodes l)) (right : IsStream s.nodes r (schema_at s.nodes r)) (known_l : KnowsNames s.names (schema_at s.nodes l)) (known_r : KnowsNames s.names (schema_at s.nodes r)) where
    abbrev sides : List Fields
    sides = schema_at s.nodes l ∷ schema_at s.nodes r ∷ []

    ready_side : (i : Stream) → IsStream s.nodes i (schema_at s.nodes i) → KnowsNames s.names (schema_at s.nodes i) → (keys : List Tree) → have_all_kinds (schema_at s.nodes i) keys ≡ true → IsReady s i (keys ++ columns_over i s)
    ready_side i stream known keys typed =
        let f = schema_at s.nodes i in
        let columns = columns_over i s in
        let all : have_all_kinds f columns ≡ true = ap (have_all_kinds f) (sym (append-nil columns)) ∙ own_typed f f [] (own_itself f (sound_distinct F s.nodes i f sound stream)) refl in
        ready F at i s f sound stream known (keys ++ columns) (have_both f keys columns typed all) (some_last keys f (sound_some F s.nodes i f sound stream))

    join_kept : (o : JoinStep) → IsGoodStep F (join o) sides → KnowsNames s.names (schema_or_empty F (join o) sides) → (join_stream at o (schema_or_empty F (join o) sides) l r s).state.names.next ≤ 2 ^ 64 → IsKeptStep F at (join o) (schema_or_empty F (join o) sides) (l ∷ r ∷ []) s
    join_kept o good known = by (goes_by_left o.args.how) refl
      where
        out : Fields
        out = schema_or_empty F (join o) sides

        differ : has_distinct_names out ≡ true
        differ = output-distinct F (join o) sides good.typed.rules

        keyed : goes_by_left o.args.how ≡ true → (equi_join_stream at o out l r s).state.names.next ≤ 2 ^ 64 → IsKeptStep F at (join o) out (l ∷ r ∷ []) s
        keyed q small =
            let a = lower_exprs at l (o.left_on ++ columns_over l s) s in
            let b = lower_exprs at r (o.right_on ++ columns_over r a.state) a.state in
            let m = over_both at (equi_join (keyed_join o (take (length o.left_on) a.exprs) (take (length o.right_on) b.exprs))) out a.stream b.stream b.state in
            let same = ap (λ (x : Names). x.next) (cut_names at o.args.slice m.stream m.state) in
            let typed = both (have_all_kinds (schema_at s.nodes l) o.left_on) (have_all_kinds (schema_at s.nodes r) o.right_on) good.typed.kinds in
            joins_keep F at out s l r o (record { fields = refl; distinct_names = differ }) q (all_among (IsKnown s.names) (names_of out) known) (sound_some F s.nodes l (schema_at s.nodes l) sound left) (sound_some F s.nodes r (schema_at s.nodes r) sound right)
            (ready_side l left known_l o.left_on typed.0) (ready_side r right known_r o.right_on typed.1) (subst (λ (n : ℕ). n ≤ 2 ^ 64) same small)

        by : (b : Bool) → goes_by_left o.args.how ≡ b → (cond {A = Stream → Stream → State → Made} b (equi_join_stream at o out) (over_both at (in_memory_join o) out) l r s).state.names.next ≤ 2 ^ 64 → IsKeptStep F at (join o) out (l ∷ r ∷ []) s
        by false q small = whole_joins_keep F at o out l r s refl differ q
        by true q small = keyed q small

-- what a step owes over streams of these schemas
abbrev Owes : Functions → ℕ → State → Step → List Stream → List Fields → Type 0
Owes F at s step is ss =
    let out = schema_or_empty F step ss in
    IsOfKeptKind step → AllByRecursion (KnowsNames s.names) (out ∷ ss) → (step_stream at F step out is s).state.names.next ≤ 2 ^ 64 → IsKeptStep F at step out is s

abbrev Gives : Functions → ℕ → State → Step → List Stream → List Fields → Type 0
Gives F at s step is ss = IsGoodStep F step ss → Owes F at s step is ss

-- a cache makes no call
pub step_kept : (F : Functions) (at : ℕ) (s : State) (step : Step) (inputs : List Stream) (ss : List Fields) → ((id : ℕ) → cache id ≡ step → ⊥) → IsSoundButForReaders F s.nodes → AreStreams s.nodes inputs ss → IsGoodStep F step ss
    → IsOfKeptKind step → AllByRecursion (KnowsNames s.names) (schema_or_empty F step ss ∷ ss) → (step_stream at F step (schema_or_empty F step ss) inputs s).state.names.next ≤ 2 ^ 64 → IsKeptStep F at step (schema_or_empty F step ss) inputs s
step_kept F at s step inputs ss other sound streams good = by step other good
  where
    one : (step : Step) → length ss ≡ 1 → ((i : Stream) → IsStream s.nodes i (schema_at s.nodes i) → Gives F at s step (i ∷ []) (schema_at s.nodes i ∷ [])) → Gives F at s step inputs ss
    one step n give = over_one s.nodes (Gives F at s step) inputs ss streams n give

    by : (step : Step) → ((id : ℕ) → cache id ≡ step → ⊥) → Gives F at s step inputs ss
    by (scan t columns) other = λ good. over_none s.nodes (Gives F at s (scan t columns)) inputs ss streams good.inputs (λ good kind known small. scan_kept F at s sound t columns good) good
    by (project names) other = λ good. one (project names) good.inputs (λ i stream good kind known small. projections_keep F at (schema_or_empty F (project names) (schema_at s.nodes i ∷ [])) s names i) good
    by (select es) other = λ good. one (select es) good.inputs (λ i stream good kind known small. select_kept F at s sound i stream known.1.0 es good small (schema_or_empty F (select es) (schema_at s.nodes i ∷ []))) good
    by (hstack es) other = λ good. one (hstack es) good.inputs (λ i stream good kind known small. columns_kept F at s sound i stream known.1.0 es good small) good
    by (filter e) other = λ good. one (filter e) good.inputs (λ i stream good kind known small. filter_kept F at s sound i stream known.1.0 e good small (schema_at s.nodes i)) good
    by (slice offset n) other = λ good. one (slice offset n) good.inputs (λ i stream good kind known small. slices_keep F at s i (schema_at s.nodes i) offset n) good
    by (sink target) other = λ good. one (sink target) good.inputs (λ i stream good kind known small. sinks_keep F at (schema_at s.nodes i) s target i) good
    by (row_index name offset) other = λ good. one (row_index name offset) good.inputs (λ i stream good kind known small. row_numbers_keep F at (schema_or_empty F (row_index name offset) (schema_at s.nodes i ∷ [])) s name offset i) good
    by (user n) other = λ good. one (user n) good.inputs (λ i stream good kind known small. functions_keep F at (schema_or_empty F (user n) (schema_at s.nodes i ∷ [])) s n i) good
    by (sort o) other = λ good. one (sort o) good.inputs (λ i stream good kind known small. sorts_keep F at (schema_at s.nodes i) s o i) good
    by (union cut) other = λ good kind known small. unions_keep F at (schema_or_empty F (union cut) ss) s cut inputs
    by hconcat other = λ good kind known small. hconcats_keep F at (schema_or_empty F hconcat ss) s inputs
    by (cache id) other = absurd (other id refl)
    by (group_by o) other = λ good. one (group_by o) good.inputs (λ i stream good kind known small. group_kept F at s sound i stream known.1.0 o good known.0 small) good
    by (join o) other = λ good. over_two s.nodes (Gives F at s (join o)) inputs ss streams good.inputs (λ l r left right good kind known small. join_kept F at s sound l r left right known.1.0 known.1.1.0 o good known.0 small) good
    by (distinct o) other = λ good. one (distinct o) good.inputs (λ i stream good kind known small. distinct_kept F at s sound i stream known.1.0 o good kind (schema_at s.nodes i)) good
    by (left_out what) other = λ good. absurd good.inputs

-- what a step that counts rows owes
abbrev Counted : Functions → ℕ → State → Step → List Stream → List Fields → Type 0
Counted F at s step is ss =
    let out = schema_or_empty F step ss in
    CountsRows step → AllByRecursion (KnowsNames s.names) (out ∷ ss) → (step_stream at F step out is s).state.names.next ≤ 2 ^ 64 → IsKeptSmallStep F at step out is s × TablesStayWithin F at step out is s

pub step_counted : (F : Functions) (at : ℕ) (s : State) (step : Step) (inputs : List Stream) (ss : List Fields) → IsSoundButForReaders F s.nodes → AreStreams s.nodes inputs ss → IsGoodStep F step ss → CountsRows step → AllByRecursion (KnowsNames s.names) (schema_or_empty F step ss ∷ ss)
    → (step_stream at F step (schema_or_empty F step ss) inputs s).state.names.next ≤ 2 ^ 64 → IsKeptSmallStep F at step (schema_or_empty F step ss) inputs s × TablesStayWithin F at step (schema_or_empty F step ss) inputs s
step_counted F at s step inputs ss sound streams good = by step good
  where
    by : (step : Step) → IsGoodStep F step ss → Counted F at s step inputs ss
    by (distinct o) =
        λ good.
        over_one s.nodes (λ is ss. IsGoodStep F (distinct o) ss → Counted F at s (distinct o) is ss) inputs ss streams good.inputs (λ i stream good none known small. single_kept F at s sound i stream known.1.0 o good none small (schema_at s.nodes i)) good
    by _ = λ good none. absurd none
