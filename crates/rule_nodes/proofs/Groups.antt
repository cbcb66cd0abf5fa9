-- Group-bys: one map over the whole input, or keys and reductions with a select above.
use Rattle.std.proofs.Common.{◌≡◌, ◌≢◌, ◌⊎◌, inl, inr, ℕ, ◌+◌, ◌<◌, ◌≤◌, ◌^◌, Bool, true, false, not, cond, List, [], ◌∷◌, ◌++◌, length, Some, None, refl, sym, ap, subst, ◌∙◌, arith}
use Rattle.std.specs.Prelude.{◌&&◌, map, unwrap_or}
use Rattle.std.specs.List.{AllByRecursion, list_all, list_any}
use Rattle.std.proofs.lemmas.Bool.{cases_lt}
use Rattle.std.proofs.lemmas.List.{length-map, map-append}
use Rattle.std.proofs.lemmas.Option.{same_Some}
use Rattle.ps_frame.proofs.Lists.{both}
use Rattle.ps_frame.specs.Frames.{has_distinct_names}
use Rattle.ps_frame.specs.Functions.{Functions}
use Rattle.ps_frame.specs.Parts.{is_literal_aggregate, some_part}
use Rattle.ps_frame.specs.Tables.{Fields, field_kind}
use Rattle.ps_frame.specs.Trees.{Tree}
use Rattle.ps_frame.specs.Typing.{is_elementwise, is_scalar, kind_over}
use Rattle.ps_meaning.specs.Schemas.{expr_names, fields_of, is_among, names_of}
use Rattle.ps_meaning.specs.Shape.{group_by_node, in_memory_map}
use Rattle.ps_meaning.specs.Sound.{BreaksNoRule, IsReduction, IsSoundButForReaders, have_all_kinds}
use Rattle.ps_meaning.specs.StepRefusals.{repeats}
use Rattle.ps_meaning.specs.Steps.{Cut, GroupStep, Name, Named, exprs_of, group_by}
use Rattle.ps_rules.specs.Calls.{Answer, all_independent}
use Rattle.ps_rules.specs.Lowered.{lower_exprs, select_stream}
use Rattle.ps_rules.specs.Names.{IsKnown, Names}
use Rattle.ps_rules.specs.Slots.{Made, State, Stream, columns_named, over_selected, schema_at, selected_schema, under}
use Rattle.ps_shares.proofs.Ends.{exprs_under}
use Rattle.ps_shares.proofs.Fresh.{grown_then}
use Rattle.name_rules.proofs.Items.{kinds_same, names_under, some_under, times_items}
use Rattle.name_rules.proofs.Ruling.{breaks_none, field_names, lacks_none, obeys, some_fields, typed_fields}
use Rattle.name_rules.proofs.Times.{FreshOnce, among_times, known_none, never_once, once_never, times, times_among}
use Rattle.name_rules.proofs.Listing.{items_all, list_plain}
use Rattle.plan_rules.specs.Groups.{can_stream, group_stream, mapped_groups, own_columns, streamed_groups}
use Rattle.plan_rules.specs.Reductions.{Split, is_made_of_reductions, split_aggregates}
use Rattle.plan_rules.specs.Slices.{cut_stream}
use Rattle.rule_parts.specs.Good.{IsStream, KnowsNames}
use Rattle.rule_parts.proofs.Growing.{select_grows}
use Rattle.rule_parts.proofs.Columns.{own_itself}
use Rattle.rule_parts.proofs.Passing.{both_exprs, cut_makes, cut_names}
use Rattle.rule_parts.proofs.Picks.{all_first, all_last}
use Rattle.rule_parts.proofs.Reduced.{AreWhole, HaveOwnKinds, Splits, splits}
use Rattle.rule_parts.proofs.Rules.{kinds_wider}
use Rattle.rule_parts.proofs.Standing.{Makes, makes_above, makes_then, other_out, over_makes, selected_makes, sound_distinct, sound_some}
use Rattle.rule_parts.proofs.Grouped.{GroupsWell, all_reductions, all_scalar, all_typed, both_names, carried, column_kinds, fields_found, have_both, have_parts, no_literal, own_exprs, own_names, same_items, under_front}
use Rattle.rule_nodes.proofs.Calls.{select_made}
use Rattle.rule_nodes.proofs.Keyed.{Keyed, keys_first}

module _ (F : Functions) where
  -- a group step that is typed over a schema
  module _ (z : Fields) (keys rs : List Named) (typed : have_all_kinds z (exprs_of keys ++ exprs_of rs) ≡ true) (some_key : keys ≢ []) (once : (n : Name) → times n (expr_names (keys ++ rs)) ≤ 1) where
    abbrev grouped : Fields
    grouped = selected_schema (keys ++ rs) z

    fields : fields_of (keys ++ rs) z ≡ Some grouped
    fields = typed_fields z (keys ++ rs) (ap (have_all_kinds z) (both_exprs keys rs) ∙ typed)

    some_grouped : grouped ≢ []
    some_grouped = some_fields z (keys ++ rs) grouped fields (first_some keys rs some_key)
      where
        first_some : (xs ys : List Named) → xs ≢ [] → xs ++ ys ≢ []
        first_some [] ys some e = some refl
        first_some (x ∷ xs) ys some e = let w : x ∷ (xs ++ ys) ≡ [] = e in cc

    group_rules : (maintain : Bool) (cut : Cut) → (list_any (λ e. not (is_scalar e)) (exprs_of rs) ≡ true → ⊥) → (list_any (some_part is_literal_aggregate) (exprs_of rs) ≡ true → ⊥)
        → BreaksNoRule F (group_by (record { keys = keys; aggregates = rs; maintain_order = maintain; cut = cut })) (z ∷ [])
    group_rules maintain cut scalar literal =
        obeys F (group_by (record { keys = keys; aggregates = rs; maintain_order = maintain; cut = cut })) (z ∷ [])
        (record {
          keys = λ k. k;
          key = λ k. some_key k;
          validated = λ k. k;
          missing = λ n k. lacks_none z (exprs_of keys ++ exprs_of rs) typed n k;
          repeated = λ n k. k;
          names = λ n k. once_never n (expr_names (keys ++ rs)) (once n) k;
          kinds = λ k. scalar k;
          typed = λ k. breaks_none z (exprs_of keys ++ exprs_of rs) typed k;
          columns = λ k. some_grouped (same_Some grouped [] (sym fields ∙ k));
          literal = λ k. literal k;
        })

  module _ (at : ℕ) (input : Stream) (s : State) (sound : IsSoundButForReaders F s.nodes) (stream : IsStream s.nodes input (schema_at s.nodes input)) (known : KnowsNames s.names (schema_at s.nodes input)) (o : GroupStep)
      (well : GroupsWell (schema_at s.nodes input) s.names o) where
    abbrev f : Fields
    f = schema_at s.nodes input

    abbrev asked : List Named
    asked = o.keys ++ o.aggregates

    abbrev out : Fields
    out = selected_schema asked f

    asked_once : (n : Name) → times n (expr_names asked) ≤ 1
    asked_once n = never_once n (expr_names asked) (well.names_differ n)

    mapped_makes : Makes F s (mapped_groups at o input s) out
    mapped_makes =
        over_makes F at (in_memory_map (group_by o)) input s f sound stream refl tt out
        (record {
          schema = fields f o.keys o.aggregates well.typed well.some_key asked_once;
          not_empty = some_grouped f o.keys o.aggregates well.typed well.some_key asked_once;
          kinds = well.typed;
          rules = group_rules f o.keys o.aggregates well.typed well.some_key asked_once o.maintain_order o.cut well.scalar well.literal;
        })

    -- keys and all columns are lowered together
    abbrev all : List Tree
    all = exprs_of o.keys ++ columns_named (names_of f)

    abbrev call : Answer
    call = lower_exprs at input all s

    some : f ≢ []
    some = sound_some F s.nodes input f sound stream

    once : has_distinct_names f ≡ true
    once = sound_distinct F s.nodes input f sound stream

    parts : (have_all_kinds f (exprs_of o.keys) ≡ true) × (have_all_kinds f (exprs_of o.aggregates) ≡ true)
    parts = have_parts f (exprs_of o.keys) (exprs_of o.aggregates) well.typed

    -- what the call leaves
    abbrev KeysFirst : Type 0
    KeysFirst = Keyed F at input s f sound stream known (exprs_of o.keys) call

    abbrev begun : Split
    begun = record { names = call.state.names; reductions = []; above = [] }

    abbrev split : Split
    split = split_aggregates o.aggregates call.state.names

    -- the group-by and what stands above it
    abbrev before : State
    before = record { nodes = call.state.nodes; names = split.names }

    abbrev group_of : (keys rs : List Named) → Made
    group_of keys rs = over_selected at (group_by_node keys rs) (keys ++ rs) call.stream before

    abbrev above_of : (keys rs above : List Named) → Made
    above_of keys rs above = let g = group_of keys rs in select_stream at g.stream (own_columns (expr_names o.keys) ++ above) g.state

    abbrev cut_of : (keys rs above : List Named) → Made
    cut_of keys rs above = let m = above_of keys rs above in cut_stream at o.cut m.stream m.state

    module _ (a : KeysFirst) (b : Splits f o.aggregates begun split) (small : split.names.next ≤ 2 ^ 64) where
      abbrev z : Fields
      z = a.answered.schema

      abbrev keys : List Named
      keys = under (expr_names o.keys) a.news

      abbrev rs : List Named
      rs = b.new

      key_count : length (expr_names o.keys) ≡ length a.news
      key_count = let p = length-map o.keys (λ (e : Named). e.0) in let q = length-map o.keys (λ (e : Named). e.1) in let c = a.count in omega arith

      keys_named : expr_names keys ≡ expr_names o.keys
      keys_named = names_under (expr_names o.keys) a.news key_count

      keys_exprs : exprs_of keys ≡ a.news
      keys_exprs = exprs_under (expr_names o.keys) a.news key_count

      some_keys : keys ≢ []
      some_keys = some_under (expr_names o.keys) a.news key_count (λ e. few (exprs_of o.keys) a.news a.count e (no_keys o.keys well.some_key))
        where
          no_keys : (ks : List Named) → ks ≢ [] → exprs_of ks ≢ []
          no_keys [] some e = some refl
          no_keys (k ∷ ks) some e = let w : k.1 ∷ exprs_of ks ≡ [] = e in cc

          few : (es xs : List Tree) → length xs ≡ length es → xs ≡ [] → es ≢ [] → ⊥
          few [] xs l e some = some refl
          few (e ∷ es) [] l q some = absurd (omega arith)
          few (e ∷ es) (x ∷ xs) l q some = let w : x ∷ xs ≡ [] = q in cc

      keys_typed : have_all_kinds z (exprs_of keys) ≡ true
      keys_typed = ap (have_all_kinds z) keys_exprs ∙ kinds_same z f a.news (exprs_of o.keys) a.kinds parts.0

      rs_kinds : map (kind_over z) (exprs_of rs) ≡ map (kind_over f) (exprs_of rs)
      rs_kinds = kinds_wider z f a.columns (exprs_of rs) (all_typed f rs b.fit)

      rs_typed : have_all_kinds z (exprs_of rs) ≡ true
      rs_typed = kinds_same z f (exprs_of rs) (exprs_of rs) rs_kinds (all_typed f rs b.fit)

      whole_typed : have_all_kinds z (exprs_of keys ++ exprs_of rs) ≡ true
      whole_typed = have_both z (exprs_of keys) (exprs_of rs) keys_typed rs_typed

      own_fresh : FreshOnce call.state.names split.names b.own
      own_fresh = b.fresh small

      node_once : (n : Name) → times n (expr_names (keys ++ rs)) ≤ 1
      node_once n =
          let x = times_items n keys rs in
          let y = ap (times n) keys_named in
          let w = times_items n o.keys o.aggregates in
          let few = b.few n in
          let one = asked_once n in
          by (cases_lt 0 (times n (expr_names asked))) x y w few one
        where
          by : (0 < times n (expr_names asked)) ⊎ (times n (expr_names asked) ≤ 0) → times n (expr_names (keys ++ rs)) ≡ times n (expr_names keys) + times n (expr_names rs) → times n (expr_names keys) ≡ times n (expr_names o.keys)
              → times n (expr_names asked) ≡ times n (expr_names o.keys) + times n (expr_names o.aggregates) → times n (expr_names rs) ≤ times n (expr_names o.aggregates) + b.own n → times n (expr_names asked) ≤ 1 → times n (expr_names (keys ++ rs)) ≤ 1
          by (inl lt) x y w few one =
              let was = well.known n (times_among n (expr_names asked) (omega arith)) in
              let z = known_none call.state.names split.names b.own own_fresh n (a.answered.names.0 n was) in
              omega arith
          by (inr le) x y w few one = let u = own_fresh.once n in omega arith

      abbrev h : Fields
      h = selected_schema (keys ++ rs) z

      h_fields : fields_of (keys ++ rs) z ≡ Some h
      h_fields = fields z keys rs whole_typed some_keys node_once

      abbrev g : Made
      g = group_of keys rs

      node_makes : Makes F before g h
      node_makes =
          selected_makes F at (group_by_node keys rs) call.stream before z a.answered.sound a.answered.stream refl (ap (list_all is_elementwise) keys_exprs ∙ list_plain a.news a.plain, items_all IsReduction rs (all_reductions f rs b.fit)) (keys ++ rs)
          (record {
            schema = h_fields;
            not_empty = some_grouped z keys rs whole_typed some_keys node_once;
            kinds = whole_typed;
            rules = group_rules z keys rs whole_typed some_keys node_once false None (all_scalar f rs b.fit) (no_literal f rs b.fit);
          })

      found : AllByRecursion (λ (m : Named). field_kind m.0 h ≡ kind_over z m.1) (keys ++ rs)
      found = fields_found h z h (keys ++ rs) h_fields (own_itself h (sound_distinct F g.state.nodes g.stream h node_makes.sound node_makes.stream))

      abbrev Shown : Named → Type 0
      Shown m = field_kind m.0 h ≡ kind_over z m.1

      reductions_found : HaveOwnKinds h f rs
      reductions_found = carried h z f rs (all_last Shown keys rs found) rs_kinds

      key_kinds : map (kind_over h) (exprs_of (own_columns (expr_names o.keys))) ≡ map (kind_over f) (exprs_of o.keys)
      key_kinds =
          ap (map (kind_over h)) (own_exprs (expr_names o.keys)) ∙ ap (λ (ns : List Name). map (kind_over h) (columns_named ns)) (sym keys_named) ∙ column_kinds h z keys (all_first Shown keys rs found) ∙ ap (map (kind_over z)) keys_exprs ∙ a.kinds

      abbrev shown : List Named
      shown = own_columns (expr_names o.keys) ++ b.above

      shown_names : expr_names shown ≡ expr_names asked
      shown_names = let p = own_names (expr_names o.keys) in let q = b.names in both_names (own_columns (expr_names o.keys)) b.above ∙ (λ i. p i ++ q i) ∙ sym (both_names o.keys o.aggregates)

      shown_kinds : map (kind_over h) (exprs_of shown) ≡ map (kind_over f) (exprs_of asked)
      shown_kinds =
          let own = own_columns (expr_names o.keys) in
          let p = key_kinds in
          let q = b.kinds h reductions_found in
          ap (map (kind_over h)) (both_exprs own b.above) ∙ map-append (kind_over h) (exprs_of own) (exprs_of b.above) ∙ (λ i. p i ++ q i) ∙ sym (map-append (kind_over f) (exprs_of o.keys) (exprs_of o.aggregates)) ∙ sym (ap (map (kind_over f)) (both_exprs o.keys o.aggregates))

      shown_typed : have_all_kinds h (exprs_of shown) ≡ true
      shown_typed = kinds_same h f (exprs_of shown) (exprs_of asked) shown_kinds (ap (have_all_kinds f) (both_exprs o.keys o.aggregates) ∙ well.typed)

      some_shown : exprs_of shown ≢ []
      some_shown = by o.keys well.some_key
        where
          by : (ks : List Named) → ks ≢ [] → exprs_of (own_columns (expr_names ks) ++ b.above) ≢ []
          by [] some e = some refl
          by (k ∷ ks) some e = let w : Tree.column k.0 ∷ exprs_of (own_columns (expr_names ks) ++ b.above) ≡ [] = e in cc

      names_known : KnowsNames split.names h
      names_known n q =
          let l = among_times n (expr_names (keys ++ rs)) (ap (is_among n) (sym (field_names z (keys ++ rs) h h_fields)) ∙ q) in
          let x = times_items n keys rs in
          let y = ap (times n) keys_named in
          let w = times_items n o.keys o.aggregates in
          let few = b.few n in
          by (cases_lt 0 (times n (expr_names asked))) l x y w few
        where
          by : (0 < times n (expr_names asked)) ⊎ (times n (expr_names asked) ≤ 0) → 1 ≤ times n (expr_names (keys ++ rs)) → times n (expr_names (keys ++ rs)) ≡ times n (expr_names keys) + times n (expr_names rs) → times n (expr_names keys) ≡ times n (expr_names o.keys)
              → times n (expr_names asked) ≡ times n (expr_names o.keys) + times n (expr_names o.aggregates) → times n (expr_names rs) ≤ times n (expr_names o.aggregates) + b.own n → IsKnown split.names n
          by (inl lt) l x y w few = b.grown.0 n (a.answered.names.0 n (well.known n (times_among n (expr_names asked) (omega arith))))
          by (inr le) l x y w few = (own_fresh.fresh n (omega arith)).1

      select_makes : (above_of keys rs b.above).state.names.next ≤ 2 ^ 64 → Makes F g.state (above_of keys rs b.above) out
      select_makes le =
          other_out F g.state (above_of keys rs b.above) (selected_schema shown h) out (ap (λ o. unwrap_or o []) (same_items h f shown asked shown_names shown_kinds))
          (select_made F at g.stream g.state h node_makes.sound node_makes.stream names_known shown shown_typed some_shown (λ n q. well.names_differ n (ap (repeats n) (sym shown_names) ∙ q)) le)

      all_make : (above_of keys rs b.above).state.names.next ≤ 2 ^ 64 → Makes F s (cut_of keys rs b.above) out
      all_make le =
          let m = above_of keys rs b.above in
          let k = makes_above F before g m h out node_makes (select_makes le) in
          let c = cut_of keys rs b.above in
          makes_then F s before a.answered.more c out a.answered.nodes (grown_then s.names call.state.names split.names a.answered.names b.grown) (makes_above F before m c out out k (cut_makes F at m.stream m.state out k.sound k.stream o.cut))

    streamed_makes : AreWhole f o.aggregates → (streamed_groups at o input s).state.names.next ≤ 2 ^ 64 → Makes F s (streamed_groups at o input s) out
    streamed_makes whole =
        let ns = expr_names o.keys in
        let b = splits f o.aggregates begun whole in
        let K = under ns call.exprs in
        let P : List Named → List Named → List Named → Type 0 = λ keys rs above. (cut_of keys rs above).state.names.next ≤ 2 ^ 64 → Makes F s (cut_of keys rs above) out in
        λ small.
        let m = above_of K split.reductions split.above in
        let g = group_of K split.reductions in
        let n = ap (λ (a : Names). a.next) (cut_names at o.cut m.stream m.state) in
        let up = (select_grows at g.stream (own_columns ns ++ split.above) g.state).1 in
        let first = b.grown.1 in
        let small_split : split.names.next ≤ 2 ^ 64 = omega arith in
        let a = keys_first F at input s f sound stream known (exprs_of o.keys) parts.0 (omega arith) in
        let count = key_count a b small_split in
        let front : K ≡ under ns a.news = ap (under ns) a.exprs ∙ under_front ns a.news (columns_named (names_of f)) count in
        let made : P (under ns a.news) b.new b.above = λ le. (let m = above_of (under ns a.news) b.new b.above in let e = ap (λ (a : Names). a.next) (cut_names at o.cut m.stream m.state) in all_make a b small_split (omega arith)) in
        subst (λ (keys : List Named). P keys split.reductions split.above) (sym front) (subst (λ (rs : List Named). P (under ns a.news) rs split.above) (sym b.reductions) (subst (λ (above : List Named). P (under ns a.news) b.new above) (sym b.shown) made)) small

    pub group_makes : (group_stream at o input s).state.names.next ≤ 2 ^ 64 → Makes F s (group_stream at o input s) out
    group_makes = by (can_stream o) refl
      where
        by : (c : Bool) → can_stream o ≡ c → (cond {A = Stream → State → Made} c (streamed_groups at o) (mapped_groups at o) input s).state.names.next ≤ 2 ^ 64 → Makes F s (cond {A = Stream → State → Made} c (streamed_groups at o) (mapped_groups at o) input s) out
        by true q small = streamed_makes (record { made = (both (not o.maintain_order && not (all_independent (exprs_of o.keys ++ exprs_of o.aggregates))) (list_all is_made_of_reductions (exprs_of o.aggregates)) q).1; typed = parts.1; literal = well.literal }) small
        by false q small = mapped_makes
