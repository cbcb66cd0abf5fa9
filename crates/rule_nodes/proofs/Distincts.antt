-- Distincts by groups: keys and kept values, the groups of one row, and the columns in the order of the input.
use Rattle.std.proofs.Common.{◌≡◌, ◌≢◌, ◌⊎◌, inl, inr, ℕ, ◌+◌, ◌<◌, ◌≤◌, ◌^◌, Bool, true, false, not, cond, List, [], ◌∷◌, ◌++◌, Some, None, refl, sym, ap, ◌∙◌, arith}
use Rattle.std.specs.Prelude.{IsSomeAnd, IsTrue, unwrap_or}
use Rattle.std.specs.List.{AllByRecursion, list_any}
use Rattle.std.proofs.lemmas.Bool.{cases_lt}
use Rattle.std.proofs.lemmas.List.{append-nil}
use Rattle.ps_frame.specs.Frames.{has_distinct_names}
use Rattle.ps_frame.specs.Functions.{Functions}
use Rattle.ps_frame.specs.Parts.{is_literal_aggregate, some_part}
use Rattle.ps_frame.specs.Tables.{Fields, field_kind}
use Rattle.ps_frame.specs.Trees.{Tree}
use Rattle.ps_frame.specs.Typing.{binary_kind, is_scalar, kind_over}
use Rattle.ps_frame.specs.declared.expr.Operator.TheVariants as op
use Rattle.ps_frame.specs.declared.value.DataType.TheVariants as kind
use Rattle.ps_meaning.specs.Schemas.{expr_names, is_among, names_of}
use Rattle.ps_meaning.specs.Shape.{filter_node}
use Rattle.ps_meaning.specs.Sound.{IsSoundButForReaders, have_all_kinds}
use Rattle.ps_meaning.specs.StepRefusals.{lacks_name, repeats}
use Rattle.ps_meaning.specs.Steps.{DistinctStep, GroupStep, Name, Named, exprs_of}
use Rattle.ps_rules.specs.Names.{IsKnown, Names}
use Rattle.ps_rules.specs.Slots.{Made, State, Stream, after_name, new_name, schema_at, selected_schema, with_columns}
use Rattle.ps_rules.proofs.Free.{fresh_known, fresh_unknown}
use Rattle.ps_shares.proofs.Fresh.{grown_fresh}
use Rattle.ps_shares.proofs.Growing.{columns_names}
use Rattle.name_rules.proofs.Items.{times_items}
use Rattle.name_rules.proofs.Ruling.{filter_right, typed_fields}
use Rattle.name_rules.proofs.Times.{among_times, distinct_once, once_never, times, times_among}
use Rattle.plan_rules.specs.Distinct.{grouped_distinct, groups_with, is_one, keeps_none, kept_groups, kept_values, other_than, single_rows}
use Rattle.plan_rules.specs.Groups.{own_columns}
use Rattle.rule_parts.specs.Good.{IsStream, KnowsNames}
use Rattle.rule_parts.proofs.Columns.{OwnKinds, SameKinds, columns_make, own_found, own_itself, same_own}
use Rattle.rule_parts.proofs.Grouped.{GroupsWell, fields_found, have_both, own_exprs, own_names}
use Rattle.rule_parts.proofs.Growing.{group_grows}
use Rattle.rule_parts.proofs.Passing.{both_exprs, cut_makes, cut_names}
use Rattle.rule_parts.proofs.Picks.{all_first, all_last}
use Rattle.rule_parts.proofs.Rules.{at_among}
use Rattle.rule_parts.proofs.Standing.{Makes, makes_above, makes_then, same_makes, sound_distinct, sound_some}
use Rattle.rule_parts.proofs.Kept.{AreKeys, IsMore, columns_typed, each_inside, inside_times, kept_kind, kept_literal, kept_names, kept_scalar, kept_typed, keys_of, none_more, not_both, one_more, other_there, others_few, others_inside, others_none}
use Rattle.rule_nodes.proofs.Groups.{group_makes}

module _ (F : Functions) (at : ℕ) (input : Stream) (o : DistinctStep) where
  module _ (s : State) (sound : IsSoundButForReaders F s.nodes) (stream : IsStream s.nodes input (schema_at s.nodes input)) (known : KnowsNames s.names (schema_at s.nodes input)) (more : List Named) (beside : IsMore (schema_at s.nodes input) s.names more)
      (are : AreKeys (schema_at s.nodes input) (unwrap_or o.subset (names_of (schema_at s.nodes input)))) where
    abbrev f : Fields
    f = schema_at s.nodes input

    abbrev keys : List Name
    keys = unwrap_or o.subset (names_of f)

    abbrev others : List Name
    others = other_than keys (names_of f)

    abbrev kept : List Named
    kept = kept_values o.keep others

    abbrev groups : GroupStep
    groups = record { keys = own_columns keys; aggregates = kept ++ more; maintain_order = o.maintain_order; cut = None }

    abbrev asked : List Named
    asked = own_columns keys ++ (kept ++ more)

    once : has_distinct_names f ≡ true
    once = sound_distinct F s.nodes input f sound stream

    counted : (n : Name) → times n (expr_names asked) ≡ times n keys + (times n others + times n (expr_names more))
    counted n =
        let x = times_items n (own_columns keys) (kept ++ more) in
        let y = times_items n kept more in
        let p = ap (times n) (own_names keys) in
        let q = ap (times n) (kept_names o.keep others) in
        omega arith

    all_inside : AllByRecursion (λ n. is_among n (names_of f) ≡ true) (names_of f)
    all_inside = each_inside (names_of f) (names_of f) (λ n q. q)

    asked_once : (n : Name) → times n (expr_names asked) ≤ 1
    asked_once n =
        let c = counted n in
        let k = are.once n in
        let a = distinct_once f once n in
        let r = others_few keys n (names_of f) in
        let m = beside.once n in
        by (cases_lt 0 (times n keys)) (cases_lt 0 (times n (expr_names more))) c k a r m
      where
        by : (0 < times n keys) ⊎ (times n keys ≤ 0) → (0 < times n (expr_names more)) ⊎ (times n (expr_names more) ≤ 0) → times n (expr_names asked) ≡ times n keys + (times n others + times n (expr_names more)) → times n keys ≤ 1 → times n (names_of f) ≤ 1
            → times n others ≤ times n (names_of f) → times n (expr_names more) ≤ 1 → times n (expr_names asked) ≤ 1
        by (inl x) (inl y) c k a r m = absurd (beside.apart n (omega arith) (inside_times n keys (names_of f) are.inside (omega arith)))
        by (inl x) (inr y) c k a r m = let z = others_none keys n (names_of f) (times_among n keys (omega arith)) in omega arith
        by (inr x) (inl y) c k a r m =
            elim (cases_lt 0 (times n (names_of f))) [
              | inl z ↦ absurd (beside.apart n (omega arith) (omega arith))
              | inr z ↦ omega arith
            ]
        by (inr x) (inr y) c k a r m = omega arith

    asked_typed : have_all_kinds f (exprs_of (own_columns keys) ++ exprs_of (kept ++ more)) ≡ true
    asked_typed =
        have_both f (exprs_of (own_columns keys)) (exprs_of (kept ++ more)) (ap (have_all_kinds f) (own_exprs keys) ∙ columns_typed f keys are.inside)
        (ap (have_all_kinds f) (both_exprs kept more) ∙ have_both f (exprs_of kept) (exprs_of more) (kept_typed o.keep f others (others_inside keys (names_of f) (names_of f) all_inside)) beside.typed)

    asked_known : (n : Name) → is_among n (expr_names asked) ≡ true → IsKnown s.names n
    asked_known n q =
        let c = counted n in
        let l = among_times n (expr_names asked) q in
        let r = others_few keys n (names_of f) in
        by (cases_lt 0 (times n keys)) (cases_lt 0 (times n (expr_names more))) c l r
      where
        by : (0 < times n keys) ⊎ (times n keys ≤ 0) → (0 < times n (expr_names more)) ⊎ (times n (expr_names more) ≤ 0) → times n (expr_names asked) ≡ times n keys + (times n others + times n (expr_names more)) → 1 ≤ times n (expr_names asked) → times n others ≤ times n (names_of f) → IsKnown s.names n
        by (inl x) y c l r = known n (times_among n (names_of f) (inside_times n keys (names_of f) are.inside (omega arith)))
        by (inr x) (inl y) c l r = beside.known n (omega arith)
        by (inr x) (inr y) c l r = known n (times_among n (names_of f) (omega arith))

    some_keys : (ns : List Name) → ns ≢ [] → own_columns ns ≢ []
    some_keys [] some e = some refl
    some_keys (n ∷ ns) some e = let w : (n, Tree.column n) ∷ own_columns ns ≡ [] = e in cc

    well : GroupsWell f s.names groups
    well =
        record {
          typed = asked_typed;
          some_key = some_keys keys are.some;
          names_differ = λ n q. once_never n (expr_names asked) (asked_once n) q;
          known = asked_known;
          scalar = λ q. not_both (list_any (λ e. not (is_scalar e)) (exprs_of (kept ++ more))) q (ap (list_any (λ e. not (is_scalar e))) (both_exprs kept more) ∙ kept_scalar o.keep others (exprs_of more) beside.scalar);
          literal = λ q. not_both (list_any (some_part is_literal_aggregate) (exprs_of (kept ++ more))) q (ap (list_any (some_part is_literal_aggregate)) (both_exprs kept more) ∙ kept_literal o.keep others (exprs_of more) beside.literal);
        }

    abbrev gs : Fields
    gs = selected_schema asked f

    abbrev made : Made
    made = groups_with at more o input s

    with_makes : made.state.names.next ≤ 2 ^ 64 → Makes F s made gs
    with_makes small = group_makes F at input s sound stream known groups well small

    -- the columns have their own kinds, and so has what is counted
    module _ (m : Makes F s made gs) where
      abbrev Shown : Named → Type 0
      Shown x = field_kind x.0 gs ≡ kind_over f x.1

      found : AllByRecursion Shown asked
      found = fields_found gs f gs asked (typed_fields f asked (ap (have_all_kinds f) (both_exprs (own_columns keys) (kept ++ more)) ∙ asked_typed)) (own_itself gs (sound_distinct F made.state.nodes made.stream gs m.sound m.stream))

      found_more : AllByRecursion Shown more
      found_more = all_last Shown kept more (all_last Shown (own_columns keys) (kept ++ more) found)

      of_keys : (ns : List Name) → AllByRecursion Shown (own_columns ns) → SameKinds gs f ns
      of_keys [] all = tt
      of_keys (n ∷ ns) all = (all.0, of_keys ns all.1)

      of_kept : (ns : List Name) → AllByRecursion Shown (kept_values o.keep ns) → SameKinds gs f ns
      of_kept [] all = tt
      of_kept (n ∷ ns) all = (all.0 ∙ kept_kind o.keep (field_kind n f), of_kept ns all.1)

      one_kind : (n : Name) → is_among n (names_of f) ≡ true → field_kind n gs ≡ field_kind n f
      one_kind n q = by (is_among n keys) refl
        where
          by : (b : Bool) → is_among n keys ≡ b → field_kind n gs ≡ field_kind n f
          by true p = at_among (λ n. field_kind n gs ≡ field_kind n f) keys n (of_keys keys (all_first Shown (own_columns keys) (kept ++ more) found)) p
          by false p = at_among (λ n. field_kind n gs ≡ field_kind n f) others n (of_kept others (all_first Shown kept more (all_last Shown (own_columns keys) (kept ++ more) found))) (other_there keys n (names_of f) q p)

      all_kinds : (ns : List Name) → AllByRecursion (λ n. is_among n (names_of f) ≡ true) ns → SameKinds gs f ns
      all_kinds [] all = tt
      all_kinds (n ∷ ns) all = (one_kind n all.0, all_kinds ns all.1)

      own : OwnKinds gs f
      own = same_own gs f f (all_kinds (names_of f) all_inside) (own_itself f once)

  module _ (s : State) (sound : IsSoundButForReaders F s.nodes) (stream : IsStream s.nodes input (schema_at s.nodes input)) (known : KnowsNames s.names (schema_at s.nodes input)) (key : o.subset ≡ Some [] → ⊥)
      (missing : (n : Name) → IsSomeAnd o.subset (λ ns. IsTrue (lacks_name n (schema_at s.nodes input) ns)) → ⊥) (repeated : (n : Name) → IsSomeAnd o.subset (λ ns. IsTrue (repeats n ns)) → ⊥) where
    abbrev e : Fields
    e = schema_at s.nodes input

    are : AreKeys e (unwrap_or o.subset (names_of e))
    are = keys_of e o.subset (sound_some F s.nodes input e sound stream) (sound_distinct F s.nodes input e sound stream) key missing repeated

    -- groups in which each column has its own kind
    record Kept (m : Made) : Type 0 where
      schema : Fields
      makes : Makes F s m schema
      own : OwnKinds schema e

    plain_kept : (groups_with at [] o input s).state.names.next ≤ 2 ^ 64 → Kept (groups_with at [] o input s)
    plain_kept small =
        let beside = none_more e s.names in
        let m = with_makes s sound stream known [] beside are small in
        record { schema = gs s sound stream known [] beside are; makes = m; own = own s sound stream known [] beside are m }

    single_kept : (single_rows at o input s).state.names.next ≤ 2 ^ 64 → Kept (single_rows at o input s)
    single_kept small =
        let t = after_name s in
        let height = new_name s in
        let more : List Named = (height, Tree.len) ∷ [] in
        let g = groups_with at more o input t in
        let grown = grown_fresh s.names in
        let later : KnowsNames t.names e = λ n q. grown.0 n (known n q) in
        let up = group_grows at (record { keys = own_columns (unwrap_or o.subset (names_of e)); aggregates = kept_values o.keep (other_than (unwrap_or o.subset (names_of e)) (names_of e)) ++ more; maintain_order = o.maintain_order; cut = None }) input t in
        let le = up.1 in
        let first : t.names.next ≤ 2 ^ 64 = omega arith in
        let beside : IsMore e t.names more = one_more e height t.names (fresh_known s.names first) (λ q. fresh_unknown s.names first (known height q)) in
        let m = with_makes t sound stream later more beside are small in
        let z = gs t sound stream later more beside are in
        let is : field_kind height z ≡ Some kind.IdxSize = (found_more t sound stream later more beside are m).0 in
        let boolean : kind_over z (is_one height) ≡ Some kind.Boolean = ap (λ k. binary_kind op.Eq k (Some kind.IdxSize)) is in
        let some = sound_some F g.state.nodes g.stream z m.sound m.stream in
        let once = sound_distinct F g.state.nodes g.stream z m.sound m.stream in
        let k = same_makes F at (filter_node (is_one height)) g.stream g.state z m.sound m.stream refl refl (filter_right F (is_one height) z some (distinct_once z once) boolean) in
        record { schema = z; makes = makes_then F s t [] (single_rows at o input s) z (sym (append-nil s.nodes)) grown (makes_above F t g (single_rows at o input s) z z m k); own = own t sound stream later more beside are m }

    kept_makes : (kept_groups at o input s).state.names.next ≤ 2 ^ 64 → Kept (kept_groups at o input s)
    kept_makes = by (keeps_none o.keep)
      where
        by : (b : Bool) → (cond {A = Stream → State → Made} b (single_rows at o) (groups_with at [] o) input s).state.names.next ≤ 2 ^ 64 → Kept (cond {A = Stream → State → Made} b (single_rows at o) (groups_with at [] o) input s)
        by true small = single_kept small
        by false small = plain_kept small

    pub grouped_makes : (grouped_distinct at o input s).state.names.next ≤ 2 ^ 64 → Makes F s (grouped_distinct at o input s) e
    grouped_makes small =
        let g = kept_groups at o input s in
        let ordered = with_columns at (names_of e) g.stream g.state in
        let whole = grouped_distinct at o input s in
        let p = ap (λ (a : Names). a.next) (cut_names at o.cut ordered.stream ordered.state) in
        let q = ap (λ (a : Names). a.next) (columns_names at input (names_of e) g.stream g.state) in
        let le : g.state.names.next ≤ 2 ^ 64 = omega arith in
        let k = kept_makes le in
        let m = k.makes in
        let some = sound_some F s.nodes input e sound stream in
        let once = sound_distinct F s.nodes input e sound stream in
        let c = columns_make F at g.stream g.state k.schema m.sound m.stream e (own_found k.schema e k.own) some once in
        let above = makes_above F s g ordered k.schema e m c in
        makes_above F s ordered whole e e above (cut_makes F at ordered.stream ordered.state e above.sound above.stream o.cut)
