-- From what the calls make to what their answers mean.
use Rattle.std.proofs.Common.{◌≡◌, ℕ, ◌<◌, ◌≤◌, ◌^◌, Bool, true, false, not, cond, ℤ, List, [], ◌∷◌, ◌++◌, Some, refl, sym, ap, subst, ◌∙◌, arith}
use Rattle.std.proofs.lemmas.Int.{to_z-of_z}
use Rattle.std.proofs.lemmas.List.{append-nil}
use mir.Syntax.{w64}
use mir.Val.{SFits, of_z, to_z}
use Rattle.std.specs.Prelude.{◌||◌}
use Rattle.std.specs.Cmp.Lexicographic.{bytes_decides}
use Rattle.std.specs.List.{AllByRecursion, list_all, list_any}
use Rattle.std.specs.Str.{bytes_eq}
use Rattle.ps_frame.proofs.Lists.{both}
use Rattle.ps_frame.specs.Frames.{has_distinct_names}
use Rattle.ps_frame.specs.Functions.{Functions}
use Rattle.ps_frame.specs.Tables.{Fields}
use Rattle.ps_frame.specs.Trees.{Tree}
use Rattle.ps_frame.specs.Typing.{is_scalar}
use Rattle.ps_meaning.proofs.HStackFits.{distinct-from}
use Rattle.ps_meaning.specs.Schemas.{expr_names, fields_of, is_among, names_of}
use Rattle.ps_meaning.specs.Shape.{group_by_node}
use Rattle.ps_meaning.specs.Sound.{IsSoundButForReaders, have_all_kinds}
use Rattle.ps_meaning.specs.StepRefusals.{repeats}
use Rattle.ps_meaning.specs.Steps.{GroupStep, Name, Named, exprs_of, group_by, slice}
use Rattle.ps_plan.proofs.Complete.{there}
use Rattle.ps_rules.specs.Lowered.{lower_exprs, select_stream}
use Rattle.ps_rules.specs.Names.{IsKnown, Names}
use Rattle.ps_rules.specs.Slots.{Made, State, Stream, columns_named, over_selected, schema_at, schema_or_none, selected_schema, under}
use Rattle.ps_shares.specs.Kept.{IsReady}
use Rattle.name_rules.proofs.Ruling.{field_names, typed_fields}
use Rattle.plan_rules.specs.Groups.{can_stream, columns_over, group_stream, mapped_groups, own_columns, streamed_groups}
use Rattle.plan_rules.specs.Reductions.{split_aggregates}
use Rattle.plan_rules.specs.Slices.{slice_stream}
use Rattle.step_keeps.specs.Kept.{IsKeptStep, KeepsStep}
use Rattle.step_keeps.proofs.Cuts.{slices_keep}
use Rattle.step_keeps.proofs.Mapped.{mapped_groups_keep}
use Rattle.aggregates_keep.proofs.Streams.{streamed_groups_keep}
use Rattle.rule_parts.specs.Good.{IsStream, KnowsNames}
use Rattle.rule_parts.proofs.Columns.{own_itself}
use Rattle.rule_parts.proofs.Grouped.{GroupsWell, have_both, have_parts}
use Rattle.rule_parts.proofs.Growing.{select_grows}
use Rattle.rule_parts.proofs.Passing.{both_exprs, cut_names, slice_makes}
use Rattle.rule_nodes.proofs.Further.{own_typed}
use Rattle.rule_nodes.proofs.Groups.{group_makes}
use Rattle.kept_groups.specs.Asked.{IsLive, IsReadyToGroup, KeepsSound}
use Rattle.kept_groups.proofs.Ready.{some_keys}

-- what holds of each name holds of those among them
each_known : (P : Name → Type 0) (ns : List Name) → AllByRecursion P ns → (n : Name) → is_among n ns ≡ true → P n
each_known P [] all n h = cc
each_known P (m ∷ ns) all n h = by (bytes_eq n m) refl h (each_known P ns all.1 n)
  where
    by : (b : Bool) → bytes_eq n m ≡ b → (b || is_among n ns) ≡ true → (is_among n ns ≡ true → P n) → P n
    by true q h rest = subst P (sym ((bytes_decides n m).0 q)) all.0
    by false q h rest = rest h

no_other : (test : Tree → Bool) (es : List Tree) → list_all test es ≡ true → list_any (λ e. not (test e)) es ≡ true → ⊥
no_other test [] all some = cc
no_other test (e ∷ es) all some = let m = both (test e) (list_all test es) all in no_other test es m.1 (sym (ap (λ b. not b || list_any (λ e. not (test e)) es) m.0) ∙ some)

-- counters along a call
still_small : (b c d top : ℕ) → b ≤ c → d ≡ c → d ≤ top → b ≤ top
still_small b c d top more same small = omega arith

below : (n top : ℕ) → n < top → n ≤ top
below n top lt = omega arith

module _ (F : Functions) (at : ℕ) (i : Stream) (s : State) (o : GroupStep) (h : IsReadyToGroup s i o) where
  abbrev f : Fields
  f = schema_at s.nodes i

  abbrev asked : List Named
  asked = o.keys ++ o.aggregates

  abbrev out : Fields
  out = selected_schema asked f

  is : f ≡ h.exprs.node.schema
  is = ap schema_or_none h.exprs.there

  once : has_distinct_names f ≡ true
  once = ap has_distinct_names is ∙ h.exprs.distinct_names

  typed : have_all_kinds f (exprs_of o.keys ++ exprs_of o.aggregates) ≡ true
  typed = ap (λ (g : Fields). have_all_kinds g (exprs_of o.keys ++ exprs_of o.aggregates)) is ∙ h.exprs.typed

  fields : fields_of asked f ≡ Some out
  fields = typed_fields f asked (ap (have_all_kinds f) (both_exprs o.keys o.aggregates) ∙ typed)

  names : names_of out ≡ expr_names asked
  names = field_names f asked out fields

  differ : has_distinct_names out ≡ true
  differ = distinct-from out (λ n r. h.differ n (ap (repeats n) (sym names) ∙ r))

  known_asked : (n : Name) → is_among n (expr_names asked) ≡ true → IsKnown s.names n
  known_asked = each_known (IsKnown s.names) (expr_names asked) h.known

  known_out : KnowsNames s.names out
  known_out n q = known_asked n (ap (is_among n) (sym names) ∙ q)

  known : KnowsNames s.names f
  known n q = each_known (IsKnown s.names) (names_of h.exprs.node.schema) h.exprs.known n (ap (λ (g : Fields). is_among n (names_of g)) (sym is) ∙ q)

  -- keys and all columns are asked for together
  beside_keys : IsReady s i (exprs_of o.keys ++ columns_over i s)
  beside_keys =
      let columns = columns_named (names_of f) in
      let all : have_all_kinds f columns ≡ true = ap (have_all_kinds f) (sym (append-nil columns)) ∙ own_typed f f [] (own_itself f once) refl in
      let both = have_both f (exprs_of o.keys) columns (have_parts f (exprs_of o.keys) (exprs_of o.aggregates) typed).0 all in
      record {
        ordered = h.exprs.ordered;
        node = h.exprs.node;
        there = h.exprs.there;
        known = h.exprs.known;
        distinct_names = h.exprs.distinct_names;
        typed = ap (λ (g : Fields). have_all_kinds g (exprs_of o.keys ++ columns)) (sym is) ∙ both;
        some = some_keys o.keys columns h.key;
      }

  streamed : can_stream o ≡ true → (streamed_groups at o i s).state.names.next ≤ 2 ^ 64 → IsKeptStep F at (group_by o) out (i ∷ []) s
  streamed q small =
      let a = lower_exprs at i (exprs_of o.keys ++ columns_over i s) s in
      let split = split_aggregates o.aggregates a.state.names in
      let keys = under (expr_names o.keys) a.exprs in
      let g = over_selected at (group_by_node keys split.reductions) (keys ++ split.reductions) a.stream (record a.state { names = split.names }) in
      let shown = own_columns (expr_names o.keys) ++ split.above in
      let m = select_stream at g.stream shown g.state in
      let more = (select_grows at g.stream shown g.state).1 in
      let same = ap (λ (x : Names). x.next) (cut_names at o.cut m.stream m.state) in
      let low = still_small split.names.next m.state.names.next (streamed_groups at o i s).state.names.next (2 ^ 64) more same small in
      streamed_groups_keep F at out s i o q h.reads h.key h.column fields differ known_out beside_keys low

  kept : (group_stream at o i s).state.names.next ≤ 2 ^ 64 → IsKeptStep F at (group_by o) out (i ∷ []) s
  kept = by (can_stream o) refl
    where
      by : (b : Bool) → can_stream o ≡ b → (cond {A = Stream → State → Made} b (streamed_groups at o) (mapped_groups at o) i s).state.names.next ≤ 2 ^ 64 → IsKeptStep F at (group_by o) out (i ∷ []) s
      by true q small = streamed q small
      by false q small = mapped_groups_keep F at out i s o q

  well : GroupsWell f s.names o
  well = record { typed = typed; some_key = h.key; names_differ = h.differ; known = known_asked; scalar = no_other is_scalar (exprs_of o.aggregates) h.scalar; literal = h.reads }

  sound : (group_stream at o i s).state.names.next ≤ 2 ^ 64 → KeepsSound F s (group_stream at o i s).state
  sound small was = (group_makes F at i s was (record { node = h.exprs.node; there = h.exprs.there; schema = sym is }) known o well small).sound

  -- of what a call leaves
  module _ (t : State) (stream : Stream) (made : record { state = t; stream = stream } ≡ group_stream at o i s) (fits : t.names.next < 2 ^ 64) where
    small : (group_stream at o i s).state.names.next ≤ 2 ^ 64
    small = subst (λ (m : Made). m.state.names.next ≤ 2 ^ 64) made (below t.names.next (2 ^ 64) fits)

    pub groups_kept : KeepsStep F at (group_by o) s t (i ∷ []) stream
    groups_kept = subst (λ (m : Made). KeepsStep F at (group_by o) s m.state (i ∷ []) m.stream) (sym made) (kept small)

    pub groups_sound : KeepsSound F s t
    groups_sound = subst (λ (m : Made). KeepsSound F s m.state) (sym made) (sound small)

-- an offset that is passed by value
pub offset_passed : (at : ℕ) (offset : ℤ) (n : ℕ) (i : Stream) (s : State) (m : Made) → SFits w64 offset → m ≡ slice_stream at (to_z w64 (of_z w64 offset)) n i s → m ≡ slice_stream at offset n i s
offset_passed at offset n i s m fits made = subst (λ (z : ℤ). m ≡ slice_stream at z n i s) (to_z-of_z w64 offset fits) made

module _ (F : Functions) (at : ℕ) (i : Stream) (s : State) (offset : ℤ) (n : ℕ) (t : State) (stream : Stream) (made : record { state = t; stream = stream } ≡ slice_stream at offset n i s) where
  pub slices_kept : KeepsStep F at (slice offset n) s t (i ∷ []) stream
  slices_kept = subst (λ (m : Made). KeepsStep F at (slice offset n) s m.state (i ∷ []) m.stream) (sym made) (slices_keep F at s i [] offset n)

  pub slices_sound : IsLive s i → KeepsSound F s t
  slices_sound live was =
      let p = there s.nodes i.0 live in
      let from : IsStream s.nodes i (schema_at s.nodes i) = record { node = p.0; there = p.1; schema = sym (ap schema_or_none p.1) } in
      subst (λ (m : Made). IsSoundButForReaders F m.state.nodes) (sym made) (slice_makes F at i s (schema_at s.nodes i) was from offset n).sound
