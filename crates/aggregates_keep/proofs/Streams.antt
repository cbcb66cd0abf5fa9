-- A group-by that streams, whose aggregates hold reductions: these are grouped, and a select above puts the aggregates together.
use Rattle.std.proofs.Common.{◌≡◌, ◌≢◌, ℕ, ◌≤◌, ◌^◌, Bool, true, false, not, cond, ◌&&◌, List, [], ◌∷◌, ◌++◌, Option, Some, None, inl, refl, sym, ap, subst, ◌∙◌, arith}
use Rattle.std.proofs.lemmas.List.{map-append}
use Rattle.std.specs.Prelude.{IsTrue, is_some, map, slice_get}
use Rattle.std.specs.List.{AllByRecursion, list_all, list_any}
use Rattle.ps_frame.proofs.Lists.{and_both, both}
use Rattle.ps_frame.specs.Frames.{has_distinct_names}
use Rattle.ps_frame.specs.Functions.{Functions}
use Rattle.ps_frame.specs.Parts.{is_literal_aggregate, some_part}
use Rattle.ps_frame.specs.Tables.{Fields, field_kind}
use Rattle.ps_frame.specs.Typing.{is_elementwise, kind_over}
use Rattle.ps_frame.specs.Trees.{Tree}
use Rattle.ps_frame.specs.declared.value.DataType.{DataType}
use Rattle.ps_meaning.specs.Schemas.{both as both_of, expr_names, fields_of, is_among, names_of}
use Rattle.ps_meaning.specs.Shape.{PhysicalNode, group_by_node, select_node}
use Rattle.ps_meaning.specs.Sound.{IsReduction, have_all_kinds, schema_at as schema_there}
use Rattle.ps_meaning.specs.Steps.{GroupStep, Name, Named, Step, exprs_of, group_by, select}
use Rattle.ps_rules.specs.Calls.{Answer, all_independent}
use Rattle.ps_rules.specs.Lowered.{lower_exprs, select_stream}
use Rattle.ps_rules.specs.Names.{IsKnown}
use Rattle.ps_rules.specs.Slots.{Made, State, Stream, columns_named, over_selected, schema_at, schema_or_none, selected_schema, under}
use Rattle.ps_shares.specs.Kept.{IsReady}
use Rattle.name_rules.proofs.Items.{kinds_same}
use Rattle.name_rules.proofs.Ruling.{field_names}
use Rattle.plan_rules.specs.Groups.{can_stream, columns_over, group_stream, mapped_groups, own_columns, streamed_groups}
use Rattle.plan_rules.specs.Reductions.{Split, is_made_of_reductions, split_aggregates}
use Rattle.plan_rules.specs.Slices.{cut_stream}
use Rattle.rule_parts.specs.Good.{KnowsNames}
use Rattle.rule_parts.proofs.Columns.{own_itself}
use Rattle.rule_parts.proofs.Grouped.{all_reductions, both_names, column_kinds, fields_found, have_both, have_parts, own_exprs, own_names, same_items}
use Rattle.rule_parts.proofs.Growing.{exprs_grow}
use Rattle.rule_parts.proofs.Passing.{both_exprs}
use Rattle.rule_parts.proofs.Picks.{all_first, all_last}
use Rattle.rule_parts.proofs.Reduced.{AreWhole, Splits, splits}
use Rattle.step_keeps.specs.Kept.{IsKeptStep, KeepsStep, are_all_own}
use Rattle.step_keeps.proofs.Composed.{Composes, KeepsOver, both_keep}
use Rattle.step_keeps.proofs.Cuts.{cut_keeps}
use Rattle.step_keeps.proofs.One.{last_there, made_here, plain_means}
use Rattle.step_keeps.proofs.Selected.{select_is}
use Rattle.reductions_keep.proofs.Above.{all_by_cells, all_plain_alone, each_passes, own_are_plain}
use Rattle.reductions_keep.proofs.Fresh.{grouped_differ, grouped_fields}
use Rattle.reductions_keep.proofs.Parts.{AreApart, split_apart, split_reductions}
use Rattle.group_keeps.proofs.Groups.{free_group}
use Rattle.group_keeps.proofs.Streams.{gives_as, groups_keep, node_keeps}
use Rattle.aggregates_keep.proofs.Composed.{shown_of}
use Rattle.aggregates_keep.proofs.Composes.{IsOneOf, reductions_compose}
use Rattle.aggregates_keep.proofs.Sides.{AreTakenApart, shown_exprs}

-- expressions that are fields have kinds
typed_by_fields : (f : Fields) (es : List Named) (fs : Fields) → fields_of es f ≡ Some fs → have_all_kinds f (exprs_of es) ≡ true
typed_by_fields f [] fs e = refl
typed_by_fields f (x ∷ es) fs e = by (kind_over f x.1) (fields_of es f) refl refl e (typed_by_fields f es)
  where
    by : (o : Option DataType) (r : Option Fields) → kind_over f x.1 ≡ o → fields_of es f ≡ r → both_of (λ (k : DataType) (gs : Fields). (x.0, k) ∷ gs) o r ≡ Some fs → ((gs : Fields) → fields_of es f ≡ Some gs → have_all_kinds f (exprs_of es) ≡ true) → have_all_kinds f (exprs_of (x ∷ es)) ≡ true
    by None r p q e rest = let w : None ≡ Some fs = e in cc
    by (Some k) None p q e rest = let w : None ≡ Some fs = e in cc
    by (Some k) (Some gs) p q e rest = and_both (is_some (kind_over f x.1)) (have_all_kinds f (exprs_of es)) (ap is_some p) (rest gs q)

same_there : (p : Option PhysicalNode) → schema_there p ≡ schema_or_none p
same_there None = refl
same_there (Some p) = refl

-- columns in front of what goes by cell
front_by_cells : (ns : List Name) (xs : List Named) → list_all is_elementwise (exprs_of xs) ≡ true → list_all is_elementwise (exprs_of (own_columns ns ++ xs)) ≡ true
front_by_cells [] xs all = all
front_by_cells (n ∷ ns) xs all = front_by_cells ns xs all

front_reads : (keys xs : List Named) → keys ≢ [] → all_independent (exprs_of (own_columns (expr_names keys) ++ xs)) ≡ false
front_reads [] xs some = absurd (some refl)
front_reads (k ∷ keys) xs some = refl

module _ (F : Functions) (at : ℕ) (schema : Fields) (s : State) (i : Stream) (o : GroupStep) (streams : can_stream o ≡ true) (literal : ¬ IsTrue (list_any (some_part is_literal_aggregate) (exprs_of o.aggregates))) (some_key : o.keys ≢ []) (some : schema_at s.nodes i ≢ [])
    (fields : fields_of (o.keys ++ o.aggregates) (schema_at s.nodes i) ≡ Some schema) (distinct : has_distinct_names schema ≡ true) (known : KnowsNames s.names schema) (ready : IsReady s i (exprs_of o.keys ++ columns_over i s))
    (low : (split_aggregates o.aggregates (lower_exprs at i (exprs_of o.keys ++ columns_over i s) s).state.names).names.next ≤ 2 ^ 64) where
  abbrev f : Fields
  f = schema_at s.nodes i

  abbrev call : Answer
  call = lower_exprs at i (exprs_of o.keys ++ columns_over i s) s

  abbrev knames : List Name
  knames = expr_names o.keys

  typed : (have_all_kinds f (exprs_of o.keys) ≡ true) × (have_all_kinds f (exprs_of o.aggregates) ≡ true)
  typed = have_parts f (exprs_of o.keys) (exprs_of o.aggregates) (ap (have_all_kinds f) (sym (both_exprs o.keys o.aggregates)) ∙ typed_by_fields f (o.keys ++ o.aggregates) schema fields)

  whole : AreWhole f o.aggregates
  whole = record { made = (both (not o.maintain_order && not (all_independent (exprs_of o.keys ++ exprs_of o.aggregates))) (list_all is_made_of_reductions (exprs_of o.aggregates)) streams).1; typed = typed.1; literal = λ q. literal q }

  abbrev begun : Split
  begun = record { names = call.state.names; reductions = []; above = [] }

  abbrev split : Split
  split = split_aggregates o.aggregates call.state.names

  b : Splits f o.aggregates begun split
  b = splits f o.aggregates begun whole

  low_call : call.state.names.next ≤ 2 ^ 64
  low_call = let g = b.grown in let up = g.1 in omega arith

  known_there : (n : Name) → IsTrue (is_among n (names_of schema)) → IsKnown begun.names n
  known_there n k = (exprs_grow at i (exprs_of o.keys ++ columns_over i s) s).0 n (known n k)

  -- keys and reductions are the fields of one schema
  abbrev h : Fields
  h = selected_schema (o.keys ++ b.new) f

  h_fields : fields_of (o.keys ++ b.new) f ≡ Some h
  h_fields = grouped_fields f schema o.keys o.aggregates fields distinct typed.0 begun split known_there b low

  h_distinct : has_distinct_names h ≡ true
  h_distinct = grouped_differ f schema o.keys o.aggregates fields distinct typed.0 begun split known_there b low

  abbrev HasOwnKind : Named → Type 0
  HasOwnKind m = field_kind m.0 h ≡ kind_over f m.1

  found : AllByRecursion HasOwnKind (o.keys ++ b.new)
  found = fields_found h f h (o.keys ++ b.new) h_fields (own_itself h h_distinct)

  key_kinds : map (kind_over h) (columns_named knames) ≡ map (kind_over f) (exprs_of o.keys)
  key_kinds = column_kinds h f o.keys (all_first HasOwnKind o.keys b.new found)

  above_kinds : map (kind_over h) (exprs_of b.above) ≡ map (kind_over f) (exprs_of o.aggregates)
  above_kinds = b.kinds h (all_last HasOwnKind o.keys b.new found)

  reductions : AllByRecursion (λ (m : Named). IsReduction m.1) b.new
  reductions = all_reductions f b.new b.fit

  apart : AreApart b.new o.aggregates b.above
  apart =
      let p = split_apart split.reductions o.aggregates begun whole.made (λ m k. k) in
      subst (λ (rs : List Named). AreApart rs o.aggregates b.above) b.reductions (subst (λ (xs : List Named). AreApart split.reductions o.aggregates xs) (sym p.1 ∙ b.shown) p.2)

  taken : AreTakenApart o.keys o.aggregates b.new b.above h
  taken =
      record {
        some_key = some_key;
        made = whole.made;
        reductions = reductions;
        apart = apart;
        inside = ap exprs_of (sym b.reductions) ∙ split_reductions split.reductions o.aggregates begun;
        named = field_names f (o.keys ++ b.new) h h_fields ∙ both_names o.keys b.new;
        distinct = h_distinct;
        kinds = each_passes (λ (e : Tree). is_some (kind_over h e)) (shown_exprs o.keys b.above)
            (have_both h (columns_named knames) (exprs_of b.above) (kinds_same h f (columns_named knames) (exprs_of o.keys) key_kinds typed.0) (kinds_same h f (exprs_of b.above) (exprs_of o.aggregates) above_kinds typed.1));
      }

  -- what is shown has the fields of the whole step
  abbrev shown : List Named
  shown = shown_of o.keys b.above

  shown_fields : fields_of shown h ≡ Some schema
  shown_fields =
      let own = own_columns knames in
      let names = (let p = own_names knames in let q = b.names in both_names own b.above ∙ (λ j. p j ++ q j) ∙ sym (both_names o.keys o.aggregates)) in
      let keys = ap (map (kind_over h)) (own_exprs knames) ∙ key_kinds in
      same_items h f shown (o.keys ++ o.aggregates) names
      (ap (map (kind_over h)) (both_exprs own b.above)
      ∙ map-append (kind_over h) (exprs_of own) (exprs_of b.above)
      ∙ (λ j. keys j ++ above_kinds j)
      ∙ sym (map-append (kind_over f) (exprs_of o.keys) (exprs_of o.aggregates))
      ∙ sym (ap (map (kind_over f)) (both_exprs o.keys o.aggregates)))
      ∙ fields

  abbrev first : Step
  first = group_by (free_group o.keys b.new)

  abbrev last : Step
  last = select shown

  abbrev uncut : Step
  uncut = group_by (free_group o.keys o.aggregates)

  composes : Composes F at first last uncut (IsOneOf f)
  composes = reductions_compose F at o.keys o.aggregates b.new b.above f h schema taken h_fields fields shown_fields

  -- the two nodes
  abbrev news : List Named
  news = under knames call.exprs

  abbrev g : Made
  g = over_selected at (group_by_node news b.new) (news ++ b.new) call.stream (record call.state { names = split.names })

  abbrev w : Made
  w = over_selected at (select_node shown false) shown g.stream g.state

  abbrev w_schema : Fields
  w_schema = selected_schema shown (schema_at g.state.nodes g.stream)

  lower_keeps : KeepsStep F at first s g.state (i ∷ []) g.stream
  lower_keeps =
      let k = node_keeps F at h s i (free_group o.keys b.new) (all_plain_alone b.new reductions) some h_fields ready low_call in
      record { more = k.more; nodes = k.nodes; made = k.made; there = k.there; fed = k.fed; meaning = k.meaning }

  upper_keeps : KeepsOver F at last g.state w.state g.stream w.stream
  upper_keeps =
      record {
        more = record { kind = select_node shown false; schema = w_schema; origin = at; inputs = g.stream ∷ [] } ∷ [];
        nodes = refl;
        made = made_here F at last (select_node shown false) w_schema (g.stream ∷ []) refl (λ ts. refl) g.state.nodes;
        there = last_there g.state.nodes (record { kind = select_node shown false; schema = w_schema; origin = at; inputs = g.stream ∷ [] });
        fed = inl (omega arith);
        meaning = λ tables chosen. plain_means F at last (select_node shown false) w_schema (g.stream ∷ []) refl (λ ts. refl) refl g.state.nodes tables chosen;
      }

  uncut_keep : KeepsStep F at uncut s w.state (i ∷ []) w.stream
  uncut_keep = both_keep F at first last uncut (IsOneOf f) composes s g.state w.state (i ∷ []) g.stream w.stream lower_keeps upper_keeps (λ tables rows. rows.0.0 ∙ same_there (slice_get s.nodes i.0))

  -- the group-by, the select above it and the slice
  abbrev made_of : Split → Made
  made_of split =
      let m = over_selected at (group_by_node news split.reductions) (news ++ split.reductions) call.stream (record call.state { names = split.names }) in
      let above = select_stream at m.stream (own_columns knames ++ split.above) m.state in
      cut_stream at o.cut above.stream above.state

  made_is : are_all_own shown ≡ false → group_stream at o i s ≡ cut_stream at o.cut w.stream w.state
  made_is own =
      let is : split ≡ record { names = split.names; reductions = b.new; above = b.above } = (let p = b.reductions in let q = b.shown in λ j. record { names = split.names; reductions = p j; above = q j }) in
      let cells = front_by_cells knames b.above (all_by_cells b.new o.aggregates b.above whole.made apart) in
      ap (λ (c : Bool). cond {A = Stream → State → Made} c (streamed_groups at o) (mapped_groups at o) i s) streams
      ∙ ap made_of is
      ∙ ap (λ (m : Made). cut_stream at o.cut m.stream m.state) (select_is F at schema g.stream g.state shown cells (front_reads o.keys b.above some_key) own)

  composed : are_all_own shown ≡ false → IsKeptStep F at (group_by o) schema (i ∷ []) s
  composed own =
      let k = cut_keeps F at uncut (group_by o) (gives_as o streams F at) (λ ts large. large) refl s w.state (i ∷ []) w.stream uncut_keep o.cut refl in
      subst (λ (m : Made). KeepsStep F at (group_by o) s m.state (i ∷ []) m.stream) (sym (made_is own)) k

  -- where all that is shown are columns, each aggregate is a reduction
  pub streamed_groups_keep : IsKeptStep F at (group_by o) schema (i ∷ []) s
  streamed_groups_keep = by (are_all_own shown) refl
    where
      by : (c : Bool) → are_all_own shown ≡ c → IsKeptStep F at (group_by o) schema (i ∷ []) s
      by true own = groups_keep F at schema s i o streams (own_are_plain b.new knames o.aggregates b.above apart own) some_key some fields distinct ready low_call
      by false own = composed own
