-- The call of a covered step keeps it, and its stream's node has the step's schema.
use Rattle.std.proofs.Common.{◌≡◌, ◌≢◌, ℕ, ◌⊎◌, Bool, true, false, cond, ◌&&◌, ℤ, List, [], ◌∷◌, ◌++◌, Option, Some, None, refl, sym, ap, subst, ◌∙◌, inl, inr}
use Rattle.std.specs.Prelude.{get_or, map, unwrap_or, if◌then◌else◌}
use Rattle.std.specs.List.{list_all}
use Rattle.ps_frame.specs.Frames.{has_distinct_names}
use Rattle.ps_frame.specs.Functions.{Functions}
use Rattle.ps_frame.specs.Tables.{Fields, Frame}
use Rattle.ps_frame.specs.Trees.{Tree}
use Rattle.ps_frame.specs.Typing.{is_elementwise}
use Rattle.ps_meaning.specs.Joins.{goes_by_left}
use Rattle.ps_meaning.specs.PlanTrees.{PlanTrees, no_trees, tree}
use Rattle.ps_meaning.specs.Schemas.{fields_of, first_schema, join_schema, named_fields, schema_or_empty, second_schema, tree_schemas}
use Rattle.ps_meaning.specs.Shape.{PhysicalNode, equi_join, filter_node, group_by_node, in_memory_join, in_memory_source, in_memory_map, in_memory_sink, ordered_union, select_node, simple_projection, stream_map, with_row_index, zip_node}
use Rattle.ps_meaning.specs.Steps.{Cut, DistinctStep, GroupStep, JoinStep, Name, Named, SortStep, Step, cache, distinct, exprs_of, filter, group_by, hconcat, hstack, join, left_out, project, row_index, scan, select, sink, slice, sort, union, user}
use Rattle.ps_meaning.specs.declared.options.SinkType.{SinkType}
use Rattle.ps_rules.specs.Slots.{Made, State, Stream, insert_node, over, schema_at, schema_or_none, selected_schema}
use Rattle.plan_rules.specs.Distinct.{grouped_distinct, keeps_last, mapped_distinct}
use Rattle.plan_rules.specs.Groups.{can_stream, mapped_groups, streamed_groups}
use Rattle.plan_rules.specs.Joins.{equi_join_stream, keyed_join, over_both}
use Rattle.plan_rules.specs.Nodes.{extended_apart, step_stream}
use Rattle.plan_rules.specs.Plans.{LoweredPlans}
use Rattle.plan_rules.specs.Slices.{cut_stream, slice_kind}
use Rattle.step_keeps.specs.Kept.{IsKeptStep}
use Rattle.step_keeps.proofs.CellSteps.{filter_made, filters_by_cell_keep, join_made, keyed_joins_keep}
use Rattle.step_keeps.proofs.Cuts.{slices_keep, unions_keep}
use Rattle.step_keeps.proofs.Mapped.{columns_by_cell_keep, mapped_distincts_keep, mapped_groups_keep}
use Rattle.step_keeps.proofs.One.{last_node}
use Rattle.step_keeps.proofs.Scans.{scan_schema, scans_keep, whole_scan_made, whole_scans_keep}
use Rattle.step_keeps.proofs.Selected.{select_is, selects_by_cell_keep}
use Rattle.step_keeps.proofs.Steps.{functions_keep, hconcats_keep, projections_keep, row_numbers_keep, sinks_keep, sorts_keep}
use Rattle.step_keeps.proofs.Streamed.{groups_made, plain_groups_keep}
use Rattle.step_keeps.proofs.WholeJoins.{whole_joins_keep}
use Rattle.arena_keeps.specs.Covered.{HasNoInput, HasOneInput, HasTwoInputs, IsCellJoin, IsCellSelect, IsCoveredStep, IsFitScan, IsPlainGroup}

-- the schema of the stream that was made
abbrev pub SchemaOf : Made → Fields
SchemaOf m = schema_at m.state.nodes m.stream

last_schema : (s : State) (p : PhysicalNode) → SchemaOf (insert_node s p) ≡ p.schema
last_schema s p = ap schema_or_none (last_node s.nodes p)

cut_schema : (at : ℕ) (cut : Cut) (m : Made) → SchemaOf (cut_stream at cut m.stream m.state) ≡ SchemaOf m
cut_schema at None m = refl
cut_schema at (Some c) m = last_schema m.state (record { kind = slice_kind c.0 c.1; schema = schema_at m.state.nodes m.stream; origin = at; inputs = m.stream ∷ [] })

module _ (F : Functions) (at : ℕ) (step : Step) (schema : Fields) where
  -- kept, and of the step's schema
  abbrev pub IsSeen : List Stream → State → Type 0
  IsSeen inputs s = IsKeptStep F at step schema inputs s × (SchemaOf (step_stream at F step schema inputs s) ≡ schema)

-- the schemas of streams are those of the trees
abbrev pub SchemasAre : Functions → LoweredPlans → PlanTrees → Type 0
SchemasAre F r ts = map (λ (i : Stream). schema_at r.progress.state.nodes i) r.streams ≡ tree_schemas F ts

-- lists of none, one and two items, by what they are mapped to
module _ {A B : Type 0} (f : A → B) (P : List A → Type 0) where
  of_none : (xs : List A) → map f xs ≡ [] → P [] → P xs
  of_none [] e p = p
  of_none (x ∷ xs) e p = cc

  of_one : (b : B) (xs : List A) → map f xs ≡ b ∷ [] → ((x : A) → f x ≡ b → P (x ∷ [])) → P xs
  of_one b [] e p = cc
  of_one b (x ∷ []) e p = p x (ap (λ (ys : List B). get_or ys 0 b) e)
  of_one b (x ∷ y ∷ xs) e p = cc

  of_two : (b c : B) (xs : List A) → map f xs ≡ b ∷ c ∷ [] → ((x y : A) → f x ≡ b → f y ≡ c → P (x ∷ y ∷ [])) → P xs
  of_two b c [] e p = cc
  of_two b c (x ∷ []) e p = cc
  of_two b c (x ∷ y ∷ []) e p = p x y (ap (λ (ys : List B). get_or ys 0 b) e) (ap (λ (ys : List B). get_or ys 1 c) e)
  of_two b c (x ∷ y ∷ z ∷ xs) e p = cc

no_schemas : (F : Functions) (ts : PlanTrees) → HasNoInput ts → tree_schemas F ts ≡ []
no_schemas F no_trees has = refl
no_schemas F (tree t ts) has = absurd has

one_schema : (F : Functions) (ts : PlanTrees) → HasOneInput ts → tree_schemas F ts ≡ first_schema (tree_schemas F ts) ∷ []
one_schema F no_trees has = absurd has
one_schema F (tree t no_trees) has = refl
one_schema F (tree t (tree u ts)) has = absurd has

two_schemas : (F : Functions) (ts : PlanTrees) → HasTwoInputs ts → tree_schemas F ts ≡ first_schema (tree_schemas F ts) ∷ second_schema (tree_schemas F ts) ∷ []
two_schemas F no_trees has = absurd has
two_schemas F (tree t no_trees) has = absurd has
two_schemas F (tree t (tree u no_trees)) has = refl
two_schemas F (tree t (tree u (tree v ts))) has = absurd has

module _ (F : Functions) (at : ℕ) (step : Step) (schema : Fields) (below : PlanTrees) (r : LoweredPlans) (same : SchemasAre F r below) where
  abbrev Over : List Stream → Type 0
  Over is = IsSeen F at step schema is r.progress.state

  abbrev schema_of : Stream → Fields
  schema_of i = schema_at r.progress.state.nodes i

  over_none : HasNoInput below → ((s : State) → IsSeen F at step schema [] s) → Over r.streams
  over_none has seen = of_none schema_of Over r.streams (same ∙ no_schemas F below has) (seen r.progress.state)

  over_one : HasOneInput below → ((i : Stream) (s : State) → schema_at s.nodes i ≡ first_schema (tree_schemas F below) → IsSeen F at step schema (i ∷ []) s) → Over r.streams
  over_one has seen = of_one schema_of Over (first_schema (tree_schemas F below)) r.streams (same ∙ one_schema F below has) (λ i h. seen i r.progress.state h)

  over_two : HasTwoInputs below → ((i j : Stream) (s : State) → schema_at s.nodes i ≡ first_schema (tree_schemas F below) → schema_at s.nodes j ≡ second_schema (tree_schemas F below) → IsSeen F at step schema (i ∷ j ∷ []) s) → Over r.streams
  over_two has seen = of_two schema_of Over (first_schema (tree_schemas F below)) (second_schema (tree_schemas F below)) r.streams (same ∙ two_schemas F below has) (λ i j h k. seen i j r.progress.state h k)

-- each kind, over inputs of known schemas
module _ (F : Functions) (at : ℕ) (schema : Fields) where
  filter_seen : (i : Stream) (s : State) (fs : Fields) → schema_at s.nodes i ≡ fs → schema ≡ fs → (e : Tree) → is_elementwise e ≡ true → fs ≢ [] → IsSeen F at (filter e) schema (i ∷ []) s
  filter_seen i s fs h is e cells some =
      let there : schema_at s.nodes i ≢ [] = λ none. some (sym h ∙ none) in
      let p : PhysicalNode = record { kind = filter_node e; schema = schema_at s.nodes i; origin = at; inputs = i ∷ [] } in
      (filters_by_cell_keep F at i s schema e cells there, ap SchemaOf (filter_made F at i s e cells there) ∙ last_schema s p ∙ h ∙ sym is)

  select_seen : (i : Stream) (s : State) (fs : Fields) → schema_at s.nodes i ≡ fs → (es : List Named) → schema ≡ selected_schema es fs → IsCellSelect es → IsSeen F at (select es) schema (i ∷ []) s
  select_seen i s fs h es is c =
      let p : PhysicalNode = record { kind = select_node es false; schema = selected_schema es (schema_at s.nodes i); origin = at; inputs = i ∷ [] } in
      (selects_by_cell_keep F at schema i s es c.cells c.reads c.others, ap SchemaOf (select_is F at schema i s es c.cells c.reads c.others) ∙ last_schema s p ∙ ap (selected_schema es) h ∙ sym is)

  mapped_group_seen : (i : Stream) (s : State) (fs : Fields) → schema_at s.nodes i ≡ fs → (o : GroupStep) → schema ≡ selected_schema (o.keys ++ o.aggregates) fs → can_stream o ≡ false → IsSeen F at (group_by o) schema (i ∷ []) s
  mapped_group_seen i s fs h o is whole =
      let p : PhysicalNode = record { kind = in_memory_map (group_by o); schema = selected_schema (o.keys ++ o.aggregates) (schema_at s.nodes i); origin = at; inputs = i ∷ [] } in
      (mapped_groups_keep F at schema i s o whole, ap (λ (b : Bool). SchemaOf (cond {A = Stream → State → Made} b (streamed_groups at o) (mapped_groups at o) i s)) whole ∙ last_schema s p ∙ ap (selected_schema (o.keys ++ o.aggregates)) h ∙ sym is)

  plain_group_seen : (i : Stream) (s : State) (fs : Fields) → schema_at s.nodes i ≡ fs → (o : GroupStep) → schema ≡ selected_schema (o.keys ++ o.aggregates) fs → IsPlainGroup fs o → IsSeen F at (group_by o) schema (i ∷ []) s
  plain_group_seen i s fs h o is g =
      let some : schema_at s.nodes i ≢ [] = λ none. g.some_column (sym h ∙ none) in
      let typed : fields_of (o.keys ++ o.aggregates) (schema_at s.nodes i) ≡ Some schema = ap (fields_of (o.keys ++ o.aggregates)) h ∙ g.typed ∙ ap Some (sym (is ∙ ap (λ (r : Option Fields). unwrap_or r []) g.typed)) in
      let p : PhysicalNode = record { kind = group_by_node o.keys o.aggregates; schema = selected_schema (o.keys ++ o.aggregates) (schema_at s.nodes i); origin = at; inputs = i ∷ [] } in (
        plain_groups_keep F at schema i s o g.streams g.keys g.aggregates g.some_key some typed,
        ap SchemaOf (groups_made F at schema i s o g.streams g.keys g.aggregates g.some_key some typed) ∙ cut_schema at o.cut (insert_node s p) ∙ last_schema s p ∙ ap (selected_schema (o.keys ++ o.aggregates)) h ∙ sym is,
      )

  distinct_seen : (i : Stream) (s : State) (fs : Fields) → schema_at s.nodes i ≡ fs → schema ≡ fs → (o : DistinctStep) → (o.maintain_order && keeps_last o.keep) ≡ true → IsSeen F at (distinct o) schema (i ∷ []) s
  distinct_seen i s fs h is o whole =
      let p : PhysicalNode = record { kind = in_memory_map (distinct o); schema = schema_at s.nodes i; origin = at; inputs = i ∷ [] } in
      (mapped_distincts_keep F at schema i s o whole, ap (λ (b : Bool). SchemaOf (cond {A = Stream → State → Made} b (mapped_distinct at o) (grouped_distinct at o) i s)) whole ∙ last_schema s p ∙ h ∙ sym is)

  columns_seen : (i : Stream) (s : State) (es : List Named) → list_all is_elementwise (exprs_of es) ≡ true → IsSeen F at (hstack es) schema (i ∷ []) s
  columns_seen i s es cells =
      let p : PhysicalNode = record { kind = select_node es true; schema = schema; origin = at; inputs = i ∷ [] } in
      (columns_by_cell_keep F at schema i s es cells, ap (λ (b : Bool). SchemaOf (cond {A = Stream → State → Made} b (over at (select_node es true) schema) (extended_apart at es schema) i s)) cells ∙ last_schema s p)

  join_seen : (l r : Stream) (s : State) (a b : Fields) → schema_at s.nodes l ≡ a → schema_at s.nodes r ≡ b → (o : JoinStep) → schema ≡ join_schema o a b → has_distinct_names (join_schema o a b) ≡ true → (goes_by_left o.args.how ≡ false) ⊎ IsCellJoin a b o
      → IsSeen F at (join o) schema (l ∷ r ∷ []) s
  join_seen l r s a b ha hb o is differ (inl whole) =
      let p : PhysicalNode = record { kind = in_memory_join o; schema = schema; origin = at; inputs = l ∷ r ∷ [] } in (
        whole_joins_keep F at o schema l r s (is ∙ (λ i. join_schema o (sym ha i) (sym hb i))) (ap has_distinct_names is ∙ differ) whole,
        ap (λ (t : Bool). SchemaOf (cond {A = Stream → Stream → State → Made} t (equi_join_stream at o schema) (over_both at (in_memory_join o) schema) l r s)) whole ∙ last_schema s p,
      )
  join_seen l r s a b ha hb o is differ (inr j) =
      let sl : schema_at s.nodes l ≢ [] = λ none. j.left_column (sym ha ∙ none) in
      let sr : schema_at s.nodes r ≢ [] = λ none. j.right_column (sym hb ∙ none) in
      let p : PhysicalNode = record { kind = equi_join (keyed_join o o.left_on o.right_on); schema = schema; origin = at; inputs = l ∷ r ∷ [] } in (
        keyed_joins_keep F at o schema l r s j.keyed j.left_keys j.right_keys sl sr (is ∙ (λ i. join_schema o (sym ha i) (sym hb i))) (ap has_distinct_names is ∙ differ),
        ap SchemaOf (join_made F at o schema l r s j.keyed j.left_keys j.right_keys sl sr) ∙ cut_schema at o.args.slice (insert_node s p) ∙ last_schema s p,
      )

-- the call of a covered step
module _ (F : Functions) (at : ℕ) (below : PlanTrees) (r : LoweredPlans) (same : SchemasAre F r below) where
  abbrev fs : Fields
  fs = first_schema (tree_schemas F below)

  abbrev SeenCall : Step → Type 0
  SeenCall step = (schema : Fields) → schema ≡ schema_or_empty F step (tree_schemas F below) → IsSeen F at step schema r.streams r.progress.state

  group_call : (o : GroupStep) → HasOneInput below → (can_stream o ≡ false) ⊎ IsPlainGroup fs o → SeenCall (group_by o)
  group_call o has (inl whole) schema is = over_one F at (group_by o) schema below r same has (λ i s h. mapped_group_seen F at schema i s fs h o is whole)
  group_call o has (inr plain) schema is = over_one F at (group_by o) schema below r same has (λ i s h. plain_group_seen F at schema i s fs h o is plain)

  whole_scan_call : (t : Frame) → HasNoInput below → SeenCall (scan t None)
  whole_scan_call t has schema is =
      subst (λ (out : Fields). IsSeen F at (scan t None) out r.streams r.progress.state) (sym is)
      (over_none F at (scan t None) t.schema below r same has (λ s. (whole_scans_keep F at t s, ap SchemaOf (whole_scan_made F at t s) ∙ last_schema s (record { kind = in_memory_source t; schema = t.schema; origin = at; inputs = [] }))))

  scan_call : (t : Frame) (names : List Name) → HasNoInput below → IsFitScan t names → SeenCall (scan t (Some names))
  scan_call t names has f schema is =
      subst (λ (out : Fields). IsSeen F at (scan t (Some names)) out r.streams r.progress.state) (sym (is ∙ ap (λ (o : Option Fields). unwrap_or o []) f.named))
      (over_none F at (scan t (Some names)) f.fields below r same has (λ s. (scans_keep F at t s names f.fields f.named f.distinct_names f.rows, scan_schema F at t s names f.fields f.named f.distinct_names f.rows)))

  project_call : (names : List Name) → HasOneInput below → SeenCall (project names)
  project_call names has schema is =
      over_one F at (project names) schema below r same has
      (λ i s h. (projections_keep F at schema s names i, last_schema s (record { kind = simple_projection names; schema = unwrap_or (named_fields names (schema_at s.nodes i)) []; origin = at; inputs = i ∷ [] }) ∙ ap (λ (g : Fields). unwrap_or (named_fields names g) []) h ∙ sym is))

  select_call : (es : List Named) → HasOneInput below → IsCellSelect es → SeenCall (select es)
  select_call es has c schema is = over_one F at (select es) schema below r same has (λ i s h. select_seen F at schema i s fs h es is c)

  columns_call : (es : List Named) → HasOneInput below → list_all is_elementwise (exprs_of es) ≡ true → SeenCall (hstack es)
  columns_call es has c schema is = over_one F at (hstack es) schema below r same has (λ i s h. columns_seen F at schema i s es c)

  filter_call : (e : Tree) → HasOneInput below → is_elementwise e ≡ true → fs ≢ [] → SeenCall (filter e)
  filter_call e has cells some schema is = over_one F at (filter e) schema below r same has (λ i s h. filter_seen F at schema i s fs h is e cells some)

  slice_call : (offset : ℤ) (n : ℕ) → HasOneInput below → SeenCall (slice offset n)
  slice_call offset n has schema is =
      over_one F at (slice offset n) schema below r same has
      (λ i s h. (slices_keep F at s i schema offset n, last_schema s (record { kind = slice_kind offset n; schema = schema_at s.nodes i; origin = at; inputs = i ∷ [] }) ∙ h ∙ sym is))

  sink_call : (target : SinkType) → HasOneInput below → SeenCall (sink target)
  sink_call target has schema is =
      over_one F at (sink target) schema below r same has
      (λ i s h. (sinks_keep F at schema s target i, last_schema s (record { kind = in_memory_sink; schema = schema_at s.nodes i; origin = at; inputs = i ∷ [] }) ∙ h ∙ sym is))

  index_call : (name : Name) (offset : Option ℕ) → HasOneInput below → SeenCall (row_index name offset)
  index_call name offset has schema is =
      over_one F at (row_index name offset) schema below r same has
      (λ i s h. (row_numbers_keep F at schema s name offset i, last_schema s (record { kind = with_row_index name offset; schema = schema; origin = at; inputs = i ∷ [] })))

  user_call : (n : ℕ) → HasOneInput below → SeenCall (user n)
  user_call n has schema is =
      over_one F at (user n) schema below r same has
      (λ i s h. (functions_keep F at schema s n i, last_schema s (record { kind = (if F.streams n then stream_map (user n) else in_memory_map (user n)); schema = schema; origin = at; inputs = i ∷ [] })))

  sort_call : (o : SortStep) → HasOneInput below → SeenCall (sort o)
  sort_call o has schema is =
      over_one F at (sort o) schema below r same has
      (λ i s h. (sorts_keep F at schema s o i, last_schema s (record { kind = in_memory_map (sort o); schema = schema_at s.nodes i; origin = at; inputs = i ∷ [] }) ∙ h ∙ sym is))

  union_call : (cut : Cut) → SeenCall (union cut)
  union_call cut schema is =
      let p : PhysicalNode = record { kind = ordered_union; schema = schema; origin = at; inputs = r.streams } in
      (unions_keep F at schema r.progress.state cut r.streams, cut_schema at cut (insert_node r.progress.state p) ∙ last_schema r.progress.state p)

  hconcat_call : SeenCall hconcat
  hconcat_call schema is = (hconcats_keep F at schema r.progress.state r.streams, last_schema r.progress.state (record { kind = zip_node true; schema = schema; origin = at; inputs = r.streams }))

  join_call : (o : JoinStep) → HasTwoInputs below → has_distinct_names (join_schema o fs (second_schema (tree_schemas F below))) ≡ true → (goes_by_left o.args.how ≡ false) ⊎ IsCellJoin fs (second_schema (tree_schemas F below)) o → SeenCall (join o)
  join_call o has differ kind schema is = over_two F at (join o) schema below r same has (λ i j s ha hb. join_seen F at schema i j s fs (second_schema (tree_schemas F below)) ha hb o is differ kind)

  distinct_call : (o : DistinctStep) → HasOneInput below → (o.maintain_order && keeps_last o.keep) ≡ true → SeenCall (distinct o)
  distinct_call o has whole schema is = over_one F at (distinct o) schema below r same has (λ i s h. distinct_seen F at schema i s fs h is o whole)

  pub call_seen : (step : Step) → IsCoveredStep F step below → ((id : ℕ) → cache id ≡ step → ⊥) → SeenCall step
  call_seen (scan t None) c other = whole_scan_call t c
  call_seen (scan t (Some names)) c other = scan_call t names c.0 c.1
  call_seen (project names) c other = project_call names c
  call_seen (select es) c other = select_call es c.0 c.1
  call_seen (hstack es) c other = columns_call es c.0 c.1
  call_seen (filter e) c other = filter_call e c.0 c.1 c.2
  call_seen (slice offset n) c other = slice_call offset n c
  call_seen (sink target) c other = sink_call target c
  call_seen (row_index name offset) c other = index_call name offset c
  call_seen (user n) c other = user_call n c
  call_seen (sort o) c other = sort_call o c
  call_seen (union cut) c other = union_call cut
  call_seen hconcat c other = hconcat_call
  call_seen (cache id) c other = absurd (other id refl)
  call_seen (group_by o) c other = group_call o c.0 c.1
  call_seen (join o) c other = join_call o c.0 c.1 c.2
  call_seen (distinct o) c other = distinct_call o c.0 c.1
  call_seen (left_out what) c other = absurd c
