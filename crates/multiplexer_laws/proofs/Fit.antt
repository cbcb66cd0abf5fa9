-- Nodes that are sound but for their readers are so once multiplexers are there.
use Rattle.std.proofs.Common.{◌≡◌, ◌≢◌, ◌⊎◌, inl, inr, ℕ, ◌<◌, true, not, List, [], ◌∷◌, length, map, Option, Some, refl, sym, ap, subst, ◌∙◌}
use Rattle.std.proofs.lemmas.List.{length-map}
use Rattle.std.specs.Prelude.{◌&&◌, ◌||◌, unwrap_or, slice_get, IsTrue}
use Rattle.std.specs.List.{AllByRecursion}
use Rattle.std.specs.Str.{bytes_eq}
use Rattle.ps_frame.specs.Frames.{has_distinct_names, has_name}
use Rattle.ps_frame.specs.Functions.{Functions}
use Rattle.ps_frame.specs.Tables.{Fields}
use Rattle.ps_frame.specs.declared.expr.What.{What}
use Rattle.ps_frame.specs.declared.expr.What.TheVariants as what
use Rattle.ps_meaning.specs.Schemas.{first_schema, is_among, names_of, output_schema}
use Rattle.ps_meaning.specs.Shape.{PhysicalKind, PhysicalNode, Shape, equi_join, filter_node, group_by_node, in_memory_join, in_memory_map, in_memory_sink, in_memory_source, independent_select, multiplexer, negative_slice, ordered_union, reduce, select_node, simple_projection, stream_map, streaming_slice, with_row_index, zip_node}
use Rattle.ps_meaning.specs.Sound.{BreaksNoRule, HasFitParameters, HasInputs, HasSchema, IsFitNode, IsSound, IsSoundButForReaders, have_kinds_over, input_schemas, rules_of, schema_at}
use Rattle.ps_meaning.specs.StepRefusals.{Refusal, TypingRefused, column_not_found, duplicate, invalid_plan, no_key, schema_mismatch, unsupported}
use Rattle.ps_meaning.specs.Steps.{Name, Step, memory_sink}
use Rattle.ps_multiplexers.specs.Multiplexers.{multiplexer_of, with_multiplexers}
use Rattle.ps_phys.specs.Walks.{Stream, node_at, numbers_of, place_in, renumbered, renumbered_input}
use Rattle.ps_plan.proofs.TypedSteps.{output-distinct}
use Rattle.plan_laws.proofs.SoundShapes.{names_differ, none-repeats}
use Rattle.multiplexer_laws.specs.Shared.{IsOnlySink, ReadFirstPortsBefore, shared_shape}
use Rattle.multiplexer_laws.proofs.Members.{Stands, stands_here, stands_more}
use Rattle.multiplexer_laws.proofs.Muxed.{IsMux, IsOriginal, ReadsBefore, base, base_low, mux_reads, old_low, several_low, view}
use Rattle.multiplexer_laws.proofs.Readers.{NoneTwice, each_port}
use Rattle.multiplexer_laws.proofs.Shown.{Order, node_placed, node_there, order_closed, order_falls, order_within, reads_at, shown_at}

-- names of which none stands twice
among_is : (n : Name) (s : Fields) → is_among n (names_of s) ≡ has_name n s
among_is n [] = refl
among_is n (f ∷ s) = ap (λ b. bytes_eq n f.0 || b) (among_is n s)

differ_is : (s : Fields) → names_differ (names_of s) ≡ has_distinct_names s
differ_is [] = refl
differ_is (f ∷ s) = λ i. not (among_is f.0 s i) && differ_is s i

module _ (F : Functions) where
  -- no name stands twice in the schema of a node
  outs : (step : Step) (ss : List Fields) (s : Fields) → ((R : Refusal) → ¬ TypingRefused F step ss R) → output_schema F step ss ≡ Some s → has_distinct_names s ≡ true
  outs step ss s rules e = subst (λ (o : Option Fields). has_distinct_names (unwrap_or o []) ≡ true) e (output-distinct F step ss rules)

  kind_distinct : (kind : PhysicalKind) (ss : List Fields) (s : Fields) → ((R : Refusal) → ¬ TypingRefused F (rules_of kind) ss R) → HasSchema F kind ss s → has_distinct_names s ≡ true
  kind_distinct (equi_join o) ss s rules h = h.1
  kind_distinct (in_memory_join o) ss s rules h = h.1
  kind_distinct (in_memory_source t) ss s rules h = outs (rules_of (in_memory_source t)) ss s rules h
  kind_distinct (select_node es b) ss s rules h = outs (rules_of (select_node es b)) ss s rules h
  kind_distinct (with_row_index name offset) ss s rules h = outs (rules_of (with_row_index name offset)) ss s rules h
  kind_distinct (independent_select es) ss s rules h = outs (rules_of (independent_select es)) ss s rules h
  kind_distinct (reduce es) ss s rules h = outs (rules_of (reduce es)) ss s rules h
  kind_distinct (streaming_slice offset n) ss s rules h = outs (rules_of (streaming_slice offset n)) ss s rules h
  kind_distinct (negative_slice back n) ss s rules h = outs (rules_of (negative_slice back n)) ss s rules h
  kind_distinct (filter_node e) ss s rules h = outs (rules_of (filter_node e)) ss s rules h
  kind_distinct (simple_projection ns) ss s rules h = outs (rules_of (simple_projection ns)) ss s rules h
  kind_distinct in_memory_sink ss s rules h = outs (rules_of in_memory_sink) ss s rules h
  kind_distinct (in_memory_map step) ss s rules h = outs (rules_of (in_memory_map step)) ss s rules h
  kind_distinct (stream_map step) ss s rules h = outs (rules_of (stream_map step)) ss s rules h
  kind_distinct ordered_union ss s rules h = outs (rules_of ordered_union) ss s rules h
  kind_distinct (zip_node b) ss s rules h = outs (rules_of (zip_node b)) ss s rules h
  kind_distinct multiplexer ss s rules h = outs (rules_of multiplexer) ss s rules h
  kind_distinct (group_by_node keys aggregates) ss s rules h = outs (rules_of (group_by_node keys aggregates)) ss s rules h

  -- what hands its input on is refused for nothing, where the input has columns, each name once
  handed_on : (s : Fields) → s ≢ [] → has_distinct_names s ≡ true → (R : Refusal) → TypingRefused F memory_sink (s ∷ []) R → ⊥
  handed_on s some once (column_not_found n) h = cc
  handed_on s some once (duplicate n) (inl h) = h
  handed_on s some once (duplicate n) (inr h) = none-repeats (names_of s) (differ_is s ∙ once) n h
  handed_on s some once schema_mismatch (inl h) = h
  handed_on s some once schema_mismatch (inr h) = cc
  handed_on s some once (unsupported w) h = by w h
    where
      same : Some s ≡ Some [] → s ≡ []
      same e = cc

      by : (w : What) → TypingRefused F memory_sink (s ∷ []) (unsupported w) → ⊥
      by what.NoColumns h = some (same h)
      by what.LiteralAggregate h = h
      by _ h = h
  handed_on s some once (invalid_plan w) h = h
  handed_on s some once no_key h = h

  module _ (nodes : Shape) (root : ℕ) (low : root < length nodes) (reads : (n : ℕ) → ReadsBefore n (node_at nodes n)) (sound : IsSoundButForReaders F nodes) where
    abbrev after : Shape
    after = with_multiplexers root nodes

    abbrev order : List ℕ
    order = Order nodes root low reads

    abbrev shape : Shape
    shape = shared_shape nodes root

    abbrev stood : ℕ → ℕ
    stood n = base nodes root low reads n

    abbrev place : ℕ → ℕ
    place n = place_in order n

    schema_was : ℕ → Fields
    schema_was m = (node_at nodes m).schema

    was_is : (m : ℕ) → schema_was m ≡ (node_at nodes m).schema
    unfolding schema_was
    was_is m = refl

    -- schemas of inputs
    after_schema : (n : ℕ) → n < length after → (node_at after n).schema ≡ schema_was (stood n)
    unfolding schema_was
    after_schema n h = by (view nodes root low reads n h)
      where
        by : IsOriginal nodes root low reads n ⊎ IsMux nodes root low reads n → (node_at after n).schema ≡ (node_at nodes (base nodes root low reads n)).schema
        by (inl o) = o.schema ∙ ap (λ m. (node_at nodes m).schema) (sym (base_low nodes root low reads n o.within))
        by (inr x) = ap (λ (p : PhysicalNode). p.schema) x.node

    placed_schema : (n : ℕ) → Stands n order → schema_at (slice_get shape (place n)) ≡ schema_was (stood n)
    placed_schema n h = ap schema_at (node_placed nodes root low reads n h) ∙ after_schema n (order_within nodes root low reads n h)

    shown_schemas : (is : List Stream) → ((m : ℕ) → Stands m (numbers_of is) → Stands m order) → map (λ (i : Stream). schema_at (slice_get shape i.0)) (map (renumbered_input order) is) ≡ map schema_was (map stood (numbers_of is))
    shown_schemas [] h = refl
    shown_schemas (i ∷ is) h = λ j. placed_schema i.0 (h i.0 (stands_here i.0 i.0 (numbers_of is) refl)) j ∷ shown_schemas is (λ m e. h m (stands_more m i.0 (numbers_of is) e)) j

    old_schemas : (is : List Stream) → ((m : ℕ) → Stands m (numbers_of is) → m < length nodes) → map (λ (i : Stream). schema_at (slice_get nodes i.0)) is ≡ map schema_was (numbers_of is)
    unfolding schema_was
    old_schemas [] h = refl
    old_schemas (i ∷ is) h = λ j. schema_at (node_there nodes i.0 (h i.0 (stands_here i.0 i.0 (numbers_of is) refl)) j) ∷ old_schemas is (λ m e. h m (stands_more m i.0 (numbers_of is) e)) j

    earlier : (n : ℕ) (is : List Stream) → ((m : ℕ) → Stands m (numbers_of is) → place m < place n) → AllByRecursion (λ (i : Stream). i.0 < place n) (map (renumbered_input order) is)
    earlier n [] h = tt
    earlier n (i ∷ is) h = (h i.0 (stands_here i.0 i.0 (numbers_of is) refl), earlier n is (λ m e. h m (stands_more m i.0 (numbers_of is) e)))

    module _ (n : ℕ) (there : Stands n order) where
      abbrev x : PhysicalNode
      x = node_at after n

      abbrev p : PhysicalNode
      p = renumbered order x

      before : AllByRecursion (λ (i : Stream). i.0 < place n) p.inputs
      before = earlier n x.inputs (λ m h. order_falls nodes root low reads n m there h)

      original_fits : IsOriginal nodes root low reads n → IsFitNode F shape (place n) p
      original_fits o =
          let q = node_at nodes n in
          let f = sound n q (node_there nodes n o.within) in
          let schemas : input_schemas shape p ≡ input_schemas nodes q = shown_schemas x.inputs (λ m h. order_closed nodes root low reads n m there h) ∙ ap (λ ns. map schema_was ns) o.bases ∙ sym (old_schemas q.inputs (old_low nodes root low reads n)) in
          let count : length p.inputs ≡ length q.inputs =
          length-map x.inputs (renumbered_input order) ∙ sym (length-map x.inputs (λ (i : Stream). i.0)) ∙ sym (length-map (numbers_of x.inputs) stood) ∙ ap length o.bases ∙ length-map q.inputs (λ (i : Stream). i.0) in
          record {
            earlier = before;
            inputs = subst (λ k. HasInputs k (length p.inputs)) (sym o.kind) (subst (λ c. HasInputs q.kind c) (sym count) f.inputs);
            schema = subst (λ k. HasSchema F k (input_schemas shape p) x.schema) (sym o.kind) (subst (λ ss. HasSchema F q.kind ss x.schema) (sym schemas) (subst (λ s. HasSchema F q.kind (input_schemas nodes q) s) (sym o.schema) f.schema));
            not_empty = λ e. f.not_empty (sym o.schema ∙ e);
            parameters = subst (λ k. HasFitParameters F k) (sym o.kind) f.parameters;
            kinds = subst (λ k. IsTrue (have_kinds_over (input_schemas shape p) (rules_of k))) (sym o.kind) (subst (λ ss. IsTrue (have_kinds_over ss (rules_of q.kind))) (sym schemas) f.kinds);
            rules = subst (λ k. BreaksNoRule F (rules_of k) (input_schemas shape p)) (sym o.kind) (subst (λ ss. BreaksNoRule F (rules_of q.kind) ss) (sym schemas) f.rules);
          }

      mux_fits : IsMux nodes root low reads n → IsFitNode F shape (place n) p
      mux_fits m =
          let b = stood n in
          let q = node_at nodes b in
          let l = several_low nodes root low reads b m.is_read in
          let f = sound b q (node_there nodes b l) in
          let read : Stands b order = order_closed nodes root low reads n b there (subst (λ ns. Stands b ns) (sym (mux_reads nodes root low reads n m)) (stands_here b b [] refl)) in
          let s : Fields = q.schema in
          let given : schema_at (slice_get shape (place b)) ≡ q.schema = placed_schema b read ∙ was_is (stood b) ∙ ap (λ k. (node_at nodes k).schema) (base_low nodes root low reads b l) in
          let schemas : input_schemas shape (renumbered order (multiplexer_of nodes b)) ≡ q.schema ∷ [] = ap (λ t. t ∷ []) given in
          let here : AllByRecursion (λ (i : Stream). i.0 < place n) (renumbered order (multiplexer_of nodes b)).inputs = subst (λ (y : PhysicalNode). AllByRecursion (λ (i : Stream). i.0 < place n) (renumbered order y).inputs) m.node before in
          subst (λ (y : PhysicalNode). IsFitNode F shape (place n) (renumbered order y)) (sym m.node) (record {
            earlier = here;
            inputs = refl;
            schema = ap (λ (ss : List Fields). Some (first_schema ss)) schemas;
            not_empty = f.not_empty;
            parameters = tt;
            kinds = refl;
            rules = (λ h. h, λ h. h, λ h. h, subst (λ ss. (R : Refusal) → ¬ TypingRefused F memory_sink ss R) (sym schemas) (handed_on q.schema f.not_empty (kind_distinct q.kind (input_schemas nodes q) q.schema f.rules.3 f.schema)));
          })

      fits_at : IsFitNode F shape (place n) p
      fits_at = by (view nodes root low reads n (order_within nodes root low reads n there))
        where
          by : IsOriginal nodes root low reads n ⊎ IsMux nodes root low reads n → IsFitNode F shape (place n) p
          by (inl o) = original_fits o
          by (inr m) = mux_fits m

    pub all_fit : IsSoundButForReaders F shape
    all_fit i p e =
        let s = shown_at nodes root low reads i p e in
        subst (λ j. IsFitNode F shape j p) (sym s.at) (subst (λ q. IsFitNode F shape (place s.number) q) (sym s.node) (fits_at s.number s.stands))

pub shared_soundly : NoneTwice → (F : Functions) (nodes : Shape) (root : ℕ) → root < length nodes → ReadFirstPortsBefore nodes → IsOnlySink root nodes → IsSoundButForReaders F nodes → IsSound F (shared_shape nodes root)
shared_soundly once F nodes root low each sink sound = (all_fit F nodes root low (reads_at nodes each) sound, each_port once nodes root low each sink)
