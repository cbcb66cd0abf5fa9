-- Nodes behind those of a shape that is sound but for its readers.
use Rattle.std.proofs.Common.{◌≡◌, ◌≢◌, ◌⊎◌, inl, inr, ℕ, ◌<◌, ◌≤◌, true, List, [], ◌∷◌, ◌++◌, length, Option, Some, refl, sym, ap, subst, ◌∙◌, arith, length-append, append_assoc}
use Rattle.std.specs.Prelude.{map, slice_get, unwrap_or}
use Rattle.std.specs.List.{AllByRecursion}
use Rattle.std.proofs.lemmas.Bool.{cases_lt}
use Rattle.std.proofs.lemmas.List.{append-nil}
use Rattle.std.proofs.lemmas.Option.{same_Some, slice_get_within}
use Rattle.ps_frame.specs.Frames.{has_distinct_names}
use Rattle.ps_frame.specs.Functions.{Functions}
use Rattle.ps_frame.specs.Tables.{Fields}
use Rattle.ps_meaning.specs.Schemas.{output_schema}
use Rattle.ps_meaning.specs.Shape.{PhysicalKind, PhysicalNode, Shape, equi_join, filter_node, group_by_node, in_memory_join, in_memory_map, in_memory_sink, in_memory_source, independent_select, multiplexer, negative_slice, ordered_union, reduce, select_node, simple_projection, stream_map, streaming_slice, with_row_index, zip_node}
use Rattle.ps_meaning.specs.Sound.{HasFitParameters, HasInputs, HasSchema, IsFitNode, IsSoundButForReaders, input_schemas, rules_of}
use Rattle.ps_meaning.specs.StepRefusals.{Refusal, TypingRefused}
use Rattle.ps_meaning.specs.Steps.{Named, Step}
use Rattle.ps_plan.proofs.TypedSteps.{output-distinct}
use Rattle.ps_rules.specs.Slots.{Made, State, Stream, over, over_same, over_selected, schema_at, schema_or_none, selected_schema}
use Rattle.ps_shares.specs.Kept.{IsOrdered}
use Rattle.ps_shares.proofs.Ends.{kept_there, last_there}
use Rattle.ps_shares.proofs.Fresh.{Grown, grown_same, grown_then}
use Rattle.ps_shares.proofs.Members.{Has, to_has}
use Rattle.name_rules.proofs.Listing.{schemas_before}
use Rattle.name_rules.specs.Lawful.{KeepsRules}
use Rattle.name_rules.proofs.Later.{fit_later, was_there}
use Rattle.rule_parts.specs.Good.{IsStream}

pub schema_is : (nodes : Shape) (i : Stream) (f : Fields) → IsStream nodes i f → schema_at nodes i ≡ f
schema_is nodes i f h = ap schema_or_none h.there ∙ h.schema

pub stream_below : (nodes : Shape) (i : Stream) (f : Fields) → IsStream nodes i f → i.0 < length nodes
stream_below nodes i f h = slice_get_within nodes i.0 h.node h.there

pub stream_later : (a b more : Shape) (i : Stream) (f : Fields) → b ≡ a ++ more → IsStream a i f → IsStream b i f
stream_later a b more i f is h = record { node = h.node; there = ap (λ (nodes : Shape). slice_get nodes i.0) is ∙ kept_there a more i.0 h.node h.there; schema = h.schema }

pub last_stream : (nodes : Shape) (p : PhysicalNode) → IsStream (nodes ++ p ∷ []) (length nodes, 0) p.schema
last_stream nodes p = record { node = p; there = last_there nodes p; schema = refl }

pub other_schema : (nodes : Shape) (i : Stream) (f g : Fields) → f ≡ g → IsStream nodes i f → IsStream nodes i g
other_schema nodes i f g e h = record { node = h.node; there = h.there; schema = h.schema ∙ e }

at_has : {A : Type 0} (P : A → Type 0) (xs : List A) (x : A) → AllByRecursion P xs → Has xs x → P x
at_has P [] x all h = absurd h
at_has P (y ∷ xs) x all (inl e) = subst P e all.0
at_has P (y ∷ xs) x all (inr h) = at_has P xs x all.1 h

module _ (F : Functions) where
  -- what is right of a node over those before it
  pub record IsRight (nodes : Shape) (p : PhysicalNode) : Type 0 where
    pub earlier : AllByRecursion (λ (i : Stream). i.0 < length nodes) p.inputs
    pub inputs : HasInputs p.kind (length p.inputs)
    pub parameters : HasFitParameters F p.kind
    pub rules : KeepsRules F p.kind p.schema (map (schema_at nodes) p.inputs)

  right_fits : (nodes : Shape) (p : PhysicalNode) → IsRight nodes p → IsFitNode F (nodes ++ p ∷ []) (length nodes) p
  right_fits nodes p h =
      let same = schemas_before nodes (p ∷ []) p.inputs h.earlier in
      let r = subst (λ (ss : List Fields). KeepsRules F p.kind p.schema ss) same h.rules in
      record { earlier = h.earlier; inputs = h.inputs; schema = r.schema; not_empty = r.not_empty; parameters = h.parameters; kinds = r.kinds; rules = r.rules }

  pub sound_more : (nodes : Shape) (p : PhysicalNode) → IsSoundButForReaders F nodes → IsRight nodes p → IsSoundButForReaders F (nodes ++ p ∷ [])
  sound_more nodes p sound right n q e = by (cases_lt n (length nodes))
    where
      by : (n < length nodes) ⊎ (length nodes ≤ n) → IsFitNode F (nodes ++ p ∷ []) n q
      by (inl lt) = fit_later F nodes (p ∷ []) n q lt (sound n q (was_there nodes (p ∷ []) n q lt e))
      by (inr le) =
          let l = length-append nodes (p ∷ []) in
          let lt = slice_get_within (nodes ++ p ∷ []) n q e in
          let at : length nodes ≡ n = omega arith in
          let is : Some p ≡ Some q = sym (last_there nodes p) ∙ ap (slice_get (nodes ++ p ∷ [])) at ∙ e in
          subst (λ (k : ℕ). IsFitNode F (nodes ++ p ∷ []) k q) at (subst (λ (x : PhysicalNode). IsFitNode F (nodes ++ p ∷ []) (length nodes) x) (same_Some p q is) (right_fits nodes p right))

  -- each node of a sound shape reads earlier ones
  pub sound_ordered : (nodes : Shape) → IsSoundButForReaders F nodes → IsOrdered nodes
  sound_ordered nodes sound n p i e has = at_has (λ (i : Stream). i.0 < n) p.inputs i (sound n p e).earlier (to_has p.inputs i has)

  -- no name stands twice in a schema of a sound shape
  outs : (step : Step) (ss : List Fields) (s : Fields) → ((R : Refusal) → ¬ TypingRefused F step ss R) → output_schema F step ss ≡ Some s → has_distinct_names s ≡ true
  outs step ss s rules e = subst (λ (o : Option Fields). has_distinct_names (unwrap_or o []) ≡ true) e (output-distinct F step ss rules)

  kind_distinct : (kind : PhysicalKind) (ss : List Fields) (s : Fields) → ((R : Refusal) → ¬ TypingRefused F (rules_of kind) ss R) → HasSchema F kind ss s → has_distinct_names s ≡ true
  kind_distinct (equi_join o) ss s rules h = h.1
  kind_distinct (in_memory_join o) ss s rules h = h.1
  kind_distinct (in_memory_source t) ss s rules h = outs (rules_of (in_memory_source t)) ss s rules h
  kind_distinct (select_node es b) ss s rules h = outs (rules_of (select_node es b)) ss s rules h
  kind_distinct (with_row_index name offset) ss s rules h = outs (rules_of (with_row_index name offset)) ss s rules h
  kind_distinct (independent_select es) ss s rules h = outs (rules_of (independent_select es)) ss s rules h
  kind_distinct (reduce es) ss s rules h = outs (rules_of (reduce es)) ss s rules h
  kind_distinct (streaming_slice offset n) ss s rules h = outs (rules_of (streaming_slice offset n)) ss s rules h
  kind_distinct (negative_slice back n) ss s rules h = outs (rules_of (negative_slice back n)) ss s rules h
  kind_distinct (filter_node e) ss s rules h = outs (rules_of (filter_node e)) ss s rules h
  kind_distinct (simple_projection ns) ss s rules h = outs (rules_of (simple_projection ns)) ss s rules h
  kind_distinct in_memory_sink ss s rules h = outs (rules_of in_memory_sink) ss s rules h
  kind_distinct (in_memory_map step) ss s rules h = outs (rules_of (in_memory_map step)) ss s rules h
  kind_distinct (stream_map step) ss s rules h = outs (rules_of (stream_map step)) ss s rules h
  kind_distinct ordered_union ss s rules h = outs (rules_of ordered_union) ss s rules h
  kind_distinct (zip_node b) ss s rules h = outs (rules_of (zip_node b)) ss s rules h
  kind_distinct multiplexer ss s rules h = outs (rules_of multiplexer) ss s rules h
  kind_distinct (group_by_node keys aggregates) ss s rules h = outs (rules_of (group_by_node keys aggregates)) ss s rules h

  pub sound_distinct : (nodes : Shape) (i : Stream) (f : Fields) → IsSoundButForReaders F nodes → IsStream nodes i f → has_distinct_names f ≡ true
  sound_distinct nodes i f sound h =
      let p = h.node in
      let fit = sound i.0 p h.there in
      subst (λ (s : Fields). has_distinct_names s ≡ true) h.schema (kind_distinct p.kind (input_schemas nodes p) p.schema fit.rules.3 fit.schema)

  pub sound_some : (nodes : Shape) (i : Stream) (f : Fields) → IsSoundButForReaders F nodes → IsStream nodes i f → f ≢ []
  sound_some nodes i f sound h e = (sound i.0 h.node h.there).not_empty (h.schema ∙ e)

  -- What a rule makes: more nodes, sound with those that stood, and a stream of this schema. Names only grow.
  pub record Makes (s : State) (m : Made) (out : Fields) : Type 0 where
    pub more : Shape
    pub nodes : m.state.nodes ≡ s.nodes ++ more
    pub sound : IsSoundButForReaders F m.state.nodes
    pub names : Grown s.names m.state.names
    pub stream : IsStream m.state.nodes m.stream out

  pub makes_none : (s : State) (i : Stream) (f : Fields) → IsSoundButForReaders F s.nodes → IsStream s.nodes i f → Makes s (record { state = s; stream = i }) f
  makes_none s i f sound h = record { more = []; nodes = sym (append-nil s.nodes); sound = sound; names = grown_same s.names; stream = h }

  pub makes_then : (r s : State) (xs : Shape) (m : Made) (out : Fields) → s.nodes ≡ r.nodes ++ xs → Grown r.names s.names → Makes s m out → Makes r m out
  makes_then r s xs m out is g h =
      record {
        more = xs ++ h.more;
        nodes = h.nodes ∙ ap (λ (nodes : Shape). nodes ++ h.more) is ∙ append_assoc r.nodes xs h.more;
        sound = h.sound;
        names = grown_then r.names s.names m.state.names g h.names;
        stream = h.stream;
      }

  pub makes_above : (s : State) (k m : Made) (f out : Fields) → Makes s k f → Makes k.state m out → Makes s m out
  makes_above s k m f out h l = makes_then s k.state h.more m out h.nodes h.names l

  pub other_out : (s : State) (m : Made) (f g : Fields) → f ≡ g → Makes s m f → Makes s m g
  other_out s m f g e h = record { more = h.more; nodes = h.nodes; sound = h.sound; names = h.names; stream = other_schema m.state.nodes m.stream f g e h.stream }

  pub inserted : (s : State) (p : PhysicalNode) → IsSoundButForReaders F s.nodes → IsRight s.nodes p → Makes s (record { state = record { nodes = s.nodes ++ p ∷ []; names = s.names }; stream = (length s.nodes, 0) }) p.schema
  inserted s p sound right = record { more = p ∷ []; nodes = refl; sound = sound_more s.nodes p sound right; names = grown_same s.names; stream = last_stream s.nodes p }

  -- a node over one stream
  module _ (at : ℕ) (kind : PhysicalKind) (input : Stream) (s : State) (f : Fields) (sound : IsSoundButForReaders F s.nodes) (stream : IsStream s.nodes input f) (one : HasInputs kind 1) (fit : HasFitParameters F kind) where
    pub over_makes : (schema : Fields) → KeepsRules F kind schema (f ∷ []) → Makes s (over at kind schema input s) schema
    over_makes schema rules =
        inserted s (record { kind = kind; schema = schema; origin = at; inputs = input ∷ [] }) sound
        (record { earlier = (stream_below s.nodes input f stream, tt); inputs = one; parameters = fit; rules = subst (λ (g : Fields). KeepsRules F kind schema (g ∷ [])) (sym (schema_is s.nodes input f stream)) rules })

    pub same_makes : KeepsRules F kind f (f ∷ []) → Makes s (over_same at kind input s) f
    same_makes rules = subst (λ (g : Fields). Makes s (over at kind g input s) f) (sym (schema_is s.nodes input f stream)) (over_makes f rules)

    pub selected_makes : (es : List Named) → KeepsRules F kind (selected_schema es f) (f ∷ []) → Makes s (over_selected at kind es input s) (selected_schema es f)
    selected_makes es rules = subst (λ (g : Fields). Makes s (over at kind (selected_schema es g) input s) (selected_schema es f)) (sym (schema_is s.nodes input f stream)) (over_makes (selected_schema es f) rules)
