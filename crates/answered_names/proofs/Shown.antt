-- The names that a call's stream shows: those of the input, and fresh ones.
use Rattle.std.proofs.Common.{◌≡◌, ◌≢◌, ◌⊎◌, inl, inr, ℕ, ◌+◌, ◌≤◌, ◌^◌, Bool, true, false, cond, List, [], ◌∷◌, ◌++◌, length, refl, sym, ap, subst, ◌∙◌, arith}
use Rattle.std.specs.Prelude.{IsTrue, flat_map, map}
use Rattle.std.proofs.lemmas.List.{map-append}
use Rattle.ps_frame.specs.Causes.{is_empty}
use Rattle.ps_frame.specs.Frames.{has_distinct_names}
use Rattle.ps_frame.specs.Functions.{Functions}
use Rattle.ps_frame.specs.Tables.{Fields}
use Rattle.ps_frame.specs.Trees.{Tree}
use Rattle.ps_frame.specs.declared.value.DataType.{DataType}
use Rattle.ps_meaning.specs.Schemas.{expr_names, is_among, names_of}
use Rattle.ps_meaning.specs.Shape.{PhysicalNode, Shape, reduce, zip_node}
use Rattle.ps_meaning.specs.Sound.{have_all_kinds}
use Rattle.ps_meaning.specs.Steps.{Name, exprs_of}
use Rattle.ps_rules.specs.Bundles.{one_of, one_stream, with_reduce}
use Rattle.ps_rules.specs.Calls.{Bundle}
use Rattle.ps_rules.specs.Lowered.{as_operand, lower_exprs}
use Rattle.ps_rules.specs.Names.{Names}
use Rattle.ps_rules.specs.Rules.{together}
use Rattle.ps_rules.specs.Slots.{Made, State, Stream, same_stream, schema_at, schema_or_none, selected_schema}
use Rattle.ps_shares.proofs.Adding.{inserted}
use Rattle.ps_shares.proofs.Ends.{last_there}
use Rattle.ps_shares.proofs.Fresh.{grown_same}
use Rattle.ps_shares.proofs.Growing.{finished_names}
use Rattle.ps_shares.proofs.Stands.{Fresh}
use Rattle.ps_bundles.proofs.Reading.{among_or}
use Rattle.ps_bundles.proofs.ZipEnds.{is_some as is_not_empty}
use Rattle.name_rules.proofs.Items.{each_some, items_some}
use Rattle.name_rules.proofs.Ruling.{field_names, some_fields, typed_fields}
use Rattle.name_rules.proofs.Streams.{Held, held_fewer, held_last, made, own, same_is}
use Rattle.name_rules.proofs.Times.{among_times, times}
use Rattle.lowering_names.proofs.Calling.{AllTyped, Fine, Items, fine_later, is_node, other_stream, schema_is, together_later, together_right}
use Rattle.lowering_names.proofs.Stepping.{list_steps}
use Rattle.answered_names.specs.Answers.{NamesAreInputsOrFresh}

among_both : (n : Name) (f g : Fields) → is_among n (names_of (f ++ g)) ≡ true → (is_among n (names_of f) ≡ true) ⊎ (is_among n (names_of g) ≡ true)
among_both n f g h = among_or n (names_of f) (names_of g) (ap (is_among n) (sym (map-append (λ (x : Name × DataType). x.0) f g)) ∙ h)

module _ (at : ℕ) (input : Stream) where
  -- of one stream, and of a zip of several
  stream_names : (nodes : Shape) (n : Name) (t : Stream) → is_among n (names_of (schema_at nodes t)) ≡ true → (is_among n (names_of (schema_at nodes input)) ≡ true) ⊎ (1 ≤ own input nodes n t)
  stream_names nodes n t h = by (same_stream input t) refl
    where
      by : (b : Bool) → same_stream input t ≡ b → (is_among n (names_of (schema_at nodes input)) ≡ true) ⊎ (1 ≤ cond b 0 (times n (names_of (schema_at nodes t))))
      by true q = inl (ap (λ (i : Stream). is_among n (names_of (schema_at nodes i))) (same_is input t q) ∙ h)
      by false q = inr (among_times n (names_of (schema_at nodes t)) h)

  zip_names : (nodes : Shape) (n : Name) (ss : List Stream) → is_among n (names_of (flat_map (schema_at nodes) ss)) ≡ true → (is_among n (names_of (schema_at nodes input)) ≡ true) ⊎ (1 ≤ made input nodes ss n)
  zip_names nodes n [] h = cc
  zip_names nodes n (t ∷ ss) h = by (among_both n (schema_at nodes t) (flat_map (schema_at nodes) ss) h) (stream_names nodes n t) (zip_names nodes n ss)
    where
      first : (is_among n (names_of (schema_at nodes input)) ≡ true) ⊎ (1 ≤ own input nodes n t) → (is_among n (names_of (schema_at nodes input)) ≡ true) ⊎ (1 ≤ own input nodes n t + made input nodes ss n)
      first (inl k) = inl k
      first (inr k) = inr (omega arith)

      later : (is_among n (names_of (schema_at nodes input)) ≡ true) ⊎ (1 ≤ made input nodes ss n) → (is_among n (names_of (schema_at nodes input)) ≡ true) ⊎ (1 ≤ own input nodes n t + made input nodes ss n)
      later (inl k) = inl k
      later (inr k) = inr (omega arith)

      by : (is_among n (names_of (schema_at nodes t)) ≡ true) ⊎ (is_among n (names_of (flat_map (schema_at nodes) ss)) ≡ true)
          → (is_among n (names_of (schema_at nodes t)) ≡ true → (is_among n (names_of (schema_at nodes input)) ≡ true) ⊎ (1 ≤ own input nodes n t))
          → (is_among n (names_of (flat_map (schema_at nodes) ss)) ≡ true → (is_among n (names_of (schema_at nodes input)) ≡ true) ⊎ (1 ≤ made input nodes ss n)) → (is_among n (names_of (schema_at nodes input)) ≡ true) ⊎ (1 ≤ own input nodes n t + made input nodes ss n)
      by (inl k) one more = first (one k)
      by (inr k) one more = later (more k)

  -- the input's names, or fresh ones
  abbrev IsShown : Names → Names → Fields → Name → Type 0
  IsShown a b f n = (is_among n (names_of f) ≡ true) ⊎ Fresh a b n

  one_names : (a : Names) (s : State) (ss : List Stream) → Held input a s ss (λ n. 0) → (n : Name) → is_among n (names_of (schema_at (one_stream at input ss s).state.nodes (one_stream at input ss s).stream)) ≡ true → IsShown a s.names (schema_at s.nodes input) n
  one_names a s ss h n among = by ss h among
    where
      fresh : (ss : List Stream) → Held input a s ss (λ n. 0) → (is_among n (names_of (schema_at s.nodes input)) ≡ true) ⊎ (1 ≤ made input s.nodes ss n) → IsShown a s.names (schema_at s.nodes input) n
      fresh ss h (inl k) = inl k
      fresh ss h (inr k) = inr (h.names.fresh n (omega arith))

      one : (t : Stream) → (is_among n (names_of (schema_at s.nodes input)) ≡ true) ⊎ (1 ≤ own input s.nodes n t) → (is_among n (names_of (schema_at s.nodes input)) ≡ true) ⊎ (1 ≤ made input s.nodes (t ∷ []) n)
      one t (inl k) = inl k
      one t (inr k) = inr (omega arith)

      zipped : (ss : List Stream) → let p : PhysicalNode = record { kind = zip_node false; schema = flat_map (schema_at s.nodes) ss; origin = at; inputs = ss } in is_among n (names_of (schema_at (s.nodes ++ p ∷ []) (length s.nodes, 0))) ≡ true → is_among n (names_of (flat_map (schema_at s.nodes) ss)) ≡ true
      zipped ss k = let p : PhysicalNode = record { kind = zip_node false; schema = flat_map (schema_at s.nodes) ss; origin = at; inputs = ss } in ap (λ o. is_among n (names_of (schema_or_none o))) (sym (last_there s.nodes p)) ∙ k

      by : (ss : List Stream) → Held input a s ss (λ n. 0) → is_among n (names_of (schema_at (one_stream at input ss s).state.nodes (one_stream at input ss s).stream)) ≡ true → IsShown a s.names (schema_at s.nodes input) n
      by [] h k = fresh [] h (zip_names s.nodes n [] (zipped [] k))
      by (t ∷ []) h k = fresh (t ∷ []) h (one t (stream_names s.nodes n t k))
      by (t ∷ u ∷ more) h k = fresh (t ∷ u ∷ more) h (zip_names s.nodes n (t ∷ u ∷ more) (zipped (t ∷ u ∷ more) k))

module _ (F : Functions) (at : ℕ) (input : Stream) (node : PhysicalNode) (distinct : IsTrue (has_distinct_names node.schema)) where
  finished_shown : (a : Names) (b : Bundle) → Fine F at input node distinct b.state → Held input a b.state b.streams (λ n. times n (expr_names b.reduced)) → Items F at input node distinct b.reduced → (n : Name)
      → let m = one_of at input b.streams b.reduced b.state in is_among n (names_of (schema_at m.state.nodes m.stream)) ≡ true → IsShown at input a b.state.names node.schema n
  finished_shown a b fine h typed n = by (is_empty b.reduced) refl
    where
      s : State
      s = b.state

      by : (e : Bool) → is_empty b.reduced ≡ e → let m = cond {A = State → Made} e (one_stream at input b.streams) (with_reduce at input b.streams b.reduced) b.state in is_among n (names_of (schema_at m.state.nodes m.stream)) ≡ true → IsShown at input a b.state.names node.schema n
      by true q k =
          let l = held_fewer input a b.state b.streams (λ n. times n (expr_names b.reduced)) (λ n. 0) (λ n. omega arith) h in
          subst (λ (g : Fields). IsShown at input a b.state.names g n) (schema_is F at input node distinct b.state fine) (one_names at input a b.state b.streams l n k)
      by false q k =
          let rs = b.reduced in
          let z = schema_at s.nodes input in
          let p : PhysicalNode = record { kind = reduce rs; schema = selected_schema rs z; origin = at; inputs = input ∷ [] } in
          let t : State = record { nodes = s.nodes ++ p ∷ []; names = s.names } in
          let i : Stream = (length s.nodes, 0) in
          let l = inserted s p fine.ordered (is_node F at input node distinct s fine, tt) in
          let kinds = subst (λ (g : Fields). have_all_kinds g (exprs_of rs) ≡ true) (sym (schema_is F at input node distinct s fine)) (items_some node.schema rs typed) in
          let is = ap schema_or_none (last_there s.nodes p) in
          let fields = typed_fields z rs kinds in
          let names : names_of (schema_at t.nodes i) ≡ expr_names rs = ap names_of is ∙ field_names z rs (selected_schema rs z) fields in
          let held = held_last input a s t b.streams i (λ n. times n (expr_names rs)) l.0 refl (other_stream F at input node distinct s fine) l.1 (λ e. some_fields z rs (selected_schema rs z) fields (is_not_empty rs q) (sym is ∙ e)) (λ n. let same = ap (times n) names in omega arith) h in
          subst (λ (g : Fields). IsShown at input a b.state.names g n) (schema_is F at input node distinct t (fine_later F at input node distinct s t (l.0, grown_same s.names) fine)) (one_names at input a t (b.streams ++ i ∷ []) held n k)

  answered_shown : (es : List Tree) (s : State) → Fine F at input node distinct s → AllTyped F at input node distinct es → es ≢ [] → (lower_exprs at input es s).state.names.next ≤ 2 ^ 64 → (n : Name)
      → is_among n (names_of (schema_at (lower_exprs at input es s).state.nodes (lower_exprs at input es s).stream)) ≡ true → (is_among n (names_of node.schema) ≡ true) ⊎ Fresh s.names (lower_exprs at input es s).state.names n
  answered_shown es s fine typed some small n k =
      let b = together at input (map (as_operand at input) es) s in
      let l = together_later F at input node distinct es s fine in
      let e = finished_names at input b in
      let r = together_right F at input node distinct es (list_steps F at input node distinct es) s fine typed some (subst (λ (a : Names). a.next ≤ 2 ^ 64) e small) in
      subst (λ (c : Names). IsShown at input s.names c node.schema n) (sym e) (finished_shown s.names b (fine_later F at input node distinct s b.state l fine) r.held r.reduced n k)

pub calls_shown : NamesAreInputsOrFresh
calls_shown F at input s es r small n q =
    let fine : Fine F at input r.node r.distinct_names s = record { ordered = r.ordered; there = r.there; known = r.known } in
    subst (λ (g : Fields). (is_among n (names_of g) ≡ true) ⊎ Fresh s.names (lower_exprs at input es s).state.names n) (sym (ap schema_or_none r.there))
    (answered_shown F at input r.node r.distinct_names es s fine (each_some r.node.schema es r.typed) r.some small n q)
