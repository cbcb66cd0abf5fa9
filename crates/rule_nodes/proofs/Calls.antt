-- What calls for expressions and selects leave, over a sound shape.
use Rattle.std.proofs.Common.{◌≡◌, ◌≢◌, ◌⊎◌, ℕ, ◌≤◌, ◌^◌, true, List, [], ◌∷◌, ◌++◌, Some, refl, sym, ap, subst, ◌∙◌}
use Rattle.std.specs.Prelude.{IsTrue, map, unwrap_or}
use Rattle.std.specs.Cmp.Lexicographic.{bytes_decides}
use Rattle.std.specs.List.{AllByRecursion}
use Rattle.std.specs.Str.{bytes_eq}
use Rattle.ps_frame.specs.Frames.{has_distinct_names}
use Rattle.ps_frame.specs.Functions.{Functions}
use Rattle.ps_frame.specs.Tables.{Fields}
use Rattle.ps_frame.specs.Trees.{Tree}
use Rattle.ps_frame.specs.Typing.{is_elementwise, kind_over}
use Rattle.ps_meaning.specs.Schemas.{expr_names, fields_of, is_among, names_of}
use Rattle.ps_meaning.specs.Shape.{Shape}
use Rattle.ps_meaning.specs.Sound.{IsSoundButForReaders, have_all_kinds}
use Rattle.ps_meaning.specs.Steps.{Name, Named, exprs_of}
use Rattle.ps_plan.proofs.Complete.{there}
use Rattle.ps_rules.specs.Calls.{Answer}
use Rattle.ps_rules.specs.Lowered.{as_operand, lower_exprs, select_stream}
use Rattle.ps_rules.specs.Names.{IsKnown}
use Rattle.ps_rules.specs.Slots.{State, Stream, schema_at, schema_or_none, selected_schema}
use Rattle.ps_shares.specs.Kept.{IsReady}
use Rattle.ps_shares.proofs.Adding.{all_add, answers_made, calls_add, items_add, selected_made}
use Rattle.ps_shares.proofs.Fresh.{Grown}
use Rattle.ps_shares.proofs.Stands.{Fresh, stand_for_asked}
use Rattle.ps_bundles.proofs.Reading.{or_first, or_last}
use Rattle.name_rules.specs.Lawful.{Differ}
use Rattle.lowering_kinds.proofs.Selecting.{items_of, selects_have_fields}
use Rattle.lowering_kinds.proofs.Staying.{kinds_stay}
use Rattle.lowering_sound.proofs.Sounding.{exprs_stay_sound, selects_stay_sound}
use Rattle.rule_parts.specs.Good.{IsStream, KnowsNames}
use Rattle.rule_parts.proofs.Standing.{Makes, schema_is, sound_distinct, sound_ordered, stream_below}
use Rattle.rule_parts.proofs.Growing.{exprs_grow, select_grows}
use Rattle.answered_names.proofs.Shown.{calls_shown}

pub all_among : (P : Name → Type 0) (ns : List Name) → ((n : Name) → is_among n ns ≡ true → P n) → AllByRecursion P ns
all_among P [] h = tt
all_among P (n ∷ ns) h = (h n (or_first (bytes_eq n n) (is_among n ns) ((bytes_decides n n).1 refl)), all_among P ns (λ m q. h m (or_last (bytes_eq m n) (is_among m ns) q)))

module _ (F : Functions) (at : ℕ) (input : Stream) (s : State) (f : Fields) (fit : IsSoundButForReaders F s.nodes) (from : IsStream s.nodes input f) (knows : KnowsNames s.names f) where
  pub ready : (es : List Tree) → have_all_kinds f es ≡ true → es ≢ [] → IsReady s input es
  ready es typed some =
      record {
        ordered = sound_ordered F s.nodes fit;
        node = from.node;
        there = from.there;
        known = all_among (IsKnown s.names) (names_of from.node.schema) (λ n q. knows n (subst (λ (g : Fields). is_among n (names_of g) ≡ true) from.schema q));
        distinct_names = ap has_distinct_names from.schema ∙ sound_distinct F s.nodes input f fit from;
        typed = ap (λ (g : Fields). have_all_kinds g es) from.schema ∙ typed;
        some = some;
      }

  -- What a call for expressions answers: nodes behind those that stood, sound with them, elementwise expressions of the same kinds, and a stream with the input's names and fresh ones.
  pub record Answered (es : List Tree) (a : Answer) : Type 0 where
    pub more : Shape
    pub nodes : a.state.nodes ≡ s.nodes ++ more
    pub sound : IsSoundButForReaders F a.state.nodes
    pub names : Grown s.names a.state.names
    pub schema : Fields
    pub stream : IsStream a.state.nodes a.stream schema
    pub kinds : map (kind_over schema) a.exprs ≡ map (kind_over f) es
    pub plain : AllByRecursion (λ e. IsTrue (is_elementwise e)) a.exprs
    pub shown : (n : Name) → is_among n (names_of schema) ≡ true → (is_among n (names_of f) ≡ true) ⊎ Fresh s.names a.state.names n

  pub exprs_answered : (es : List Tree) → have_all_kinds f es ≡ true → es ≢ [] → (lower_exprs at input es s).state.names.next ≤ 2 ^ 64 → Answered es (lower_exprs at input es s)
  unfolding ready
  exprs_answered es typed some small =
      let a = lower_exprs at input es s in
      let r = ready es typed some in
      let g = calls_add.exprs at input s es r in
      let os = map (as_operand at input) es in
      let made = answers_made at input os (all_add at input es) s r.ordered (stream_below s.nodes input f from) in
      let p = there a.state.nodes a.stream.0 made.1 in
      let z = schema_at a.state.nodes a.stream in
      record {
        more = g.more;
        nodes = g.nodes;
        sound = (exprs_stay_sound F at input s es r small).whole fit;
        names = exprs_grow at input es s;
        schema = z;
        stream = record { node = p.0; there = p.1; schema = sym (ap schema_or_none p.1) };
        kinds = kinds_stay F at input s es r small ∙ ap (λ (g : Fields). map (kind_over g) es) (schema_is s.nodes input f from);
        plain = (stand_for_asked at input s es r small).0;
        shown = λ n q. subst (λ (g : Fields). (is_among n (names_of g) ≡ true) ⊎ Fresh s.names a.state.names n) (schema_is s.nodes input f from) (calls_shown F at input s es r small n q);
      }

  pub select_made : (es : List Named) → have_all_kinds f (exprs_of es) ≡ true → exprs_of es ≢ [] → Differ (expr_names es) → (select_stream at input es s).state.names.next ≤ 2 ^ 64 → Makes F s (select_stream at input es s) (selected_schema es f)
  select_made es typed some differ small =
      let m = select_stream at input es s in
      let r = ready (exprs_of es) typed some in
      let g = calls_add.selects at input s es r in
      let made = selected_made at input (items_of F at input es) (items_add at input es) s r.ordered (stream_below s.nodes input f from) in
      let p = there m.state.nodes m.stream.0 made.1 in
      let fields : fields_of es f ≡ Some (schema_at m.state.nodes m.stream) = ap (fields_of es) (sym (schema_is s.nodes input f from)) ∙ selects_have_fields F at input s es r small in
      record {
        more = g.more;
        nodes = g.nodes;
        sound = (selects_stay_sound F at input s es r differ small).whole fit;
        names = select_grows at input es s;
        stream = record { node = p.0; there = p.1; schema = sym (ap schema_or_none p.1) ∙ ap (λ o. unwrap_or o []) (sym fields) };
      }
