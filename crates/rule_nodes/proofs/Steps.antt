-- Each step: the shape stays sound, and the stream has the step's schema.
use Rattle.std.proofs.Common.{◌≡◌, ◌≢◌, inl, inr, ℕ, ◌<◌, ◌≤◌, ◌^◌, Bool, true, false, cond, List, [], ◌∷◌, ◌++◌, length, Some, None, refl, sym, ap, subst, ◌∙◌, arith}
use Rattle.std.specs.Prelude.{◌&&◌, Option, drop, map, option_map, unwrap_or}
use Rattle.std.specs.List.{AllByRecursion, list_all}
use Rattle.std.proofs.lemmas.Bool.{cases_lt}
use Rattle.std.proofs.lemmas.Option.{same_Some}
use Rattle.ps_frame.specs.Frames.{has_distinct_names}
use Rattle.ps_frame.specs.Functions.{Functions}
use Rattle.ps_frame.specs.Lawful.{FitsFrame}
use Rattle.ps_frame.specs.Tables.{Fields, Frame}
use Rattle.ps_frame.specs.Trees.{Tree}
use Rattle.ps_frame.specs.Typing.{is_elementwise}
use Rattle.ps_frame.specs.declared.expr.What.TheVariants as what
use Rattle.ps_meaning.specs.Joins.{goes_by_left}
use Rattle.ps_meaning.specs.Schemas.{fields_of, is_among, named_fields, names_of, put_fields, schema_or_empty}
use Rattle.ps_meaning.specs.Shape.{PhysicalKind, filter_node, in_memory_join, in_memory_map, in_memory_sink, in_memory_source, ordered_union, select_node, simple_projection, stream_map, with_row_index, zip_node}
use Rattle.ps_meaning.specs.Sound.{BreaksNoRule, HasFitParameters, HasInputs, IsSoundButForReaders}
use Rattle.ps_meaning.specs.StepRefusals.{Refusal, TypingRefused, column_not_found, duplicate, schema_mismatch, unsupported}
use Rattle.ps_meaning.specs.Steps.{Cut, DistinctStep, GroupStep, JoinStep, Name, Named, Step, cache, distinct, exprs_of, filter, group_by, hconcat, hstack, join, left_out, memory_sink, project, row_index, scan, select, sink, slice, sort, union, user}
use Rattle.ps_meaning.specs.declared.options.SinkType.{SinkType}
use Rattle.ps_plan.proofs.TypedSteps.{output-distinct}
use Rattle.ps_rules.specs.Lowered.{lower_exprs, select_stream}
use Rattle.ps_rules.specs.Rules.{first_tree}
use Rattle.ps_rules.specs.Names.{Names}
use Rattle.ps_rules.specs.Slots.{Made, State, Stream, columns_named, over, over_same, projection, schema_at, selected_schema}
use Rattle.ps_shares.proofs.Growing.{columns_names}
use Rattle.name_rules.specs.Lawful.{KeepsRules}
use Rattle.name_rules.proofs.Ruling.{field_names, obeys, typed_fields}
use Rattle.name_rules.proofs.Times.{distinct_once, once_never}
use Rattle.plan_rules.specs.Distinct.{distinct_stream, grouped_distinct, keeps_last, mapped_distinct}
use Rattle.plan_rules.specs.Joins.{equi_join_stream, join_stream, over_both}
use Rattle.plan_rules.specs.Nodes.{extended_apart, filter_stream, first_stream, hstack_stream, over_all, scan_stream, second_stream, step_stream, union_stream}
use Rattle.rule_parts.specs.Good.{AreStreams, IsGoodStep, IsStream, KnowsNames}
use Rattle.rule_parts.proofs.Columns.{columns_make, named_names, own_found, own_itself}
use Rattle.rule_parts.proofs.Grouped.{GroupsWell}
use Rattle.rule_parts.proofs.Passing.{cut_makes, good_rules, good_some, good_there, slice_makes}
use Rattle.rule_parts.proofs.Standing.{IsRight, Makes, inserted, makes_above, makes_none, over_makes, same_makes, stream_below}
use Rattle.rule_parts.proofs.Inputs.{all_below, all_contained, as_many, one_input, schemas_are, two_inputs}
use Rattle.rule_nodes.specs.Steps.{StepsStaySound}
use Rattle.rule_nodes.proofs.Calls.{select_made}
use Rattle.rule_nodes.proofs.Distincts.{grouped_makes}
use Rattle.rule_nodes.proofs.Further.{extended_makes, filter_makes}
use Rattle.rule_nodes.proofs.Groups.{group_makes}
use Rattle.rule_nodes.proofs.Joins.{equi_makes}

module _ (F : Functions) (at : ℕ) (s : State) (sound : IsSoundButForReaders F s.nodes) where
  -- a node over any number of streams
  all_makes : (kind : PhysicalKind) (schema : Fields) (inputs : List Stream) (ss : List Fields) → AreStreams s.nodes inputs ss → (right : IsRight F s.nodes (record { kind = kind; schema = schema; origin = at; inputs = inputs })) → Makes F s (over_all at kind schema inputs s) schema
  all_makes kind schema inputs ss streams right = inserted F s (record { kind = kind; schema = schema; origin = at; inputs = inputs }) sound right

  -- a scan
  scan_rules : (t : Frame) → has_distinct_names t.schema ≡ true → t.schema ≢ [] → BreaksNoRule F (scan t None) []
  scan_rules t once some =
      obeys F (scan t None) []
      (record {
        keys = λ k. k;
        key = λ k. k;
        validated = λ k. k;
        missing = λ n k. cc;
        repeated = λ n k. k;
        names = λ n k. once_never n (names_of t.schema) (distinct_once t.schema once n) k;
        kinds = λ k. k;
        typed = λ k. cc;
        columns = λ k. some (same_Some t.schema [] k);
        literal = λ k. k;
      })

  source_makes : (t : Frame) → FitsFrame t → has_distinct_names t.schema ≡ true → t.schema ≢ [] → Makes F s (over_all at (in_memory_source t) t.schema [] s) t.schema
  source_makes t fits once some =
      inserted F s (record { kind = in_memory_source t; schema = t.schema; origin = at; inputs = [] }) sound (record { earlier = tt; inputs = refl; parameters = fits; rules = record { schema = refl; not_empty = some; kinds = refl; rules = scan_rules t once some } })

  some_named : (ns : List Name) (t : Fields) → unwrap_or (named_fields ns t) [] ≢ [] → t ≢ []
  some_named [] t some e = some refl
  some_named (n ∷ ns) t some e = some (ap (λ (f : Fields). unwrap_or (named_fields (n ∷ ns) f) []) e)

  scan_makes : (t : Frame) (columns : Option (List Name)) → IsGoodStep F (scan t columns) [] → Makes F s (scan_stream at t (schema_or_empty F (scan t columns) []) s) (schema_or_empty F (scan t columns) [])
  scan_makes t None good =
      let some = good_some F (scan t None) [] good in
      let m = over_all at (in_memory_source t) t.schema [] s in
      let k = source_makes t good.table.0 good.table.1 some in
      makes_above F s m (scan_stream at t t.schema s) t.schema t.schema k (columns_make F at m.stream m.state t.schema k.sound k.stream t.schema (own_found t.schema t.schema (own_itself t.schema good.table.1)) some good.table.1)
  scan_makes t (Some ns) good =
      let out = schema_or_empty F (scan t (Some ns)) [] in
      let some = good_some F (scan t (Some ns)) [] good in
      let m = over_all at (in_memory_source t) t.schema [] s in
      let k = source_makes t good.table.0 good.table.1 (some_named ns t.schema some) in
      let found = good_there F (scan t (Some ns)) [] good in
      let names : names_of out ≡ ns = named_names ns t.schema out found in
      let own : named_fields (names_of out) t.schema ≡ Some out = ap (λ (ms : List Name). named_fields ms t.schema) names ∙ found in
      makes_above F s m (scan_stream at t out s) t.schema out k (columns_make F at m.stream m.state t.schema k.sound k.stream out own some (output-distinct F (scan t (Some ns)) [] good.typed.rules))

  -- steps over one stream
  module _ (input : Stream) (stream : IsStream s.nodes input (schema_at s.nodes input)) (known : KnowsNames s.names (schema_at s.nodes input)) where
    abbrev f : Fields
    f = schema_at s.nodes input

    abbrev ss : List Fields
    ss = f ∷ []

    abbrev out : Step → Fields
    out step = schema_or_empty F step ss

    once : (step : Step) → IsGoodStep F step ss → has_distinct_names (out step) ≡ true
    once step good = output-distinct F step ss good.typed.rules

    project_makes : (ns : List Name) → IsGoodStep F (project ns) ss → Makes F s (projection at ns input s) (out (project ns))
    project_makes ns good =
        let is = good_there F (project ns) ss good in
        over_makes F at (simple_projection ns) input s f sound stream refl tt (out (project ns)) (record { schema = is; not_empty = good_some F (project ns) ss good; kinds = refl; rules = good_rules F (project ns) ss good })

    select_makes : (es : List Named) → IsGoodStep F (select es) ss → (select_stream at input es s).state.names.next ≤ 2 ^ 64 → Makes F s (select_stream at input es s) (out (select es))
    select_makes es good small =
        select_made F at input s f sound stream known es good.typed.kinds (some_exprs es (good_some F (select es) ss good)) (λ n q. good.typed.rules (duplicate n) (inr q)) small
      where
        some_exprs : (es : List Named) → unwrap_or (fields_of es f) [] ≢ [] → exprs_of es ≢ []
        some_exprs [] some e = some refl
        some_exprs (x ∷ es) some e = let w : x.1 ∷ exprs_of es ≡ [] = e in cc

    hstack_makes : (es : List Named) → IsGoodStep F (hstack es) ss → (hstack_stream at es (out (hstack es)) input s).state.names.next ≤ 2 ^ 64 → Makes F s (hstack_stream at es (out (hstack es)) input s) (out (hstack es))
    hstack_makes es good = by (list_all is_elementwise (exprs_of es)) refl
      where
        schema : Fields
        schema = out (hstack es)

        fields : schema ≡ put_fields f (selected_schema es f)
        fields = ap (λ o. unwrap_or (option_map (put_fields f) o) []) (typed_fields f es good.typed.kinds)

        by : (b : Bool) → list_all is_elementwise (exprs_of es) ≡ b → (cond {A = Stream → State → Made} b (over at (select_node es true) schema) (extended_apart at es schema) input s).state.names.next ≤ 2 ^ 64
            → Makes F s (cond {A = Stream → State → Made} b (over at (select_node es true) schema) (extended_apart at es schema) input s) schema
        by true q small =
            over_makes F at (select_node es true) input s f sound stream refl q schema (record { schema = good_there F (hstack es) ss good; not_empty = good_some F (hstack es) ss good; kinds = good.typed.kinds; rules = good_rules F (hstack es) ss good })
        by false q small =
            subst (λ (g : Fields). Makes F s (extended_apart at es g input s) g) (sym fields)
            (extended_makes F at input s sound stream known es good.typed.kinds (λ n k. good.typed.rules (duplicate n) (inl k)) q (subst (λ (g : Fields). g ≢ []) fields (good_some F (hstack es) ss good)) (subst (λ (g : Fields). has_distinct_names g ≡ true) fields (once (hstack es) good)) small)

    filtered : (e : Tree) → IsGoodStep F (filter e) ss → (filter_stream at e input s).state.names.next ≤ 2 ^ 64 → Makes F s (filter_stream at e input s) f
    filtered e good small =
        let a = lower_exprs at input (columns_named (names_of f) ++ e ∷ []) s in
        let m = over_same at (filter_node (first_tree (drop (length (columns_named (names_of f))) a.exprs))) a.stream a.state in
        let n = ap (λ (x : Names). x.next) (columns_names at input (names_of f) m.stream m.state) in
        filter_makes F at input s sound stream known e good.typed.kinds (λ q. good.typed.rules schema_mismatch (inl q)) (omega arith)

    direct : (kind : PhysicalKind) (step : Step) → HasInputs kind 1 → HasFitParameters F kind → KeepsRules F kind (out step) ss → Makes F s (over at kind (out step) input s) (out step)
    direct kind step one fit rules = over_makes F at kind input s f sound stream one fit (out step) rules

    user_makes : (n : ℕ) → IsGoodStep F (user n) ss → Makes F s (over at (cond (F.streams n) (stream_map (user n)) (in_memory_map (user n))) (out (user n)) input s) (out (user n))
    user_makes n good = by (F.streams n) refl
      where
        here : n < F.count
        here = elim (cases_lt n F.count) [ inl lt ↦ lt | inr le ↦ absurd (good.known le) ]

        by : (b : Bool) → F.streams n ≡ b → Makes F s (over at (cond {A = PhysicalKind} b (stream_map (user n)) (in_memory_map (user n))) (out (user n)) input s) (out (user n))
        by true q = direct (stream_map (user n)) (user n) refl (here, q) (record { schema = good_there F (user n) ss good; not_empty = good_some F (user n) ss good; kinds = refl; rules = good_rules F (user n) ss good })
        by false q = direct (in_memory_map (user n)) (user n) refl here (record { schema = good_there F (user n) ss good; not_empty = good_some F (user n) ss good; kinds = refl; rules = good_rules F (user n) ss good })

    sink_makes : (target : SinkType) → IsGoodStep F (sink target) ss → Makes F s (over_same at in_memory_sink input s) f
    sink_makes target good =
        same_makes F at in_memory_sink input s f sound stream refl tt
        (record {
          schema = refl;
          not_empty = good_some F (sink target) ss good;
          kinds = refl;
          rules = ((λ h. h), (λ h. h), (λ h. h), λ R h. good.typed.rules R (as_target R h));
        })
      where
        as_target : (R : Refusal) → TypingRefused F memory_sink ss R → TypingRefused F (sink target) ss R
        as_target (column_not_found n) h = h
        as_target (duplicate n) h = h
        as_target schema_mismatch h = h
        as_target (unsupported what.NoColumns) h = h
        as_target (unsupported what.LiteralAggregate) h = h
        as_target (unsupported _) h = h
        as_target _ h = h

    group_well : (o : GroupStep) → IsGoodStep F (group_by o) ss → KnowsNames s.names (out (group_by o)) → GroupsWell f s.names o
    group_well o good named =
        record {
          typed = good.typed.kinds;
          some_key = λ e. good.key e;
          names_differ = λ n q. good.typed.rules (duplicate n) (inr q);
          known = λ n q. named n (ap (is_among n) (field_names f (o.keys ++ o.aggregates) (out (group_by o)) (good_there F (group_by o) ss good)) ∙ q);
          scalar = λ q. good.typed.rules schema_mismatch (inl q);
          literal = λ q. good.typed.rules (unsupported what.LiteralAggregate) q;
        }

    distinct_makes : (o : DistinctStep) → IsGoodStep F (distinct o) ss → (distinct_stream at o input s).state.names.next ≤ 2 ^ 64 → Makes F s (distinct_stream at o input s) f
    distinct_makes o good = by (o.maintain_order && keeps_last o.keep)
      where
        by : (b : Bool) → (cond {A = Stream → State → Made} b (mapped_distinct at o) (grouped_distinct at o) input s).state.names.next ≤ 2 ^ 64 → Makes F s (cond {A = Stream → State → Made} b (mapped_distinct at o) (grouped_distinct at o) input s) f
        by true small = same_makes F at (in_memory_map (distinct o)) input s f sound stream refl tt (record { schema = refl; not_empty = good_some F (distinct o) ss good; kinds = refl; rules = good_rules F (distinct o) ss good })
        by false small = grouped_makes F at input o s sound stream known (λ e. good.key e) (λ n q. good.typed.rules (column_not_found n) q) (λ n q. good.typed.rules (duplicate n) (inl q)) small

  -- steps over several streams
  module _ (inputs : List Stream) (ss : List Fields) (streams : AreStreams s.nodes inputs ss) where
    are : map (schema_at s.nodes) inputs ≡ ss
    are = schemas_are s.nodes inputs ss streams

    several : (kind : PhysicalKind) (schema : Fields) → HasInputs kind (length inputs) → HasFitParameters F kind → KeepsRules F kind schema ss → Makes F s (over_all at kind schema inputs s) schema
    several kind schema many fit rules =
        all_makes kind schema inputs ss streams (record { earlier = all_below s.nodes inputs ss streams; inputs = many; parameters = fit; rules = subst (λ (ts : List Fields). KeepsRules F kind schema ts) (sym are) rules })

    union_makes : (cut : Cut) → IsGoodStep F (union cut) ss → Makes F s (union_stream at cut (schema_or_empty F (union cut) ss) inputs s) (schema_or_empty F (union cut) ss)
    union_makes cut good =
        let out = schema_or_empty F (union cut) ss in
        let m = over_all at ordered_union out inputs s in
        let n = as_many s.nodes inputs ss streams in
        let some = good.inputs in
        let k =
        several ordered_union out (omega arith) tt
        (record {
          schema = good_there F (union cut) ss good;
          not_empty = good_some F (union cut) ss good;
          kinds = refl;
          rules = ((λ h. h), (λ h. h), (λ h. h), λ R h. good.typed.rules R (as_cut R h));
        }) in
        makes_above F s m (union_stream at cut out inputs s) out out k (cut_makes F at m.stream m.state out k.sound k.stream cut)
      where
        as_cut : (R : Refusal) → TypingRefused F (union None) ss R → TypingRefused F (union cut) ss R
        as_cut (column_not_found n) h = h
        as_cut (duplicate n) h = h
        as_cut schema_mismatch h = h
        as_cut (unsupported what.NoColumns) h = h
        as_cut (unsupported what.LiteralAggregate) h = h
        as_cut (unsupported _) h = h
        as_cut _ h = h

    zip_makes : IsGoodStep F hconcat ss → Makes F s (over_all at (zip_node true) (schema_or_empty F hconcat ss) inputs s) (schema_or_empty F hconcat ss)
    zip_makes good =
        let n = as_many s.nodes inputs ss streams in
        let some = good.inputs in
        several (zip_node true) (schema_or_empty F hconcat ss) (omega arith) tt (record { schema = good_there F hconcat ss good; not_empty = good_some F hconcat ss good; kinds = refl; rules = good_rules F hconcat ss good })

  -- joins
  module _ (left right : Stream) (left_stream : IsStream s.nodes left (schema_at s.nodes left)) (right_stream : IsStream s.nodes right (schema_at s.nodes right)) where
    abbrev both_ss : List Fields
    both_ss = schema_at s.nodes left ∷ schema_at s.nodes right ∷ []

    whole_makes : (o : JoinStep) → IsGoodStep F (join o) both_ss → Makes F s (over_both at (in_memory_join o) (schema_or_empty F (join o) both_ss) left right s) (schema_or_empty F (join o) both_ss)
    whole_makes o good =
        let out = schema_or_empty F (join o) both_ss in
        inserted F s (record { kind = in_memory_join o; schema = out; origin = at; inputs = left ∷ right ∷ [] }) sound
        (record {
          earlier = (stream_below s.nodes left (schema_at s.nodes left) left_stream, (stream_below s.nodes right (schema_at s.nodes right) right_stream, tt));
          inputs = refl;
          parameters = tt;
          rules = record { schema = (all_contained out, output-distinct F (join o) both_ss good.typed.rules); not_empty = good_some F (join o) both_ss good; kinds = good.typed.kinds; rules = good_rules F (join o) both_ss good };
        })

    join_makes : (o : JoinStep) → KnowsNames s.names (schema_at s.nodes left) → KnowsNames s.names (schema_at s.nodes right) → KnowsNames s.names (schema_or_empty F (join o) both_ss) → IsGoodStep F (join o) both_ss
        → (join_stream at o (schema_or_empty F (join o) both_ss) left right s).state.names.next ≤ 2 ^ 64 → Makes F s (join_stream at o (schema_or_empty F (join o) both_ss) left right s) (schema_or_empty F (join o) both_ss)
    join_makes o left_known right_known known good = by (goes_by_left o.args.how) refl
      where
        out : Fields
        out = schema_or_empty F (join o) both_ss

        by : (b : Bool) → goes_by_left o.args.how ≡ b → (cond {A = Stream → Stream → State → Made} b (equi_join_stream at o out) (over_both at (in_memory_join o) out) left right s).state.names.next ≤ 2 ^ 64
            → Makes F s (cond {A = Stream → Stream → State → Made} b (equi_join_stream at o out) (over_both at (in_memory_join o) out) left right s) out
        by true q small = equi_makes F at left right s sound left_stream right_stream left_known right_known o good q known small
        by false q small = whole_makes o good

-- what a step owes
abbrev Owes : Functions → ℕ → List Stream → State → Step → List Fields → Type 0
Owes F at inputs s step ss = AllByRecursion (KnowsNames s.names) (schema_or_empty F step ss ∷ ss) → (step_stream at F step (schema_or_empty F step ss) inputs s).state.names.next ≤ 2 ^ 64 → Makes F s (step_stream at F step (schema_or_empty F step ss) inputs s) (schema_or_empty F step ss)

pub step_makes : (F : Functions) (at : ℕ) (step : Step) (ss : List Fields) (inputs : List Stream) (s : State) → IsGoodStep F step ss → IsSoundButForReaders F s.nodes → AreStreams s.nodes inputs ss → AllByRecursion (KnowsNames s.names) (schema_or_empty F step ss ∷ ss)
    → (step_stream at F step (schema_or_empty F step ss) inputs s).state.names.next ≤ 2 ^ 64 → Makes F s (step_stream at F step (schema_or_empty F step ss) inputs s) (schema_or_empty F step ss)
step_makes F at step ss inputs s good sound streams known small = by step good known small
  where
    i : Stream
    i = first_stream inputs

    f : Fields
    f = schema_at s.nodes i

    -- over the one stream
    over_one : (step : Step) → length ss ≡ 1 → IsGoodStep F step ss → (IsGoodStep F step (f ∷ []) → IsStream s.nodes i f → Owes F at inputs s step (f ∷ [])) → Owes F at inputs s step ss
    over_one step n good make =
        let o = one_input s.nodes inputs ss streams n in
        subst (Owes F at inputs s step) (sym o.is_alone) (make (subst (IsGoodStep F step) o.is_alone good) o.stream)

    by : (step : Step) → IsGoodStep F step ss → Owes F at inputs s step ss
    by (scan t columns) good = none ss good.inputs good
      where
        none : (ss : List Fields) → length ss ≡ 0 → IsGoodStep F (scan t columns) ss → Owes F at inputs s (scan t columns) ss
        none [] n good known small = scan_makes F at s sound t columns good
        none (x ∷ ss) n good known small = absurd (omega arith)
    by (project ns) good = over_one (project ns) good.inputs good (λ g st known small. project_makes F at s sound i st known.1.0 ns g)
    by (select es) good = over_one (select es) good.inputs good (λ g st known small. select_makes F at s sound i st known.1.0 es g small)
    by (hstack es) good = over_one (hstack es) good.inputs good (λ g st known small. hstack_makes F at s sound i st known.1.0 es g small)
    by (filter e) good = over_one (filter e) good.inputs good (λ g st known small. filtered F at s sound i st known.1.0 e g small)
    by (slice offset n) good = over_one (slice offset n) good.inputs good (λ g st known small. slice_makes F at i s f sound st offset n)
    by (sink target) good = over_one (sink target) good.inputs good (λ g st known small. sink_makes F at s sound i st known.1.0 target g)
    by (row_index name offset) good =
        over_one (row_index name offset) good.inputs good
        (λ g st known small. direct F at s sound i st known.1.0 (with_row_index name offset) (row_index name offset) refl tt
        (record { schema = refl; not_empty = good_some F (row_index name offset) (f ∷ []) g; kinds = refl; rules = good_rules F (row_index name offset) (f ∷ []) g }))
    by (user n) good = over_one (user n) good.inputs good (λ g st known small. user_makes F at s sound i st known.1.0 n g)
    by (sort o) good =
        over_one (sort o) good.inputs good
        (λ g st known small. same_makes F at (in_memory_map (sort o)) i s f sound st refl tt (record { schema = refl; not_empty = good_some F (sort o) (f ∷ []) g; kinds = g.typed.kinds; rules = good_rules F (sort o) (f ∷ []) g }))
    by (union cut) good = λ known small. union_makes F at s sound inputs ss streams cut good
    by hconcat good = λ known small. zip_makes F at s sound inputs ss streams good
    by (cache id) good = over_one (cache id) good.inputs good (λ g st known small. makes_none F s i f sound st)
    by (group_by o) good = over_one (group_by o) good.inputs good (λ g st known small. group_makes F at i s sound st known.1.0 o (group_well F at s sound i st known.1.0 o g known.0) small)
    by (join o) good =
        let t = two_inputs s.nodes inputs ss streams good.inputs in
        subst (Owes F at inputs s (join o)) (sym t.are_both) (λ known small. join_makes F at s sound i (second_stream inputs) t.left t.right o known.1.0 known.1.1.0 known.0 (subst (IsGoodStep F (join o)) t.are_both good) small)
    by (distinct o) good = over_one (distinct o) good.inputs good (λ g st known small. distinct_makes F at s sound i st known.1.0 o g small)
    by (left_out what) good = absurd good.inputs

pub steps_stay_sound : StepsStaySound
steps_stay_sound F at step ss inputs s good sound streams known small = let m = step_makes F at step ss inputs s good sound streams known small in (m.sound, m.stream)
