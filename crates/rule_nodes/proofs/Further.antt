-- Filters and further columns, whose expressions are lowered together with all columns.
use Rattle.std.proofs.Common.{◌≡◌, ◌≢◌, ℕ, ◌≤◌, ◌^◌, true, false, not, List, [], ◌∷◌, ◌++◌, length, drop, Some, None, refl, sym, ap, subst, ◌∙◌, arith}
use Rattle.std.specs.Prelude.{IsTrue, Option, is_some, map, unwrap_or}
use Rattle.std.specs.List.{AllByRecursion, list_all, list_any}
use Rattle.std.proofs.Math.Seq.{drop-append_seam}
use Rattle.std.proofs.lemmas.List.{length-map}
use Rattle.ps_frame.proofs.Lists.{and_both, both}
use Rattle.ps_frame.specs.Frames.{has_distinct_names}
use Rattle.ps_frame.specs.Functions.{Functions}
use Rattle.ps_frame.specs.Refusals.{has_kind_where, is_not}
use Rattle.ps_frame.specs.Tables.{Fields, field_kind}
use Rattle.ps_frame.specs.Trees.{Tree}
use Rattle.ps_frame.specs.Typing.{is_elementwise, is_independent, kind_over}
use Rattle.ps_frame.specs.declared.value.DataType.{DataType}
use Rattle.ps_frame.specs.declared.value.DataType.TheVariants as kind
use Rattle.ps_meaning.specs.Schemas.{expr_names, fields_of, is_among, names_of, put_fields}
use Rattle.ps_meaning.specs.Shape.{filter_node, select_node}
use Rattle.ps_meaning.specs.Sound.{IsSoundButForReaders, have_all_kinds}
use Rattle.ps_meaning.specs.StepRefusals.{repeats}
use Rattle.ps_meaning.specs.Steps.{Name, Named, exprs_of}
use Rattle.ps_meaning.proofs.HStackFits.{put-all}
use Rattle.ps_plan.proofs.TypedKinds.{all-right}
use Rattle.ps_rules.specs.Calls.{Answer, all_independent}
use Rattle.ps_rules.specs.Lowered.{lower_exprs}
use Rattle.ps_rules.specs.Rules.{first_tree}
use Rattle.ps_rules.specs.Slots.{Made, State, Stream, columns_named, over, over_same, schema_at, selected_schema, under, with_columns}
use Rattle.ps_shares.proofs.Ends.{exprs_under, same_fields, under_own}
use Rattle.name_rules.specs.Lawful.{Differ, KeepsRules}
use Rattle.name_rules.proofs.Items.{names_under}
use Rattle.name_rules.proofs.Ruling.{field_names, filter_right, select_right, typed_fields}
use Rattle.name_rules.proofs.Times.{distinct_once, times}
use Rattle.name_rules.proofs.Listing.{list_plain}
use Rattle.plan_rules.specs.Nodes.{expr_or_column, extended_apart, filter_stream}
use Rattle.rule_parts.specs.Good.{IsStream, KnowsNames}
use Rattle.rule_parts.proofs.Columns.{OwnKinds, SameKinds, columns_make, first_kinds, own_found, own_itself, same_own}
use Rattle.rule_parts.proofs.Picks.{Picked, all_found, any_pick, at_has, has_name_of, picked_fields, picked_others, picked_own, picks_plain, puts_new, some_reads, under_plain}
use Rattle.rule_parts.proofs.Positions.{AllFollow, answers_follow, columns_first, follow_count}
use Rattle.rule_parts.proofs.Standing.{Makes, makes_above, makes_then, over_makes, same_makes, sound_distinct, sound_some}
use Rattle.rule_nodes.proofs.Calls.{Answered, exprs_answered}

boolean_is : (o : Option DataType) → is_some o ≡ true → (has_kind_where (is_not kind.Boolean) o ≡ true → ⊥) → o ≡ Some kind.Boolean
boolean_is None h k = cc
boolean_is (Some kind.Boolean) h k = refl
boolean_is (Some kind.Int64) h k = absurd (k refl)
boolean_is (Some kind.IdxSize) h k = absurd (k refl)
boolean_is (Some kind.String) h k = absurd (k refl)

-- all columns and some expressions read the input
columns_read_input : (f : Fields) (es : List Tree) → f ≢ [] → all_independent (columns_named (names_of f) ++ es) ≡ false
columns_read_input [] es some = absurd (some refl)
columns_read_input (x ∷ f) es some = refl

columns_some : (f : Fields) (es : List Tree) → f ≢ [] → columns_named (names_of f) ++ es ≢ []
columns_some [] es some e = some refl
columns_some (x ∷ f) es some e = let w : Tree.column x.0 ∷ (columns_named (names_of f) ++ es) ≡ [] = e in cc

pub own_typed : (f g : Fields) (es : List Tree) → OwnKinds f g → have_all_kinds f es ≡ true → have_all_kinds f (columns_named (names_of g) ++ es) ≡ true
own_typed f [] es own h = h
own_typed f (x ∷ g) es own h = and_both (is_some (field_kind x.0 f)) (have_all_kinds f (columns_named (names_of g) ++ es)) (ap is_some own.0) (own_typed f g es own.1 h)

module _ (F : Functions) (at : ℕ) (input : Stream) (s : State) (sound : IsSoundButForReaders F s.nodes) (stream : IsStream s.nodes input (schema_at s.nodes input)) (known : KnowsNames s.names (schema_at s.nodes input)) where
  abbrev f : Fields
  f = schema_at s.nodes input

  some : f ≢ []
  some = sound_some F s.nodes input f sound stream

  once : has_distinct_names f ≡ true
  once = sound_distinct F s.nodes input f sound stream

  -- What a call for all columns and some expressions leaves: the columns have their kinds over the stream, and stand first among the answers.
  pub record BesideColumns (es : List Tree) (a : Answer) : Type 0 where
    pub answered : Answered F at input s f sound stream known (columns_named (names_of f) ++ es) a
    pub news : List Tree
    pub exprs : a.exprs ≡ columns_named (names_of f) ++ news
    pub follow : AllFollow es news
    pub plain : AllByRecursion (λ e. IsTrue (is_elementwise e)) news
    pub columns : SameKinds answered.schema f (names_of f)
    pub kinds : map (kind_over answered.schema) news ≡ map (kind_over f) es
    pub distinct : has_distinct_names answered.schema ≡ true
    pub some_column : answered.schema ≢ []

  pub beside_columns : (es : List Tree) → have_all_kinds f es ≡ true → (lower_exprs at input (columns_named (names_of f) ++ es) s).state.names.next ≤ 2 ^ 64 → BesideColumns es (lower_exprs at input (columns_named (names_of f) ++ es) s)
  beside_columns es typed small =
      let ns = names_of f in
      let all = columns_named ns ++ es in
      let a = lower_exprs at input all s in
      let r = exprs_answered F at input s f sound stream known all (own_typed f f es (own_itself f once) typed) (columns_some f es some) small in
      let p = answers_follow at input all s (columns_read_input f es some) in
      let q = columns_first ns es p.news p.follow in
      let is : a.exprs ≡ columns_named ns ++ q.news = p.exprs ∙ q.exprs in
      let k = first_kinds r.schema f ns q.news es (ap (map (kind_over r.schema)) (sym is) ∙ r.kinds) in
      record {
        answered = r;
        news = q.news;
        exprs = is;
        follow = q.follow;
        plain = all-right (λ e. IsTrue (is_elementwise e)) (columns_named ns) q.news (subst (AllByRecursion (λ e. IsTrue (is_elementwise e))) is r.plain);
        columns = k.columns;
        kinds = k.others;
        distinct = sound_distinct F a.state.nodes a.stream r.schema r.sound r.stream;
        some_column = sound_some F a.state.nodes a.stream r.schema r.sound r.stream;
      }

  all_own : (es : List Tree) (a : Answer) (b : BesideColumns es a) → OwnKinds b.answered.schema f
  all_own es a b = same_own b.answered.schema f f b.columns (own_itself f once)

  -- a filter, and the columns alone
  module _ (predicate : Tree) (typed : have_all_kinds f (predicate ∷ []) ≡ true) (boolean : has_kind_where (is_not kind.Boolean) (kind_over f predicate) ≡ true → ⊥) where
    abbrev call : Answer
    call = lower_exprs at input (columns_named (names_of f) ++ predicate ∷ []) s

    abbrev above : Tree → Made
    above e = let m = over_same at (filter_node e) call.stream call.state in with_columns at (names_of f) m.stream m.state

    one_filter : (b : BesideColumns (predicate ∷ []) call) (x : Tree) → IsTrue (is_elementwise x) → kind_over b.answered.schema x ≡ kind_over f predicate → Makes F s (above x) f
    one_filter b x plain same =
        let r = b.answered in
        let z = r.schema in
        let is : kind_over z x ≡ Some kind.Boolean = same ∙ boolean_is (kind_over f predicate) (both (is_some (kind_over f predicate)) true typed).0 boolean in
        let m = over_same at (filter_node x) call.stream call.state in
        let k = same_makes F at (filter_node x) call.stream call.state z r.sound r.stream refl plain (filter_right F x z b.some_column (distinct_once z b.distinct) is) in
        makes_then F s call.state r.more (above x) f r.nodes r.names
        (makes_above F call.state m (above x) z f k (columns_make F at m.stream m.state z k.sound k.stream f (own_found z f (all_own (predicate ∷ []) call b)) some once))

    pub filter_makes : call.state.names.next ≤ 2 ^ 64 → Makes F s (filter_stream at predicate input s) f
    filter_makes small = by b.news b.exprs b.follow b.plain b.kinds
      where
        b : BesideColumns (predicate ∷ []) call
        b = beside_columns (predicate ∷ []) typed small

        by : (xs : List Tree) → call.exprs ≡ columns_named (names_of f) ++ xs → AllFollow (predicate ∷ []) xs → AllByRecursion (λ e. IsTrue (is_elementwise e)) xs → map (kind_over b.answered.schema) xs ≡ map (kind_over f) (predicate ∷ []) → Makes F s (filter_stream at predicate input s) f
        by [] e h plain kinds = absurd h
        by (x ∷ y ∷ xs) e h plain kinds = absurd h.1
        by (x ∷ []) e h plain kinds =
            let w : kind_over b.answered.schema x ∷ [] ≡ kind_over f predicate ∷ [] = kinds in
            let same : kind_over b.answered.schema x ≡ kind_over f predicate = cc in
            let columns = columns_named (names_of f) in
            let q : first_tree (drop (length columns) call.exprs) ≡ x = ap (λ (es : List Tree). first_tree (drop (length columns) es)) e ∙ ap first_tree (drop-append_seam columns (x ∷ [])) in
            subst (λ (e : Tree). Makes F s (above e) f) (sym q) (one_filter b x plain.0 same)

  -- further columns, by a select of all output columns
  module _ (es : List Named) (typed : have_all_kinds f (exprs_of es) ≡ true) (differ_names : Differ (expr_names es)) (apart : list_all is_elementwise (exprs_of es) ≡ false) where
    abbrev given : Answer
    given = lower_exprs at input (columns_named (names_of f) ++ exprs_of es) s

    abbrev gs : Fields
    gs = selected_schema es f

    abbrev out : Fields
    out = put_fields f gs

    abbrev picks : List Named → List Named
    picks ms = under (names_of out) (map (expr_or_column ms) (names_of out))

    abbrev selected : List Named → Made
    selected ms = over at (select_node (picks ms) false) out given.stream given.state

    extended : (b : BesideColumns (exprs_of es) given) → out ≢ [] → has_distinct_names out ≡ true → Makes F s (selected (under (expr_names es) b.news)) out
    extended b some_out once_out =
        let r = b.answered in
        let z = r.schema in
        let ms = under (expr_names es) b.news in
        let count = follow_count (exprs_of es) b.news b.follow in
        let names_count = length-map es (λ (e : Named). e.0) in
        let exprs_count = length-map es (λ (e : Named). e.1) in
        let named : expr_names ms ≡ expr_names es = names_under (expr_names es) b.news (omega (arith, count, names_count, exprs_count)) in
        let fields : fields_of ms z ≡ Some gs = same_fields z f (expr_names es) b.news (exprs_of es) b.kinds ∙ ap (λ xs. fields_of xs f) (under_own es) ∙ typed_fields f es typed in
        let found = all_found ms (λ n q. differ_names n (ap (repeats n) (sym named) ∙ q)) in
        let names : names_of gs ≡ expr_names ms = field_names z ms gs fields in
        let picked = put-all (Picked z ms) f gs (picked_own z ms ms gs fields found) once (picked_others z ms f gs names (all_own (exprs_of es) given b)) in
        let whole = picked_fields z ms out picked in
        let pick = expr_or_column ms in
        let width : length (names_of out) ≡ length (map pick (names_of out)) = sym (length-map (names_of out) pick) in
        let own : exprs_of (picks ms) ≡ map pick (names_of out) = exprs_under (names_of out) (map pick (names_of out)) width in
        let own_names : expr_names (picks ms) ≡ names_of out = names_under (names_of out) (map pick (names_of out)) width in
        let plain : list_all is_elementwise (exprs_of (picks ms)) ≡ true = ap (list_all is_elementwise) own ∙ list_plain (map pick (names_of out)) (picks_plain ms (names_of out) (under_plain (expr_names es) b.news b.plain)) in
        let reader = some_reads es b.news b.follow apart in
        let there : is_among reader.item.0 (names_of out) ≡ true = puts_new gs f reader.item.0 (ap (is_among reader.item.0) names ∙ has_name_of ms reader.item reader.has) in
        let is_it : pick reader.item.0 ≡ reader.item.1 = at_has (λ (e : Named). pick e.0 ≡ e.1) ms reader.item found reader.has in
        let reads : list_any (λ e. not (is_independent e)) (exprs_of (picks ms)) ≡ true = ap (list_any (λ e. not (is_independent e))) own ∙ any_pick pick reader.item.0 (names_of out) there (ap is_independent is_it ∙ reader.reads) in
        let kinds : have_all_kinds z (exprs_of (picks ms)) ≡ true = ap (have_all_kinds z) own ∙ kinds_of_picks z ms out picked in
        let schema : selected_schema (picks ms) z ≡ out = ap (λ o. unwrap_or o []) whole in
        let right = select_right F (picks ms) (z ∷ []) (kinds, (λ e. some_out (no_picks out ms (names_of out) refl e)), (λ n. let o = distinct_once out once_out n in let same = ap (times n) own_names in omega (arith, o, same))) in
        makes_then F s given.state r.more (selected ms) out r.nodes r.names
        (over_makes F at (select_node (picks ms) false) given.stream given.state z r.sound r.stream refl (plain, reads) out (subst (λ (g : Fields). KeepsRules F (select_node (picks ms) false) g (z ∷ [])) schema right))
      where
        kinds_of_picks : (z : Fields) (ms : List Named) (xs : Fields) → AllByRecursion (Picked z ms) xs → have_all_kinds z (map (expr_or_column ms) (names_of xs)) ≡ true
        kinds_of_picks z ms [] h = refl
        kinds_of_picks z ms (x ∷ xs) h = and_both (is_some (kind_over z (expr_or_column ms x.0))) (have_all_kinds z (map (expr_or_column ms) (names_of xs))) (ap is_some h.0) (kinds_of_picks z ms xs h.1)

        no_picks : (xs : Fields) (ms : List Named) (ns : List Name) → ns ≡ names_of xs → under ns (map (expr_or_column ms) ns) ≡ [] → xs ≡ []
        no_picks [] ms ns q e = refl
        no_picks (x ∷ xs) ms [] q e = let w : [] ≡ x.0 ∷ names_of xs = q in cc
        no_picks (x ∷ xs) ms (n ∷ ns) q e = let w : (n, expr_or_column ms n) ∷ under ns (map (expr_or_column ms) ns) ≡ [] = e in cc

    pub extended_makes : out ≢ [] → has_distinct_names out ≡ true → given.state.names.next ≤ 2 ^ 64 → Makes F s (extended_apart at es out input s) out
    extended_makes some_out once_out small =
        let b = beside_columns (exprs_of es) typed small in
        let columns = columns_named (names_of f) in
        let q : drop (length columns) given.exprs ≡ b.news = ap (drop (length columns)) b.exprs ∙ drop-append_seam columns b.news in
        subst (λ (xs : List Tree). Makes F s (selected (under (expr_names es) xs)) out) (sym q) (extended b some_out once_out)
