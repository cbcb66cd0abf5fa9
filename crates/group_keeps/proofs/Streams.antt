-- A group-by that streams, whose keys are lowered beside all columns.
use Rattle.std.proofs.Common.{◌≡◌, ◌≢◌, ◌⊎◌, inl, ℕ, suc, ◌+◌, ◌<◌, ◌≤◌, ◌^◌, Bool, true, false, not, cond, ◌&&◌, List, [], ◌∷◌, ◌++◌, length, Option, Some, None, refl, sym, ap, subst, ◌∙◌, arith, length-append}
use Rattle.std.proofs.lemmas.List.{append_assoc, append-nil, length-map, map-append}
use Rattle.std.proofs.lemmas.Option.{same_Some}
use Rattle.std.specs.Prelude.{Contains, fold, is_some, map, slice_get, unwrap_or}
use Rattle.std.specs.List.{AllByRecursion, list_all}
use Rattle.ps_frame.proofs.Lists.{both}
use Rattle.ps_frame.specs.Aggregates.{max_rows}
use Rattle.ps_frame.specs.Causes.{Cause, value}
use Rattle.ps_frame.specs.Frames.{has_distinct_names}
use Rattle.ps_frame.specs.Functions.{Functions}
use Rattle.ps_frame.specs.Tables.{Fields, Table, field_index, field_kind, no_rows, table_column, values_at_some}
use Rattle.ps_frame.specs.Trees.{Tree}
use Rattle.ps_frame.specs.Typing.{kind_over}
use Rattle.ps_frame.specs.declared.value.DataType.{DataType}
use Rattle.ps_frame.specs.declared.value.Value.{Value}
use Rattle.ps_meaning.specs.Cases.{Case, GivesBeforeCut, IsCaseBrokenBy, out_schema}
use Rattle.ps_meaning.specs.Distinct.{picked, places_in}
use Rattle.ps_meaning.specs.Meaning.{IsLargeCase}
use Rattle.ps_meaning.specs.Schemas.{both as both_of, expr_names, fields_of, named_fields, names_of}
use Rattle.ps_meaning.specs.Shape.{IsPhysicalChoice, PhysicalNode, group_by_node}
use Rattle.ps_meaning.specs.Sound.{schema_at as schema_there}
use Rattle.ps_meaning.specs.Steps.{GroupStep, Name, Named, exprs_of, group_by}
use Rattle.ps_meaning.specs.Within.{EndAlike}
use Rattle.ps_meaning.proofs.StepFits.{fields-split, not-true, same-name}
use Rattle.ps_plan.specs.Lowering.{HasRowsOf}
use Rattle.ps_rules.specs.Calls.{Answer, all_independent, exprs_of_all}
use Rattle.ps_rules.specs.Lowered.{as_operand, lower_exprs, select_stream}
use Rattle.ps_rules.specs.Rules.{NamedOperand, are_own_columns, computed, names_of_items, operands_of}
use Rattle.ps_rules.specs.Slots.{Made, State, Stream, columns_named, over_selected, schema_at, schema_or_none, selected_schema, under, with_columns, without_input}
use Rattle.ps_shares.specs.Kept.{IsReady}
use Rattle.ps_shares.specs.Leaves.{IsSameIn, ReadsAll}
use Rattle.ps_shares.proofs.Agreeing.{same_kind}
use Rattle.ps_shares.proofs.Ends.{exprs_under, same_fields, under_own}
use Rattle.ps_shares.proofs.Stands.{HasKind, typed_reads}
use Rattle.plan_rules.specs.Groups.{can_stream, columns_over, group_stream, mapped_groups, own_columns, streamed_groups}
use Rattle.plan_rules.specs.Reductions.{Split, is_made_of_reductions, with_aggregate}
use Rattle.plan_rules.specs.Slices.{cut_stream}
use Rattle.step_keeps.specs.Kept.{EndsAsStep, IsKeptStep, IsPlainReduction, KeepsStep, ShowsOnlyStep, SomeIsLarge}
use Rattle.step_keeps.proofs.Added.{restricted}
use Rattle.step_keeps.proofs.Composed.{alike_then}
use Rattle.step_keeps.proofs.Cuts.{cut_keeps}
use Rattle.step_keeps.proofs.One.{last_node, last_there, plain_means}
use Rattle.step_keeps.proofs.OwnColumns.{all_fields, own_table}
use Rattle.keyed_calls.proofs.Alike.{of_named}
use Rattle.keyed_calls.specs.Keyed.{KeyedAlike}
use Rattle.keyed_calls.proofs.Asked.{Makes, makes, own_schema, answer_schema}
use Rattle.keyed_calls.proofs.Calls.{alike_before, keys_before, shows_before}
use Rattle.keyed_calls.proofs.Projecting.{IsNamed, Projects, is_named, projects}
use Rattle.keyed_calls.proofs.Told.{Adds, IsFed, Tells, adds_node, adds_then, fed_later, one_fed, tells_step, tells_then}
use Rattle.group_keeps.proofs.Groups.{case_alike, case_schema, free_group, same_causes, same_sizes, shown_breaks, to_large}
use Rattle.group_keeps.proofs.ReadNames.{reads_map}
use Rattle.group_keeps.proofs.Wide.{case_wide}

-- the names of the fields of expressions, and that each of these has a kind
fields_names : (es : List Named) (s fs : Fields) → fields_of es s ≡ Some fs → names_of fs ≡ expr_names es
fields_names [] s fs e = ap names_of (sym (same_Some [] fs e))
fields_names (x ∷ es) s fs e = by (kind_over s x.1) (fields_of es s) e (fields_names es s)
  where
    by : (o : Option DataType) (r : Option Fields) → both_of (λ (k : DataType) (gs : Fields). (x.0, k) ∷ gs) o r ≡ Some fs → ((gs : Fields) → r ≡ Some gs → names_of gs ≡ expr_names es) → names_of fs ≡ x.0 ∷ expr_names es
    by None None e more = cc
    by None (Some gs) e more = cc
    by (Some k) None e more = cc
    by (Some k) (Some gs) e more = ap names_of (sym (same_Some ((x.0, k) ∷ gs) fs e)) ∙ ap (λ ms. x.0 ∷ ms) (more gs refl)

fields_typed : (es : List Named) (s fs : Fields) → fields_of es s ≡ Some fs → AllByRecursion (ReadsAll (HasKind s)) (exprs_of es)
fields_typed [] s fs e = tt
fields_typed (x ∷ es) s fs e = by (kind_over s x.1) refl (fields_of es s) e (fields_typed es s)
  where
    by : (o : Option DataType) → kind_over s x.1 ≡ o → (r : Option Fields) → both_of (λ (k : DataType) (gs : Fields). (x.0, k) ∷ gs) o r ≡ Some fs → ((gs : Fields) → r ≡ Some gs → AllByRecursion (ReadsAll (HasKind s)) (exprs_of es)) → AllByRecursion (ReadsAll (HasKind s)) (exprs_of (x ∷ es))
    by None q None e more = cc
    by None q (Some gs) e more = cc
    by (Some k) q None e more = cc
    by (Some k) q (Some gs) e more = (typed_reads s x.1 (ap is_some q), more gs refl)

-- the same kinds over two schemas
kinds_alike : (s f : Fields) → AllByRecursion (λ n. field_kind n f ≡ field_kind n s) (names_of s) → (es : List Tree) → AllByRecursion (ReadsAll (HasKind s)) es → map (kind_over f) es ≡ map (kind_over s) es
kinds_alike s f same [] reads = refl
kinds_alike s f same (e ∷ es) reads =
    let p = same_kind (no_rows f []) (no_rows s []) e (reads_map (HasKind s) (IsSameIn (no_rows f []) (no_rows s [])) (λ n h. record { column = empty n; kind = of_named (λ n. field_kind n f ≡ field_kind n s) s n h same }) e reads.0) in
    let q = kinds_alike s f same es reads.1 in
    λ i. p i ∷ q i
  where
    none : (o : Option ℕ) → values_at_some o [] ≡ []
    none None = refl
    none (Some k) = refl

    empty : (n : Name) → table_column n (no_rows f []) ≡ table_column n (no_rows s [])
    empty n = let l = none (field_index n f) in let r = none (field_index n s) in λ i. record { cells = map value ((l ∙ sym r) i); broken = []; lost = [] }

-- a select of columns under their own names
module _ (at : ℕ) (i : Stream) where
  abbrev items : List Name → List NamedOperand
  items ns = map (λ (e : Named). (e.0, as_operand at i e.1)) (own_columns ns)

  own_exprs : (ns : List Name) → exprs_of_all (operands_of (items ns)) ≡ columns_named ns
  own_exprs [] = refl
  own_exprs (n ∷ ns) = ap (λ (es : List Tree). Tree.column n ∷ es) (own_exprs ns)

  own_items : (ns : List Name) → are_own_columns (items ns) ≡ true
  own_items [] = refl
  own_items (n ∷ ns) = ap (λ (b : Bool). b && are_own_columns (items ns)) (same-name n) ∙ own_items ns

  own_names : (ns : List Name) → names_of_items (items ns) ≡ ns
  own_names [] = refl
  own_names (n ∷ ns) = ap (λ (ms : List Name). n ∷ ms) (own_names ns)

  reads_some : (ns : List Name) → ns ≢ [] → all_independent (columns_named ns) ≡ false
  reads_some [] some = absurd (some refl)
  reads_some (n ∷ ns) some = refl

  own_select : (ns : List Name) → ns ≢ [] → (s : State) → select_stream at i (own_columns ns) s ≡ with_columns at ns i s
  own_select ns some s =
      let xs = items ns in
      ap (λ (b : Bool). cond {A = State → Made} b (without_input at (under (names_of_items xs) (exprs_of_all (operands_of xs)))) (cond {A = State → Made} (are_own_columns xs) (with_columns at (names_of_items xs) i) (computed at i xs)) s) (ap all_independent (own_exprs ns) ∙ reads_some ns some)
      ∙ ap (λ (b : Bool). cond {A = State → Made} b (with_columns at (names_of_items xs) i) (computed at i xs) s) (own_items ns)
      ∙ ap (λ (ms : List Name). with_columns at ms i s) (own_names ns)

both_own : (ms ns : List Name) → own_columns ms ++ own_columns ns ≡ own_columns (ms ++ ns)
both_own [] ns = refl
both_own (m ∷ ms) ns = ap (λ (es : List Named). (m, Tree.column m) ∷ es) (both_own ms ns)

-- reductions stay whole
split_plain : (es : List Named) → AllByRecursion (λ (e : Named). IsPlainReduction e.1) es → (x : Split)
    → fold with_aggregate x es ≡ record { names = x.names; reductions = x.reductions ++ es; above = x.above ++ own_columns (expr_names es) }
split_plain [] all x = λ j. record { names = x.names; reductions = sym (append-nil x.reductions) j; above = sym (append-nil x.above) j }
split_plain ((n, e) ∷ es) all x = one e all.0 ∙ split_plain es all.1 (record { names = x.names; reductions = x.reductions ++ (n, e) ∷ []; above = x.above ++ (n, Tree.column n) ∷ [] })
    ∙ (λ j. record { names = x.names; reductions = append_assoc x.reductions ((n, e) ∷ []) es j; above = append_assoc x.above ((n, Tree.column n) ∷ []) (own_columns (expr_names es)) j })
  where
    one : (e : Tree) → IsPlainReduction e → fold with_aggregate (with_aggregate x (n, e)) es ≡ fold with_aggregate (record { names = x.names; reductions = x.reductions ++ (n, e) ∷ []; above = x.above ++ (n, Tree.column n) ∷ [] }) es
    one (Tree.aggregate a e) plain = refl
    one Tree.len plain = refl
    one (Tree.column name) plain = absurd plain
    one (Tree.literal l) plain = absurd plain
    one (Tree.binary o l r) plain = absurd plain
    one (Tree.cast k strict e) plain = absurd plain
    one (Tree.sort d n e) plain = absurd plain
    one (Tree.sort_by d n e by) plain = absurd plain
    one (Tree.gather s e i) plain = absurd plain
    one (Tree.filter e by) plain = absurd plain
    one (Tree.ternary p a b) plain = absurd plain
    one (Tree.function g e) plain = absurd plain
    one (Tree.slice e o l) plain = absurd plain
    one (Tree.left_out w) plain = absurd plain
    one Tree.missing plain = absurd plain

-- names over more expressions than there are names
under_first : (ns : List Name) (xs more : List Tree) → length ns ≡ length xs → under ns (xs ++ more) ≡ under ns xs
under_first [] xs more e = refl
under_first (n ∷ ns) [] more e = absurd (omega (arith, e))
under_first (n ∷ ns) (x ∷ xs) more e = ap (λ (es : List Named). (n, x) ∷ es) (under_first ns xs more (omega (arith, e)))

names_under : (ns : List Name) (xs : List Tree) → length ns ≡ length xs → expr_names (under ns xs) ≡ ns
names_under [] xs e = refl
names_under (n ∷ ns) [] e = absurd (omega (arith, e))
names_under (n ∷ ns) (x ∷ xs) e = ap (λ (ms : List Name). n ∷ ms) (names_under ns xs (omega (arith, e)))

as_many : (es : List Named) → length (expr_names es) ≡ length (exprs_of es)
as_many [] = refl
as_many (e ∷ es) = ap suc (as_many es)

all_plain : (es : List Named) → AllByRecursion (λ (e : Named). IsPlainReduction e.1) es → AllByRecursion IsPlainReduction (exprs_of es)
all_plain [] all = tt
all_plain (e ∷ es) all = (all.0, all_plain es all.1)

-- what streams keeps no order of its groups
module _ (o : GroupStep) (streams : can_stream o ≡ true) where
  free_order : o.maintain_order ≡ false
  free_order =
      let last = both (not o.maintain_order && not (all_independent (exprs_of o.keys ++ exprs_of o.aggregates))) (list_all is_made_of_reductions (exprs_of o.aggregates)) streams in
      let first = both (not o.maintain_order) (not (all_independent (exprs_of o.keys ++ exprs_of o.aggregates))) last.0 in
      not-true o.maintain_order first.0

  pub gives_as : (F : Functions) (at : ℕ) (ts : List Table) (U : Table) → GivesBeforeCut F at (group_by (free_group o.keys o.aggregates)) ts U → GivesBeforeCut F at (group_by o) ts U
  gives_as F at ts U h = subst (λ (m : Bool). GivesBeforeCut F at (group_by (record { keys = o.keys; aggregates = o.aggregates; maintain_order = m; cut = o.cut })) ts U) (sym free_order) h

-- The node alone: the keys are lowered beside all columns, grouped, and reduced.
module _ (F : Functions) (at : ℕ) (schema : Fields) (s : State) (i : Stream) (o : GroupStep) (plain : AllByRecursion (λ (e : Named). IsPlainReduction e.1) o.aggregates) (some : schema_at s.nodes i ≢ []) (fields : fields_of (o.keys ++ o.aggregates) (schema_at s.nodes i) ≡ Some schema)
    (ready : IsReady s i (exprs_of o.keys ++ columns_over i s)) (low : (lower_exprs at i (exprs_of o.keys ++ columns_over i s) s).state.names.next ≤ 2 ^ 64) where
  abbrev es : List Tree
  es = exprs_of o.keys ++ columns_over i s

  abbrev call : Answer
  call = lower_exprs at i es s

  abbrev knames : List Name
  knames = expr_names o.keys

  abbrev ns : List Name
  ns = knames ++ expr_names o.aggregates

  abbrev news : List Named
  news = under knames call.exprs

  abbrev node : PhysicalNode
  node = record { kind = group_by_node news o.aggregates; schema = selected_schema (news ++ o.aggregates) (schema_at call.state.nodes call.stream); origin = at; inputs = call.stream ∷ [] }

  abbrev g : Made
  g = over_selected at (group_by_node news o.aggregates) (news ++ o.aggregates) call.stream call.state

  -- what was answered for the keys
  abbrev xs : List Tree
  xs = (keys_before F at i s (exprs_of o.keys) some ready).0

  news_are : news ≡ under knames xs
  news_are =
      let k = keys_before F at i s (exprs_of o.keys) some ready in
      ap (under knames) k.1 ∙ under_first knames k.0 (columns_over i s) (as_many o.keys ∙ sym k.2)

  exprs_are : exprs_of news ≡ xs
  exprs_are = let k = keys_before F at i s (exprs_of o.keys) some ready in ap exprs_of news_are ∙ exprs_under knames xs (as_many o.keys ∙ sym k.2)

  names_are : expr_names news ≡ knames
  names_are = let k = keys_before F at i s (exprs_of o.keys) some ready in ap expr_names news_are ∙ names_under knames xs (as_many o.keys ∙ sym k.2)

  lowered : Makes F at i s es ready
  lowered = makes F at i s es ready

  first_adds : Adds at s.nodes (i ∷ []) call.state.nodes
  first_adds = record { more = lowered.more; nodes = lowered.nodes; made = lowered.made }

  over_fed : (j : Stream) → Contains (call.stream ∷ []) j → IsFed s.nodes (i ∷ []) j
  over_fed = one_fed s.nodes (i ∷ []) call.stream lowered.fed

  mid_adds : Adds at s.nodes (i ∷ []) g.state.nodes
  mid_adds = adds_node at s.nodes call.state.nodes (i ∷ []) first_adds node refl over_fed

  g_fed : IsFed s.nodes (i ∷ []) g.stream
  g_fed = inl (let l = ap length first_adds.nodes ∙ length-append s.nodes first_adds.more in omega arith)

  mid_fed : (j : Stream) → Contains (g.stream ∷ []) j → IsFed s.nodes (i ∷ []) j
  mid_fed = one_fed s.nodes (i ∷ []) g.stream g_fed

  abbrev uncut : GroupStep
  uncut = free_group o.keys o.aggregates

  abbrev given : GroupStep
  given = free_group news o.aggregates

  module _ (tables : ℕ → Table) (chosen : IsPhysicalChoice F g.state.nodes tables) (rows : HasRowsOf (schema_there (slice_get s.nodes i.0)) (tables i.0)) where
    abbrev T : Table
    T = tables i.0

    abbrev Z : Table
    Z = tables call.stream.0

    abbrev S : Table
    S = tables g.stream.0

    chosen_first : IsPhysicalChoice F call.state.nodes tables
    chosen_first = restricted F call.state.nodes g.state.nodes (node ∷ []) refl tables chosen

    own : schema_at s.nodes i ≡ T.schema
    own = own_schema F at i s es ready low tables chosen_first rows

    alike : KeyedAlike at (names_of T.schema) (exprs_of o.keys) (exprs_of news) T Z
    alike =
        subst (λ (f : Fields). KeyedAlike at (names_of f) (exprs_of o.keys) (exprs_of news) T Z) own
        (subst (λ (ys : List Tree). KeyedAlike at (names_of (schema_at s.nodes i)) (exprs_of o.keys) ys T Z) (sym exprs_are) (alike_before F at i s (exprs_of o.keys) some ready low tables chosen_first rows))

    fields_T : fields_of (o.keys ++ o.aggregates) T.schema ≡ Some schema
    fields_T = ap (fields_of (o.keys ++ o.aggregates)) (sym own) ∙ fields

    reads : AllByRecursion (ReadsAll (HasKind T.schema)) (exprs_of o.aggregates)
    reads = let parts = fields-split o.keys o.aggregates T.schema schema fields_T in fields_typed o.aggregates T.schema parts.1 parts.3

    count : length (exprs_of news) ≡ length (exprs_of o.keys)
    count = ap length exprs_are ∙ (keys_before F at i s (exprs_of o.keys) some ready).2

    fields_Z : fields_of (news ++ o.aggregates) Z.schema ≡ Some schema
    fields_Z =
        let kinds : map (kind_over Z.schema) (exprs_of (news ++ o.aggregates)) ≡ map (kind_over T.schema) (exprs_of (o.keys ++ o.aggregates)) =
        ap (map (kind_over Z.schema)) (map-append (λ (e : Named). e.1) news o.aggregates) ∙ map-append (kind_over Z.schema) (exprs_of news) (exprs_of o.aggregates)
        ∙ (λ j. alike.kinds j ++ kinds_alike T.schema Z.schema alike.same_kinds (exprs_of o.aggregates) reads j)
        ∙ sym (map-append (kind_over T.schema) (exprs_of o.keys) (exprs_of o.aggregates)) ∙ sym (ap (map (kind_over T.schema)) (map-append (λ (e : Named). e.1) o.keys o.aggregates)) in
        let names : expr_names (news ++ o.aggregates) ≡ expr_names (o.keys ++ o.aggregates) = map-append (λ (e : Named). e.0) news o.aggregates ∙ ap (λ (ms : List Name). ms ++ expr_names o.aggregates) names_are ∙ sym (map-append (λ (e : Named). e.0) o.keys o.aggregates) in
        ap (λ (es : List Named). fields_of es Z.schema) (sym (under_own (news ++ o.aggregates)))
        ∙ ap (λ (ms : List Name). fields_of (under ms (exprs_of (news ++ o.aggregates))) Z.schema) names
        ∙ same_fields Z.schema T.schema (expr_names (o.keys ++ o.aggregates)) (exprs_of (news ++ o.aggregates)) (exprs_of (o.keys ++ o.aggregates)) kinds
        ∙ ap (λ (es : List Named). fields_of es T.schema) (under_own (o.keys ++ o.aggregates)) ∙ fields_T

    out_T : out_schema F at (group_by uncut) (T ∷ []) ≡ schema
    out_T = ap (λ r. unwrap_or r []) fields_T

    out_Z : out_schema F at (group_by given) (Z ∷ []) ≡ schema
    out_Z = ap (λ r. unwrap_or r []) fields_Z

    stage : EndsAsStep F at (group_by given) (Z ∷ []) S × ShowsOnlyStep F call.state.nodes g.state.nodes tables at (group_by given) (Z ∷ [])
    stage = plain_means F at (group_by given) (group_by_node news o.aggregates) node.schema (call.stream ∷ []) refl (λ ts. refl) refl call.state.nodes tables chosen

    abbrev L : Table
    L = stage.0.table.0

    k : (K : Table) × Case F at (group_by uncut) (T ∷ []) K × EndAlike L K
    k = case_alike F at o.keys o.aggregates T schema out_T news Z count alike (all_plain o.aggregates plain) reads out_Z L stage.0.table.1

    ends : EndAlike S k.0
    ends = alike_then S L k.0 stage.0.table.2 k.2

    names_out : names_of schema ≡ ns
    names_out = fields_names (o.keys ++ o.aggregates) T.schema schema fields_T ∙ map-append (λ (e : Named). e.0) o.keys o.aggregates

    S_schema : S.schema ≡ schema
    S_schema = stage.0.table.2.same_schema ∙ case_schema F at news o.aggregates Z schema out_Z L stage.0.table.1

    has : schema_at g.state.nodes g.stream ≡ S.schema
    has = ap schema_or_none (last_node call.state.nodes node) ∙ ap (λ (f : Fields). unwrap_or (fields_of (news ++ o.aggregates) f) []) (sym (answer_schema F at i s es ready low tables chosen_first rows)) ∙ ap (λ r. unwrap_or r []) fields_Z ∙ sym S_schema

    many : length (exprs_of news) + length (exprs_of o.aggregates) ≡ length schema
    many = (λ j. count j + length (exprs_of o.aggregates)) ∙ (λ j. sym (as_many o.keys) j + sym (as_many o.aggregates) j) ∙ sym (length-append knames (expr_names o.aggregates)) ∙ sym (ap length names_out) ∙ length-map schema (λ (f : Name × DataType). f.0)

    wide : AllByRecursion (λ (row : List Value). length row ≡ length S.schema) S.rows
    wide =
        subst (λ n. AllByRecursion (λ (row : List Value). length row ≡ n) S.rows) (many ∙ sym (ap length S_schema))
        (subst (AllByRecursion (λ (row : List Value). length row ≡ length (exprs_of news) + length (exprs_of o.aggregates))) (sym stage.0.table.2.same_rows) (case_wide F at news o.aggregates Z L stage.0.table.1))

    abbrev Bad : Cause → Type 0
    Bad c = IsCaseBrokenBy F at (group_by uncut) (T ∷ []) c

    abbrev Large' : Type 0
    Large' = IsLargeCase F at (group_by uncut) (T ∷ []) ⊎ SomeIsLarge (T ∷ [])

    abbrev small_aggs : AllByRecursion IsPlainReduction (exprs_of o.aggregates)
    small_aggs = all_plain o.aggregates plain

    first_tells : Tells F tables Bad Large' s.nodes call.state.nodes
    first_tells =
        let h = shows_before F at i s (exprs_of o.keys) some ready low tables chosen_first rows in
        record {
          causes = λ n U c le lt may has. shown_breaks F at o.keys o.aggregates T schema out_T c (h.causes n U c le lt may has);
          sizes = λ n le lt large. to_large F at o.keys o.aggregates T schema out_T (h.sizes n le lt large);
        }

    mid_tells : Tells F tables Bad Large' call.state.nodes g.state.nodes
    mid_tells =
        tells_step F tables Bad Large' at (group_by given) (Z ∷ []) call.state.nodes g.state.nodes stage.1 (same_causes F at o.keys o.aggregates T schema out_T news Z count alike small_aggs reads out_Z)
        (same_sizes F at o.keys o.aggregates T schema out_T news Z count alike small_aggs reads out_Z)

    node_means : EndsAsStep F at (group_by uncut) (T ∷ []) S × ShowsOnlyStep F s.nodes g.state.nodes tables at (group_by uncut) (T ∷ [])
    node_means =
        let told = tells_then F tables Bad Large' s.nodes call.state.nodes g.state.nodes (node ∷ []) refl first_tells mid_tells in (
          record { table = (k.0, k.1, ends); causes = λ c h. same_causes F at o.keys o.aggregates T schema out_T news Z count alike small_aggs reads out_Z c (stage.0.causes c h) },
          record { causes = told.causes; sizes = told.sizes },
        )

  pub node_keeps : KeepsStep F at (group_by uncut) s g.state (i ∷ []) g.stream
  node_keeps =
      record {
        more = mid_adds.more;
        nodes = mid_adds.nodes;
        made = mid_adds.made;
        there = last_there call.state.nodes node;
        fed = g_fed;
        meaning = λ tables chosen rows. node_means tables chosen rows.0;
      }

  -- With a select of all its columns, and the slice, the node is the whole group-by.
  module _ (streams : can_stream o ≡ true) (some_key : o.keys ≢ []) (distinct : has_distinct_names schema ≡ true) where
    abbrev w : Made
    w = with_columns at ns g.stream g.state

    not_none : (keys : List Named) (more : List Name) → keys ≢ [] → expr_names keys ++ more ≢ []
    not_none [] more some = absurd (some refl)
    not_none (k ∷ keys) more some = λ e. cc

    -- the group-by, the select above it and the slice
    abbrev made_of : Split → Made
    made_of split =
        let h = over_selected at (group_by_node news split.reductions) (news ++ split.reductions) call.stream (record call.state { names = split.names }) in
        let above = select_stream at h.stream (own_columns knames ++ split.above) h.state in
        cut_stream at o.cut above.stream above.state

    made_is : group_stream at o i s ≡ cut_stream at o.cut w.stream w.state
    made_is =
        let apart = split_plain o.aggregates plain (record { names = call.state.names; reductions = []; above = [] }) in
        let above = ap (λ (es : List Named). select_stream at g.stream es g.state) (both_own knames (expr_names o.aggregates)) ∙ own_select at g.stream ns (not_none o.keys (expr_names o.aggregates) some_key) g.state in
        ap (λ (b : Bool). cond {A = Stream → State → Made} b (streamed_groups at o) (mapped_groups at o) i s) streams ∙ ap made_of apart ∙ ap (λ (m : Made). cut_stream at o.cut m.stream m.state) above

    projected : Projects F at ns g.stream g.state (last_there call.state.nodes node) w
    projected = projects F at ns g.stream g.state (last_there call.state.nodes node)

    module _ (tables : ℕ → Table) (chosen : IsPhysicalChoice F w.state.nodes tables) (rows : HasRowsOf (schema_there (slice_get s.nodes i.0)) (tables i.0)) where
      abbrev P : Table
      P = tables g.stream.0

      abbrev step_tables : List Table
      step_tables = tables i.0 ∷ []

      abbrev Shows : Cause → Type 0
      Shows c = IsCaseBrokenBy F at (group_by uncut) step_tables c

      abbrev IsLarge : Type 0
      IsLarge = IsLargeCase F at (group_by uncut) step_tables ⊎ SomeIsLarge step_tables

      chosen_mid : IsPhysicalChoice F g.state.nodes tables
      chosen_mid = restricted F g.state.nodes w.state.nodes projected.adds.more projected.adds.nodes tables chosen

      below : EndsAsStep F at (group_by uncut) step_tables P × ShowsOnlyStep F s.nodes g.state.nodes tables at (group_by uncut) step_tables
      below = node_keeps.meaning tables chosen_mid (rows, tt)

      P_names : names_of schema ≡ ns
      P_names = names_out tables chosen_mid rows

      P_schema : P.schema ≡ schema
      P_schema = S_schema tables chosen_mid rows

      P_wide : AllByRecursion (λ (row : List Value). length row ≡ length P.schema) P.rows
      P_wide = wide tables chosen_mid rows

      named_so : named_fields ns P.schema ≡ Some schema
      named_so = ap (λ ms. named_fields ms P.schema) (sym P_names) ∙ ap (named_fields (names_of schema)) P_schema ∙ all_fields schema distinct

      named : IsNamed F at ns g.stream g.state (last_there call.state.nodes node) tables schema (has tables chosen_mid rows) named_so distinct P_names P_wide w
      named = is_named F at ns g.stream g.state (last_there call.state.nodes node) tables schema (has tables chosen_mid rows) named_so distinct P_names P_wide chosen

      -- the table of the node is large only where its step is, or what it reads
      P_small : max_rows < length P.rows → IsLarge
      P_small long = below.1.sizes g.stream.0 (let l = ap length first_adds.nodes ∙ length-append s.nodes first_adds.more in omega arith) (last_there call.state.nodes node) (inl (P, inl refl, long))

      last_tells : Tells F tables Shows IsLarge g.state.nodes w.state.nodes
      last_tells = record { causes = λ n U c le lt may has. below.0.causes c (named.tells.causes n U c le lt may has); sizes = λ n le lt large. P_small (named.tells.sizes n le lt large) }

      -- all columns of the node's table, in order, are its table
      same_rows : map (picked (places_in ns P.schema)) P.rows ≡ P.rows
      same_rows =
          ap (λ ms. map (picked (places_in ms P.schema)) P.rows) (sym P_names ∙ sym (ap names_of P_schema))
          ∙ ap (λ (U : Table). U.rows) (own_table P.schema P refl (ap has_distinct_names P_schema ∙ distinct) P_wide)

      means : EndsAsStep F at (group_by uncut) step_tables (tables w.stream.0) × ShowsOnlyStep F s.nodes w.state.nodes tables at (group_by uncut) step_tables
      means =
          let told = tells_then F tables Shows IsLarge s.nodes g.state.nodes w.state.nodes projected.adds.more projected.adds.nodes (record { causes = below.1.causes; sizes = below.1.sizes }) last_tells in
          let R = tables w.stream.0 in
          let t = below.0.table in (
            record {
              table = (t.0, t.1, alike_then R P t.0 (record { same_schema = named.schema ∙ sym P_schema; same_rows = named.rows ∙ same_rows; both_whole = named.whole }) t.2);
              causes = λ c h. below.0.causes c (named.causes c h);
            },
            record { causes = told.causes; sizes = told.sizes },
          )

    uncut_keep : KeepsStep F at (group_by uncut) s w.state (i ∷ []) w.stream
    uncut_keep =
        let all = adds_then at s.nodes g.state.nodes (i ∷ []) mid_adds w.state.nodes (g.stream ∷ []) mid_fed projected.adds in
        record {
          more = all.more;
          nodes = all.nodes;
          made = all.made;
          there = projected.there;
          fed = fed_later at s.nodes g.state.nodes (i ∷ []) mid_adds (g.stream ∷ []) mid_fed w.stream projected.fed;
          meaning = λ tables chosen rows. means tables chosen rows.0;
        }

    kept : IsKeptStep F at (group_by o) schema (i ∷ []) s
    kept =
        let whole = cut_keeps F at (group_by uncut) (group_by o) (gives_as o streams F at) (λ ts large. large) refl s w.state (i ∷ []) w.stream uncut_keep o.cut refl in
        subst (λ (m : Made). KeepsStep F at (group_by o) s m.state (i ∷ []) m.stream) (sym made_is) whole

pub groups_keep : (F : Functions) (at : ℕ) (schema : Fields) (s : State) (i : Stream) (o : GroupStep) → can_stream o ≡ true → AllByRecursion (λ (e : Named). IsPlainReduction e.1) o.aggregates → o.keys ≢ [] → schema_at s.nodes i ≢ [] → fields_of (o.keys ++ o.aggregates) (schema_at s.nodes i) ≡ Some schema
    → has_distinct_names schema ≡ true → IsReady s i (exprs_of o.keys ++ columns_over i s) → (lower_exprs at i (exprs_of o.keys ++ columns_over i s) s).state.names.next ≤ 2 ^ 64 → IsKeptStep F at (group_by o) schema (i ∷ []) s
groups_keep F at schema s i o streams plain some_key some fields distinct ready low = kept F at schema s i o plain some fields ready low streams some_key distinct
