-- What a call does at a sort by keys.
use Rattle.std.proofs.Common.{◌≡◌, ℕ, suc, ◌≤◌, ◌^◌, Bool, true, false, not, cond, List, [], ◌∷◌, ◌++◌, length, Some, None, refl, sym, ap, subst, ◌∙◌, arith}
use Rattle.std.specs.Prelude.{IsTrue, is_some, unwrap_or, ◌==◌, ◌&&◌, ◌||◌}
use Rattle.std.specs.Cmp.Lexicographic.{bytes_decides}
use Rattle.std.specs.List.{AllByRecursion}
use Rattle.std.specs.Str.{bytes_eq}
use Rattle.ps_frame.proofs.Lists.{and_both}
use Rattle.ps_frame.specs.Causes.{Cause}
use Rattle.ps_frame.specs.Eval.{eval, eval_all}
use Rattle.ps_frame.specs.Frames.{has_distinct_names, has_name}
use Rattle.ps_frame.specs.Functions.{Functions}
use Rattle.ps_frame.specs.Tables.{Fields, Table, field_kind}
use Rattle.ps_frame.specs.Trees.{Tree, Trees}
use Rattle.ps_frame.specs.Typing.{fits_keys, have_kinds, kind_if, kind_over, tree_count}
use Rattle.ps_frame.specs.Zip.{zipped}
use Rattle.ps_frame.specs.declared.value.DataType.{DataType}
use Rattle.ps_frame.specs.declared.value.Value.{Value}
use Rattle.ps_meaning.specs.Cases.{columns_at}
use Rattle.ps_meaning.specs.Schemas.{both as both_of, fields_of, is_among, named_fields, names_of}
use Rattle.ps_meaning.specs.Shape.{IsPhysicalChoice, PhysicalNode, Shape, in_memory_map, simple_projection}
use Rattle.ps_meaning.specs.Steps.{Name, Named, SortStep, sort}
use Rattle.ps_rules.specs.Calls.{Call, Operand, exprs_of_all, given}
use Rattle.ps_rules.specs.Lowered.{as_operand, operands}
use Rattle.ps_rules.specs.Names.{IsKnown, after_fresh}
use Rattle.ps_rules.specs.Rules.{sorted_by}
use Rattle.ps_rules.specs.Slots.{Made, State, Stream, after_name, after_names, columns_named, new_name, new_names, projection, same_names, schema_at, schema_or_none, under}
use Rattle.ps_rules.proofs.Free.{fresh_known, fresh_unknown}
use Rattle.ps_shares.specs.CallLaws.{listed}
use Rattle.ps_shares.specs.Kept.{all_causes}
use Rattle.ps_shares.proofs.Adding.{AllAdd, adds_then, inserted}
use Rattle.ps_shares.proofs.Causes.{all_append}
use Rattle.ps_shares.proofs.Ends.{last_there}
use Rattle.ps_shares.proofs.FlatLength.{both_hold}
use Rattle.ps_shares.proofs.Fresh.{grown_fresh, grown_names, grown_then}
use Rattle.ps_shares.proofs.Growing.{AllGrow, grows_under}
use Rattle.ps_shares.proofs.KeySorts.{all_places, keyed_as as keys_as, trees_columns}
use Rattle.ps_shares.proofs.Members.{Has}
use Rattle.ps_shares.proofs.Projected.{named_as}
use Rattle.ps_shares.proofs.Stands.{some_if}
use Rattle.ps_bundles.specs.Endings.{Ends}
use Rattle.ps_bundles.proofs.Answers.{given_step}
use Rattle.ps_bundles.proofs.Apart.{AllTyped}
use Rattle.ps_bundles.proofs.CallSteps.{StepTo, Steps}
use Rattle.ps_bundles.proofs.Gathered.{Gathered, IsFine, extends_fresh, only_fresh, only_later, own_named, own_stands}
use Rattle.ps_bundles.proofs.NewNodes.{AllOf, Inside, KnownOf, all_of_more, inside_before, last_broken, new_one, new_then, project_all, sort_all, there}
use Rattle.ps_bundles.proofs.Selections.{Selected, same_is, shown}
use Rattle.ps_bundles.proofs.SortSteps.{among_one, cons_some, grown_before, leaf_last, m as select_before, made_before, new_before, selected_before, split_fields, stream_of_one}
use Rattle.ps_bundles.proofs.StepEnds.{as_zip, sort_bys_end}
use Rattle.ps_bundles.proofs.Together.{AllSteps}
use Rattle.ps_bundles.proofs.ZipEnds.{differ}

-- fresh names differ from known ones, and from each other
apart_fresh : (os : List Operand) (s : State) (f : Name) → (after_names os s).names.next ≤ 2 ^ 64 → IsKnown s.names f → is_among f (new_names os s) ≡ false
apart_fresh [] s f small known = refl
apart_fresh (o ∷ os) s f small known = by (bytes_eq f (new_name s)) refl (apart_fresh os (after_name s) f small ((grown_fresh s.names).0 f known))
  where
    le : (after_fresh s.names).next ≤ 2 ^ 64
    le = let g = (grown_names os (after_name s)).1 in omega arith

    by : (b : Bool) → bytes_eq f (new_name s) ≡ b → is_among f (new_names os (after_name s)) ≡ false → (bytes_eq f (new_name s) || is_among f (new_names os (after_name s))) ≡ false
    by true q rest = absurd (fresh_unknown s.names le (subst (λ n. IsKnown s.names n) ((bytes_decides f (new_name s)).0 q) known))
    by false q rest = λ i. q i || rest i

distinct_fresh : (os : List Operand) (s : State) (fs : Fields) → (after_names os s).names.next ≤ 2 ^ 64 → names_of fs ≡ new_names os s → has_distinct_names fs ≡ true
distinct_fresh [] s [] small e = refl
distinct_fresh [] s (g ∷ fs) small e = let w : g.0 ∷ names_of fs ≡ [] = e in cc
distinct_fresh (o ∷ os) s [] small e = let w : [] ≡ new_name s ∷ new_names os (after_name s) = e in cc
distinct_fresh (o ∷ os) s (g ∷ fs) small e =
    let le = (grown_names os (after_name s)).1 in
    let one : (after_fresh s.names).next ≤ 2 ^ 64 = omega arith in
    let w : g.0 ∷ names_of fs ≡ new_name s ∷ new_names os (after_name s) = e in
    let first : g.0 ≡ new_name s = cc in
    let rest : names_of fs ≡ new_names os (after_name s) = cc in
    let apart : has_name g.0 fs ≡ false =
    sym (named_as g.0 fs) ∙ (λ i. is_among (first i) (rest i)) ∙ apart_fresh os (after_name s) (new_name s) small (fresh_known s.names one) in
    and_both (not (has_name g.0 fs)) (has_distinct_names fs) (ap not apart) (distinct_fresh os (after_name s) fs small rest)

-- the names of the fields of a select
fields_names : (ns : List Name) (es : List Tree) (s gs : Fields) → length ns ≡ length es → fields_of (under ns es) s ≡ Some gs → names_of gs ≡ ns
fields_names [] [] s gs l h = let w : Some [] ≡ Some gs = h in let is : [] ≡ gs = cc in ap names_of (sym is)
fields_names [] (e ∷ es) s gs l h = absurd (omega arith)
fields_names (n ∷ ns) [] s gs l h = absurd (omega arith)
fields_names (n ∷ ns) (e ∷ es) s gs l h =
    let f = split_fields n e (under ns es) s gs h in
    ap names_of f.4 ∙ ap (λ ms. n ∷ ms) (fields_names ns es s f.1 (omega arith) f.3)

count_fresh : (os : List Operand) (s : State) → length (new_names os s) ≡ length (exprs_of_all os)
count_fresh [] s = refl
count_fresh (o ∷ os) s = ap suc (count_fresh os (after_name s))

module _ (at : ℕ) (input : Stream) where
  pub operands_listed : (by : Trees) → exprs_of_all (operands at input by) ≡ listed by
  operands_listed Trees.no_trees = refl
  operands_listed (Trees.tree e es) = ap (λ es. e ∷ es) (operands_listed es)

  operands_count : (by : Trees) → length (exprs_of_all (operands at input by)) ≡ tree_count by
  operands_count Trees.no_trees = refl
  operands_count (Trees.tree e es) = ap suc (operands_count es)

module _ (F : Functions) (at : ℕ) (input : Stream) (N : Shape) (tables : ℕ → Table) (choice : IsPhysicalChoice F N tables) (distinct : IsTrue (has_distinct_names (tables input.0).schema))
    (wide : AllByRecursion (λ (row : List Value). length row ≡ length (tables input.0).schema) (tables input.0).rows) where
  abbrev t : Table
  t = tables input.0

  all_typed : (by : Trees) → have_kinds t.schema by ≡ true → AllTyped F at input N tables choice (exprs_of_all (operands at input by))
  all_typed Trees.no_trees h = tt
  all_typed (Trees.tree e es) h = let b = both_hold (is_some (kind_over t.schema e)) (have_kinds t.schema es) h in (b.0, all_typed es b.1)

  module _ (d n : List Bool) (e : Tree) (by : Trees) (adds : AllAdd at input (as_operand at input e ∷ operands at input by)) (grow : AllGrow at input (as_operand at input e ∷ operands at input by))
      (steps : AllSteps F at input N tables choice (as_operand at input e ∷ operands at input by)) (c : Call) (ms : List Named) (asked : List Tree) (causes : List Cause) (fine : IsFine at input tables ms c.state)
      (h : Gathered at input tables ms asked causes c.state c.streams c.reduced c.exprs c.mapped) (typed : IsTrue (is_some (kind_over t.schema (Tree.sort_by d n e by)))) (known : KnownOf causes (eval at t (Tree.sort_by d n e by))) where
    abbrev E : Tree
    E = Tree.sort_by d n e by

    abbrev keys : List Operand
    keys = operands at input by

    abbrev os : List Operand
    os = as_operand at input e ∷ keys

    abbrev f : Name
    f = new_name c.state

    abbrev rest : List Name
    rest = new_names keys (after_name c.state)

    w1 : ((have_kinds t.schema by && not (tree_count by == 0) && fits_keys d (tree_count by) && fits_keys n (tree_count by)) ≡ true) × (is_some (kind_over t.schema e) ≡ true)
    w1 = some_if (have_kinds t.schema by && not (tree_count by == 0) && fits_keys d (tree_count by) && fits_keys n (tree_count by)) (kind_over t.schema e) typed

    w2 : ((have_kinds t.schema by && not (tree_count by == 0) && fits_keys d (tree_count by)) ≡ true) × (fits_keys n (tree_count by) ≡ true)
    w2 = both_hold (have_kinds t.schema by && not (tree_count by == 0) && fits_keys d (tree_count by)) (fits_keys n (tree_count by)) w1.0

    w3 : ((have_kinds t.schema by && not (tree_count by == 0)) ≡ true) × (fits_keys d (tree_count by) ≡ true)
    w3 = both_hold (have_kinds t.schema by && not (tree_count by == 0)) (fits_keys d (tree_count by)) w2.0

    w4 : (have_kinds t.schema by ≡ true) × (not (tree_count by == 0) ≡ true)
    w4 = both_hold (have_kinds t.schema by) (not (tree_count by == 0)) w3.0

    typed_os : AllTyped F at input N tables choice (exprs_of_all os)
    typed_os = (w1.1, all_typed by w4.0)

    abbrev b : Made
    b = select_before F at input N tables choice distinct wide os adds grow steps (cons_some (as_operand at input e) keys) typed_os c ms fine

    abbrev step : SortStep
    step = record { keys = columns_named rest; descending = d; nulls_last = n; cut = None }

    abbrev p : PhysicalNode
    p = record { kind = in_memory_map (sort step); schema = schema_at b.state.nodes b.stream; origin = at; inputs = b.stream ∷ [] }

    abbrev v : State
    v = record { nodes = b.state.nodes ++ p ∷ []; names = b.state.names }

    abbrev j : Stream
    j = (length b.state.nodes, 0)

    abbrev q : PhysicalNode
    q = record { kind = simple_projection (f ∷ []); schema = unwrap_or (named_fields (f ∷ []) (schema_at v.nodes j)) []; origin = at; inputs = j ∷ [] }

    abbrev w : State
    w = record { nodes = v.nodes ++ q ∷ []; names = b.state.names }

    columns_are : columns_at at (exprs_of_all os) t ≡ eval at t e ∷ eval_all at t by
    columns_are = ap (λ es. eval at t e ∷ columns_at at es t) (operands_listed at input by) ∙ ap (λ cs. eval at t e ∷ cs) (trees_columns at t by)

    shows : AllOf causes (shown F at input N tables choice (exprs_of_all os))
    shows =
        subst (λ cs. AllOf causes (all_causes (zipped false at cs))) (sym columns_are)
        (all_append (λ (c : Cause). Has causes c) (zipped false at (eval at t e ∷ eval_all at t by)).broken (zipped false at (eval at t e ∷ eval_all at t by)).lost known.1 known.2)

    module _ (inside : Inside F N tables choice v.nodes) (small : b.state.names.next ≤ 2 ^ 64) where
      sel : Selected F at input N tables choice (new_names os c.state) (exprs_of_all os) (after_names os c.state) b
      sel =
          let k = made_before F at input N tables choice distinct wide os adds grow steps (cons_some (as_operand at input e) keys) typed_os c ms fine in
          let here = inserted b.state p k.0.1 (k.1, tt) in
          selected_before F at input N tables choice distinct wide os adds grow steps (cons_some (as_operand at input e) keys) typed_os c ms fine (inside_before F N tables choice b.state.nodes v.nodes here.0 inside) small

      field : (k : DataType) × (gs : Fields) × (kind_over t.schema e ≡ Some k) × (fields_of (under rest (exprs_of_all keys)) t.schema ≡ Some gs) × (sel.fields ≡ (f, k) ∷ gs)
      field = split_fields f e (under rest (exprs_of_all keys)) t.schema sel.fields sel.are

      names_are : names_of field.1 ≡ rest
      names_are = fields_names rest (exprs_of_all keys) t.schema field.1 (count_fresh keys (after_name c.state)) field.3

      count : length rest ≡ tree_count by
      count = count_fresh keys (after_name c.state) ∙ operands_count at input by

      schema_there : schema_at v.nodes j ≡ (f, field.0) ∷ field.1
      schema_there = ap schema_or_none (last_there b.state.nodes p) ∙ sel.schema ∙ field.4

      -- there is a key, so the sorted table has another column
      never : same_names (f ∷ []) (names_of (schema_at v.nodes j)) ≡ true → ⊥
      never s =
          let is : f ∷ [] ≡ f ∷ rest = same_is F at input N tables choice distinct wide (f ∷ []) (names_of (schema_at v.nodes j)) s ∙ ap names_of schema_there ∙ ap (λ ns. f ∷ ns) names_are in
          let l = ap length is in
          let c = count in
          let z : tree_count by ≡ 0 = omega arith in
          differ (sym (sym (ap (λ n. not (n == 0)) z) ∙ w4.1))

    sorted_to : Inside F N tables choice w.nodes → b.state.names.next ≤ 2 ^ 64 → StepTo F at input N tables choice E c (given (Tree.column f) (length v.nodes, 0) w c) ms asked causes
    sorted_to inside small =
        let k = made_before F at input N tables choice distinct wide os adds grow steps (cons_some (as_operand at input e) keys) typed_os c ms fine in
        let g = grown_before F at input N tables choice distinct wide os adds grow steps (cons_some (as_operand at input e) keys) typed_os c ms fine in
        let here = inserted b.state p k.0.1 (k.1, tt) in
        let last = inserted v q here.0.1 (here.1, tt) in
        let first = inside_before F N tables choice v.nodes w.nodes last.0 inside in
        let s = sel first small in
        let fs = field first small in
        let le = grows_under at input os grow c.state in
        let le' = le.1 in
        let more' = grown_names keys (after_name c.state) in
        let le'' = more'.1 in
        let all_small : (after_names os c.state).names.next ≤ 2 ^ 64 = omega arith in
        let one : (after_fresh c.state.names).next ≤ 2 ^ 64 = omega arith in
        let named = names_are first small in
        let apart : has_distinct_names ((f, fs.0) ∷ fs.1) ≡ true = distinct_fresh os c.state ((f, fs.0) ∷ fs.1) all_small (ap (λ ns. f ∷ ns) named) in
        let P = tables b.stream.0 in
        let S = tables (length b.state.nodes) in
        let R = tables (length v.nodes) in
        let own = choice (length b.state.nodes) p (there F N tables choice b.state.nodes p first) in
        let own' = choice (length v.nodes) q (there F N tables choice v.nodes q inside) in
        let ends = subst (λ cs. Ends at P cs) columns_are s.ends in
        let r = sort_bys_end F at f rest d n e by fs.0 fs.1 t P S R named (count first small) (s.table_schema ∙ fs.4) apart ends own own' in
        let keyed_is = keys_as F at f rest d n e by fs.0 fs.1 t P S R named (count first small) (s.table_schema ∙ fs.4) apart (as_zip (zipped false at (eval at t e ∷ eval_all at t by)) P ends) own' in
        let broken = all_of_more (shown F at input N tables choice (exprs_of_all os)) causes P.broken shows s.broken in
        let new = new_one F N tables choice causes b.state.nodes p first (λ U. refl) (λ U before. sort_all F N tables choice causes at step (all_places fs.1) P U keyed_is broken before) in
        let new' = new_one F N tables choice causes v.nodes q inside (λ U. refl) (λ U before. project_all F N tables choice causes at (f ∷ []) S U (last_broken F N tables choice causes b.state.nodes p new) before) in
        let more = (f, E) ∷ ms in
        let i : Stream = (length v.nodes, 0) in
        let stands = own_stands at input tables f E ms in
        let is_known = le.0 f (more'.0 f (fresh_known c.state.names one)) in
        let kind : kind_over t.schema E ≡ Some fs.0 = ap (λ b. kind_if b (kind_over t.schema e)) w1.0 ∙ fs.2 in
        let schema : schema_at w.nodes i ≡ (f, fs.0) ∷ [] =
        ap schema_or_none (last_there v.nodes q) ∙ ap (λ s. unwrap_or (named_fields (f ∷ []) s) []) (schema_there first small)
        ∙ ap (λ b. unwrap_or (both_of (λ k fs. (f, k) ∷ fs) (cond b (Some fs.0) (field_kind f fs.1)) (Some [])) []) ((bytes_decides f f).1 refl) in
        given_step F at input N tables choice E c ms asked causes f i w more h (extends_fresh at input tables c.state.names ms E one) g (adds_then c.state.nodes v.nodes w.nodes (adds_then c.state.nodes b.state.nodes v.nodes k.0 here.0) last.0) stands (own_named at input tables f E ms) is_known
        (stream_of_one F at input N tables choice distinct wide more (c.exprs ++ Tree.column f ∷ []) causes w.names w.nodes i f fs.0 E r.1 r.2 stands kind (leaf_last F at input N tables choice distinct wide more c.exprs f) (last_broken F N tables choice causes v.nodes q new') is_known schema) last.1
        (among_one F at input N tables choice distinct wide f fs.0 [] R.schema r.1)
        (new_then F N tables choice causes c.state.nodes v.nodes w.nodes (new_then F N tables choice causes c.state.nodes b.state.nodes v.nodes (new_before F at input N tables choice distinct wide os adds grow steps (cons_some (as_operand at input e) keys) typed_os c ms fine causes shows s.made) new) new')
        (only_later at input tables more (after_name c.state).names b.state.names (grown_then (after_name c.state).names (after_names os c.state).names b.state.names more' le) (only_fresh at input tables ms c.state.names E (grown_fresh c.state.names) one h.only))

    sort_by_to : Inside F N tables choice (sorted_by at input d n (as_operand at input e) keys c).state.nodes → (sorted_by at input d n (as_operand at input e) keys c).state.names.next ≤ 2 ^ 64
        → StepTo F at input N tables choice E c (sorted_by at input d n (as_operand at input e) keys c) ms asked causes
    sort_by_to = by_names (same_names (f ∷ []) (names_of (schema_at v.nodes j))) refl
      where
        by_names : (s : Bool) → same_names (f ∷ []) (names_of (schema_at v.nodes j)) ≡ s
            → Inside F N tables choice (cond {A = Made} s (record { state = v; stream = j }) (projection at (f ∷ []) j v)).state.nodes → (cond {A = Made} s (record { state = v; stream = j }) (projection at (f ∷ []) j v)).state.names.next ≤ 2 ^ 64
            → StepTo F at input N tables choice E c (given (Tree.column f) (cond {A = Made} s (record { state = v; stream = j }) (projection at (f ∷ []) j v)).stream (cond {A = Made} s (record { state = v; stream = j }) (projection at (f ∷ []) j v)).state c) ms asked causes
        by_names true s inside small = absurd (never inside small s)
        by_names false s inside small = sorted_to inside small

  pub sort_by_steps : (d n : List Bool) (e : Tree) (by : Trees) → AllAdd at input (as_operand at input e ∷ operands at input by) → AllGrow at input (as_operand at input e ∷ operands at input by)
      → AllSteps F at input N tables choice (as_operand at input e ∷ operands at input by) → Steps F at input N tables choice (Tree.sort_by d n e by) (sorted_by at input d n (as_operand at input e) (operands at input by))
  sort_by_steps d n e by adds grow steps c ms asked causes fine h inside small typed known = sort_by_to d n e by adds grow steps c ms asked causes fine h typed known inside small
