-- What a call does at a sort, at a filter, and at a sort by keys.
use Rattle.std.proofs.Common.{◌≡◌, ◌≢◌, inl, inr, ℕ, ◌≤◌, ◌^◌, Bool, true, false, not, List, [], ◌∷◌, ◌++◌, length, get_or, Some, None, refl, sym, ap, subst, ◌∙◌, arith}
use Rattle.std.specs.Prelude.{IsTrue, Option, filter as those, map}
use Rattle.std.specs.Cmp.Lexicographic.{bytes_decides}
use Rattle.std.specs.List.{AllByRecursion}
use Rattle.std.specs.Str.{bytes_eq}
use Rattle.std.proofs.lemmas.Grind.{flat_map-append}
use Rattle.std.proofs.lemmas.List.{length-map}
use Rattle.ps_frame.specs.Causes.{Cause, Column, value, is_empty, whole_column}
use Rattle.ps_frame.specs.Eval.{eval, kept, operand}
use Rattle.ps_frame.specs.Frames.{has_distinct_names}
use Rattle.ps_frame.specs.Functions.{Functions}
use Rattle.ps_frame.specs.Sorting.{values_in_order}
use Rattle.ps_frame.specs.Tables.{Fields, Table}
use Rattle.ps_frame.specs.Trees.{Tree}
use Rattle.ps_frame.specs.Typing.{is_kind, kind_if, kind_over}
use Rattle.ps_frame.specs.Values.{is_true}
use Rattle.ps_frame.specs.Zip.{Extent, Zipped, extent_of, extents, zipped}
use Rattle.ps_frame.specs.declared.value.DataType.{DataType}
use Rattle.ps_frame.specs.declared.value.DataType.TheVariants as kind
use Rattle.ps_frame.specs.declared.value.Value.{Value}
use Rattle.ps_frame.specs.declared.value.Value.TheVariants as val
use Rattle.ps_meaning.specs.Schemas.{both as both_of, fields_of, is_among, names_of}
use Rattle.ps_meaning.specs.Shape.{IsPhysicalChoice, PhysicalNode, Shape, filter_node, in_memory_map}
use Rattle.ps_meaning.specs.Steps.{Name, Named, SortStep, sort}
use Rattle.ps_rules.specs.Calls.{Call, Operand, exprs_of_all}
use Rattle.ps_rules.specs.Names.{IsKnown, Names, after_fresh}
use Rattle.ps_rules.specs.Rules.{NamedOperand, filtered_column, names_of_items, operands_of, selected, sorted_column}
use Rattle.ps_rules.specs.Slots.{Made, State, Stream, after_name, after_names, new_name, new_names, schema_at, schema_or_none, under}
use Rattle.ps_rules.proofs.Free.{fresh_known, fresh_unknown}
use Rattle.ps_shares.specs.Ends.{AreKnownBy}
use Rattle.ps_shares.specs.Leaves.{all_leaves, leaves, stands_for}
use Rattle.ps_shares.specs.Shares.{IsClear}
use Rattle.ps_shares.proofs.Adding.{Adds, AllAdd, MadeFrom, adds_same, adds_then, inserted, named_nodes, under_made}
use Rattle.ps_shares.proofs.Causes.{all_append}
use Rattle.ps_shares.proofs.Ends.{last_there}
use Rattle.ps_shares.proofs.Fresh.{Grown, grown_fresh, grown_names, grown_then}
use Rattle.ps_shares.proofs.Growing.{AllGrow, grows_under}
use Rattle.ps_shares.proofs.Members.{Has}
use Rattle.ps_shares.proofs.Stands.{some_if, some_kind}
use Rattle.ps_shares.proofs.Stepped.{filtered_as, keyed_as}
use Rattle.ps_bundles.specs.Endings.{Ends, kept_predicate}
use Rattle.ps_bundles.proofs.Aggregations.{one_covers}
use Rattle.ps_bundles.proofs.Answers.{given_step}
use Rattle.ps_bundles.proofs.Apart.{AllTyped}
use Rattle.ps_bundles.proofs.CallSteps.{Steps}
use Rattle.ps_bundles.proofs.Depending.{down_whole}
use Rattle.ps_bundles.proofs.Gathered.{Col, IsFine, IsStream, Kind, extends_fresh, extends_same, fine_later, has_last, named, only_fresh, only_later, own_named, own_stands}
use Rattle.ps_bundles.proofs.NewNodes.{AllOf, Inside, KnownOf, New, all_of_more, covers_zip, filter_all, inside_before, last_broken, new_one, new_then, new_weaker, sort_all, there}
use Rattle.ps_bundles.proofs.Reading.{or_first}
use Rattle.ps_bundles.proofs.Selections.{Selected, selection, shown}
use Rattle.ps_bundles.proofs.StepEnds.{as_zip, filters_end, sorts_end}
use Rattle.ps_bundles.proofs.Together.{AllSteps}

-- the first field of a select, and the others
pub split_fields : (n : Name) (e : Tree) (items : List Named) (s fs : Fields) → fields_of ((n, e) ∷ items) s ≡ Some fs → (k : DataType) × (gs : Fields) × (kind_over s e ≡ Some k) × (fields_of items s ≡ Some gs) × (fs ≡ (n, k) ∷ gs)
split_fields n e items s fs h = by (kind_over s e) (fields_of items s) refl refl h
  where
    by : (k : Option DataType) (o : Option Fields) → kind_over s e ≡ k → fields_of items s ≡ o → both_of (λ k fs. (n, k) ∷ fs) k o ≡ Some fs → (k : DataType) × (gs : Fields) × (kind_over s e ≡ Some k) × (fields_of items s ≡ Some gs) × (fs ≡ (n, k) ∷ gs)
    by None o p q h = let w : None ≡ Some fs = h in cc
    by (Some k) None p q h = let w : None ≡ Some fs = h in cc
    by (Some k) (Some gs) p q h =
        let w : Some ((n, k) ∷ gs) ≡ Some fs = h in
        let is : (n, k) ∷ gs ≡ fs = cc in
        (k, gs, p, q, sym is)

pub cons_some : {A : Type 0} (x : A) (xs : List A) → x ∷ xs ≢ []
cons_some x xs e = cc

no_fields : (s fs : Fields) → fields_of [] s ≡ Some fs → fs ≡ []
no_fields s fs h = let w : Some [] ≡ Some fs = h in let is : [] ≡ fs = cc in sym is

-- what a filter keeps of its predicate is clear, and as long as what it keeps of the values
predicate_clear : (z : Zipped) → IsClear (kept_predicate z)
predicate_clear z = ((map (λ row. get_or row 1 val.Null) (those (λ row. is_true (get_or row 1 val.Null)) z.rows), again (those (λ row. is_true (get_or row 1 val.Null)) z.rows)), refl)
  where
    again : (rows : List (List Value)) → map (λ row. value (get_or row 1 val.Null)) rows ≡ map value (map (λ row. get_or row 1 val.Null) rows)
    again [] = refl
    again (row ∷ rows) = ap (λ cs. value (get_or row 1 val.Null) ∷ cs) (again rows)

kept_extent : (z : Zipped) → extent_of (kept z) ≡ extent_of (kept_predicate z)
kept_extent z =
    let rows = those (λ row. is_true (get_or row 1 val.Null)) z.rows in
    let l = length-map rows (λ row. value (get_or row 0 val.Null)) ∙ sym (length-map rows (λ row. value (get_or row 1 val.Null))) in
    λ i. record { ended = not (is_empty z.broken); len = l i }

extent_leaf : (cs : List Column) (c : Column) → Has cs c → {x : Extent} → extent_of c ≡ x → Has (extents cs) x
extent_leaf [] c h e = absurd h
extent_leaf (y ∷ cs) c (inl q) e = inl (ap extent_of q ∙ e)
extent_leaf (y ∷ cs) c (inr h) e = inr (extent_leaf cs c h e)

pub under_operands : (os : List Operand) (s : State) → operands_of (under (new_names os s) os) ≡ os
under_operands [] s = refl
under_operands (o ∷ os) s = ap (λ os. o ∷ os) (under_operands os (after_name s))

under_names : (os : List Operand) (s : State) → names_of_items (under (new_names os s) os) ≡ new_names os s
under_names [] s = refl
under_names (o ∷ os) s = ap (λ ns. new_name s ∷ ns) (under_names os (after_name s))

module _ (F : Functions) (at : ℕ) (input : Stream) (N : Shape) (tables : ℕ → Table) (choice : IsPhysicalChoice F N tables) (distinct : IsTrue (has_distinct_names (tables input.0).schema))
    (wide : AllByRecursion (λ (row : List Value). length row ≡ length (tables input.0).schema) (tables input.0).rows) where
  abbrev t : Table
  t = tables input.0

  -- a stream of one column
  pub stream_of_one : (more : List Named) (es : List Tree) (causes : List Cause) (names : Names) (nodes : Shape) (i : Stream) (f : Name) (k : DataType) (E : Tree) → (tables i.0).schema ≡ (f, k) ∷ [] → Ends at (tables i.0) (eval at t E ∷ []) → stands_for more f ≡ E
      → kind_over t.schema E ≡ Some k → Has (all_leaves (Col at input tables more) es) (Col at input tables more f) → AllOf causes (tables i.0).broken → IsKnown names f → schema_at nodes i ≡ (f, k) ∷ [] → IsStream at input tables more es causes names nodes i
  stream_of_one more es causes names nodes i f k E table ends stands typed has broken known schema =
      record {
        columns = eval at t E ∷ [];
        ends = ends;
        known = subst (λ s. AreKnownBy (λ n. IsTrue (named at input tables more n)) (Col at input tables more) s (eval at t E ∷ [])) (sym table) ((λ is. ap (eval at t) (sym stands)), tt);
        kinds = subst (AllByRecursion (λ (f : Name × DataType). IsTrue (named at input tables more f.0) → Some f.1 ≡ Kind at input tables more f.0)) (sym table) ((λ is. sym typed ∙ ap (kind_over t.schema) (sym stands)), tt);
        some = cons_some (eval at t E) [];
        covered = (inl (subst (Has (all_leaves (Col at input tables more) es)) (ap (eval at t) stands) has), tt);
        broken = broken;
        names_known = subst (λ s. AllByRecursion (IsKnown names) (names_of s)) (sym table) (known, tt);
        schema = schema ∙ sym table;
      }

  pub leaf_last : (more : List Named) (es : List Tree) (f : Name) → Has (all_leaves (Col at input tables more) (es ++ Tree.column f ∷ [])) (Col at input tables more f)
  leaf_last more es f =
      subst (λ cs. Has cs (Col at input tables more f)) (sym (flat_map-append (leaves (Col at input tables more)) es (Tree.column f ∷ [])))
      (has_last (all_leaves (Col at input tables more) es) (Col at input tables more f ∷ []) (Col at input tables more f) (inl refl))

  pub among_one : (f : Name) (k : DataType) (gs s : Fields) → s ≡ (f, k) ∷ gs → is_among f (names_of s) ≡ true
  among_one f k gs s e = ap (λ s. is_among f (names_of s)) e ∙ or_first (bytes_eq f f) (is_among f (names_of gs)) ((bytes_decides f f).1 refl)

  -- The select that comes before.
  module _ (os : List Operand) (adds : AllAdd at input os) (grow : AllGrow at input os) (steps : AllSteps F at input N tables choice os) (some : os ≢ []) (typed : AllTyped F at input N tables choice (exprs_of_all os)) (c : Call) (ms : List Named) (fine : IsFine at input tables ms c.state) where
    abbrev s0 : State
    s0 = after_names os c.state

    abbrev items : List NamedOperand
    items = under (new_names os c.state) os

    abbrev pub m : Made
    m = selected at input items s0

    pub made_before : MadeFrom c.state.nodes m
    made_before = under_made at input os adds c.state fine.ordered fine.node

    pub grown_before : Grown c.state.names m.state.names
    grown_before = grown_then c.state.names s0.names m.state.names (grown_names os c.state) (grows_under at input os grow c.state)

    pub selected_before : Inside F N tables choice m.state.nodes → m.state.names.next ≤ 2 ^ 64 → Selected F at input N tables choice (new_names os c.state) (exprs_of_all os) s0 m
    selected_before inside small =
        let is = under_operands os c.state in
        let same = named_nodes os c.state in
        let g = grown_names os c.state in
        let fine' = fine_later at input tables ms ms c.state s0 fine g (subst (λ n. Adds c.state.nodes n) (sym same) (adds_same c.state.nodes fine.ordered)) (extends_same at input tables c.state.names ms) (only_later at input tables ms c.state.names s0.names g fine.only) in
        let r = selection F at input N tables choice distinct wide items (subst (AllAdd at input) (sym is) adds) (subst (AllGrow at input) (sym is) grow) (subst (AllSteps F at input N tables choice) (sym is) steps) s0 ms fine' (none os c.state some)
        (subst (λ os. AllTyped F at input N tables choice (exprs_of_all os)) (sym is) typed) inside small in
        subst (λ ns. Selected F at input N tables choice ns (exprs_of_all os) s0 m) (under_names os c.state) (subst (λ os. Selected F at input N tables choice (names_of_items items) (exprs_of_all os) s0 m) is r)
      where
        none : (os : List Operand) (s : State) → os ≢ [] → under (new_names os s) os ≢ []
        none [] s some e = some refl
        none (o ∷ os) s some e = cc

    pub new_before : (causes : List Cause) → AllOf causes (shown F at input N tables choice (exprs_of_all os)) → New F N tables choice (shown F at input N tables choice (exprs_of_all os)) s0.nodes m.state.nodes → New F N tables choice causes c.state.nodes m.state.nodes
    new_before causes all made =
        subst (λ n. New F N tables choice causes n m.state.nodes) (named_nodes os c.state) (new_weaker F N tables choice (shown F at input N tables choice (exprs_of_all os)) causes s0.nodes m.state.nodes all made)

  -- sorts
  pub sort_steps : (d n : Bool) (o : Operand) → AllAdd at input (o ∷ []) → AllGrow at input (o ∷ []) → AllSteps F at input N tables choice (o ∷ []) → Steps F at input N tables choice (Tree.sort d n o.expr) (sorted_column at input d n o)
  sort_steps d n o adds grow steps c ms asked causes fine h inside small typed known =
      let os = o ∷ [] in
      let E = Tree.sort d n o.expr in
      let f = new_name c.state in
      let b = m os adds grow steps (cons_some o []) (typed, tt) c ms fine in
      let k = made_before os adds grow steps (cons_some o []) (typed, tt) c ms fine in
      let g = grown_before os adds grow steps (cons_some o []) (typed, tt) c ms fine in
      let le = grows_under at input os grow c.state in
      let le' = le.1 in
      let one : (after_fresh c.state.names).next ≤ 2 ^ 64 = omega arith in
      let step : SortStep = record { keys = Tree.column f ∷ []; descending = d ∷ []; nulls_last = n ∷ []; cut = None } in
      let p : PhysicalNode = record { kind = in_memory_map (sort step); schema = schema_at b.state.nodes b.stream; origin = at; inputs = b.stream ∷ [] } in
      let here = inserted b.state p k.0.1 (k.1, tt) in
      let sel = selected_before os adds grow steps (cons_some o []) (typed, tt) c ms fine (inside_before F N tables choice b.state.nodes (b.state.nodes ++ p ∷ []) here.0 inside) small in
      let field = split_fields f o.expr [] t.schema sel.fields sel.are in
      let fields : sel.fields ≡ (f, field.0) ∷ [] = field.4 ∙ ap (λ gs. (f, field.0) ∷ gs) (no_fields t.schema field.1 field.3) in
      let P = tables b.stream.0 in
      let T = tables (length b.state.nodes) in
      let own = choice (length b.state.nodes) p (there F N tables choice b.state.nodes p inside) in
      let r = sorts_end F at f d n o.expr field.0 t P T (sel.table_schema ∙ fields) sel.ends own in
      let operand_known : KnownOf causes (eval at t o.expr) = (down_whole (λ (c : Cause). Has causes c) (λ vs. whole_column (values_in_order (record { descending = d; nulls_last = n }) (operand 0 vs))) (eval at t o.expr ∷ []) known).0 in
      let all = covers_zip at causes (eval at t o.expr ∷ []) (one_covers at causes (eval at t o.expr) operand_known) in
      let broken = all_of_more (shown F at input N tables choice (exprs_of_all os)) causes P.broken all sel.broken in
      let keyed_is = keyed_as F at f d n o.expr field.0 t P T (sel.table_schema ∙ fields) (as_zip (zipped false at (eval at t o.expr ∷ [])) P sel.ends) in
      let new = new_one F N tables choice causes b.state.nodes p inside (λ U. refl) (λ U before. sort_all F N tables choice causes at step (0 ∷ 0 ∷ []) P U keyed_is broken before) in
      let more = (f, E) ∷ ms in
      let state : State = record { nodes = b.state.nodes ++ p ∷ []; names = b.state.names } in
      let i : Stream = (length b.state.nodes, 0) in
      let stands = own_stands at input tables f E ms in
      let is_known = le.0 f (fresh_known c.state.names one) in
      given_step F at input N tables choice E c ms asked causes f i state more h (extends_fresh at input tables c.state.names ms E one) g (adds_then c.state.nodes b.state.nodes state.nodes k.0 here.0) stands (own_named at input tables f E ms) is_known
      (stream_of_one more (c.exprs ++ Tree.column f ∷ []) causes state.names state.nodes i f field.0 E r.0 r.1 stands field.2 (leaf_last more c.exprs f) (last_broken F N tables choice causes b.state.nodes p new) is_known
      (ap schema_or_none (last_there b.state.nodes p) ∙ sel.schema ∙ fields)) here.1 (among_one f field.0 [] T.schema r.0)
      (new_then F N tables choice causes c.state.nodes b.state.nodes state.nodes (new_before os adds grow steps (cons_some o []) (typed, tt) c ms fine causes all sel.made) new)
      (only_later at input tables more (after_name c.state).names b.state.names le (only_fresh at input tables ms c.state.names E (grown_fresh c.state.names) one h.only))

  -- filters
  pub filter_steps : (o by' : Operand) → AllAdd at input (o ∷ by' ∷ []) → AllGrow at input (o ∷ by' ∷ []) → AllSteps F at input N tables choice (o ∷ by' ∷ []) → Steps F at input N tables choice (Tree.filter o.expr by'.expr) (filtered_column at input o by')
  filter_steps o by' adds grow steps c ms asked causes fine h inside small typed known =
      let os = o ∷ by' ∷ [] in
      let E = Tree.filter o.expr by'.expr in
      let f = new_name c.state in
      let q = new_name (after_name c.state) in
      let w = some_if (is_kind kind.Boolean (kind_over t.schema by'.expr)) (kind_over t.schema o.expr) typed in
      let typed_os : AllTyped F at input N tables choice (exprs_of_all os) = (w.1, (some_kind kind.Boolean (kind_over t.schema by'.expr) w.0, tt)) in
      let b = m os adds grow steps (cons_some o (by' ∷ [])) typed_os c ms fine in
      let k = made_before os adds grow steps (cons_some o (by' ∷ [])) typed_os c ms fine in
      let g = grown_before os adds grow steps (cons_some o (by' ∷ [])) typed_os c ms fine in
      let le = grows_under at input os grow c.state in
      let le' = le.1 in
      let two = grown_fresh (after_name c.state).names in
      let two' = two.1 in
      let small' : b.state.names.next ≤ 2 ^ 64 = small in
      let second : (after_fresh (after_name c.state).names).next ≤ 2 ^ 64 = omega arith in
      let one : (after_fresh c.state.names).next ≤ 2 ^ 64 = omega arith in
      let p : PhysicalNode = record { kind = filter_node (Tree.column q); schema = schema_at b.state.nodes b.stream; origin = at; inputs = b.stream ∷ [] } in
      let here = inserted b.state p k.0.1 (k.1, tt) in
      let sel = selected_before os adds grow steps (cons_some o (by' ∷ [])) typed_os c ms fine (inside_before F N tables choice b.state.nodes (b.state.nodes ++ p ∷ []) here.0 inside) small in
      let field = split_fields f o.expr ((q, by'.expr) ∷ []) t.schema sel.fields sel.are in
      let other = split_fields q by'.expr [] t.schema field.1 field.3 in
      let fields : sel.fields ≡ (f, field.0) ∷ (q, other.0) ∷ [] = field.4 ∙ ap (λ gs. (f, field.0) ∷ gs) (other.4 ∙ ap (λ gs. (q, other.0) ∷ gs) (no_fields t.schema other.1 other.3)) in
      let P = tables b.stream.0 in
      let T = tables (length b.state.nodes) in
      let own = choice (length b.state.nodes) p (there F N tables choice b.state.nodes p inside) in
      let f_known = fresh_known c.state.names one in
      let apart : f ≢ q = λ e. fresh_unknown (after_name c.state).names second (subst (λ n. IsKnown (after_name c.state).names n) e f_known) in
      let r = filters_end F at f q o.expr by'.expr field.0 other.0 t P T apart (sel.table_schema ∙ fields) sel.ends own in
      let Z = zipped false at (eval at t o.expr ∷ eval at t by'.expr ∷ []) in
      let all : AllOf causes (shown F at input N tables choice (exprs_of_all os)) = all_append (λ (c : Cause). Has causes c) Z.broken Z.lost known.1 known.2 in
      let broken = all_of_more (shown F at input N tables choice (exprs_of_all os)) causes P.broken all sel.broken in
      let keyed_is = filtered_as F at f q o.expr by'.expr field.0 other.0 t P T apart (sel.table_schema ∙ fields) (as_zip Z P sel.ends) in
      let new = new_one F N tables choice causes b.state.nodes p inside (λ U. refl) (λ U before. filter_all F N tables choice causes at (Tree.column q) (0 ∷ 1 ∷ 1 ∷ []) P U keyed_is broken before) in
      let more = (f, E) ∷ ms in
      let state : State = record { nodes = b.state.nodes ++ p ∷ []; names = b.state.names } in
      let i : Stream = (length b.state.nodes, 0) in
      let stands = own_stands at input tables f E ms in
      let is_known = le.0 f (two.0 f f_known) in
      let q_known = le.0 q (fresh_known (after_name c.state).names second) in
      let only = only_fresh at input tables ms c.state.names E (grown_fresh c.state.names) one h.only in
      let hidden : IsTrue (named at input tables more q) → ⊥ = λ is. fresh_unknown (after_name c.state).names second (only q is) in
      let env = Col at input tables more in
      let es = c.exprs ++ Tree.column f ∷ [] in
      let leaf : Has (all_leaves env es) (eval at t E) = subst (Has (all_leaves env es)) (ap (eval at t) stands) (leaf_last more c.exprs f) in
      let typed_kind : kind_over t.schema E ≡ Some field.0 = ap (λ b. kind_if b (kind_over t.schema o.expr)) w.0 ∙ field.2 in
      let stream : IsStream at input tables more es causes state.names state.nodes i =
      record {
        columns = eval at t E ∷ kept_predicate Z ∷ [];
        ends = r.1;
        known = subst (λ s. AreKnownBy (λ n. IsTrue (named at input tables more n)) env s (eval at t E ∷ kept_predicate Z ∷ [])) (sym r.0) ((λ is. ap (eval at t) (sym stands)), ((λ is. absurd (hidden is)), tt));
        kinds = subst (AllByRecursion (λ (f : Name × DataType). IsTrue (named at input tables more f.0) → Some f.1 ≡ Kind at input tables more f.0)) (sym r.0) ((λ is. sym typed_kind ∙ ap (kind_over t.schema) (sym stands)), ((λ is. absurd (hidden is)), tt));
        some = cons_some (eval at t E) (kept_predicate Z ∷ []);
        covered = (inl leaf, (inr (predicate_clear Z, (λ moves. extent_leaf (all_leaves env es) (eval at t E) leaf (kept_extent Z))), tt));
        broken = last_broken F N tables choice causes b.state.nodes p new;
        names_known = subst (λ s. AllByRecursion (IsKnown state.names) (names_of s)) (sym r.0) (is_known, (q_known, tt));
        schema = ap schema_or_none (last_there b.state.nodes p) ∙ sel.schema ∙ fields ∙ sym r.0;
      } in
      given_step F at input N tables choice E c ms asked causes f i state more h (extends_fresh at input tables c.state.names ms E one) g (adds_then c.state.nodes b.state.nodes state.nodes k.0 here.0) stands (own_named at input tables f E ms) is_known
      stream here.1 (among_one f field.0 ((q, other.0) ∷ []) T.schema r.0)
      (new_then F N tables choice causes c.state.nodes b.state.nodes state.nodes (new_before os adds grow steps (cons_some o (by' ∷ [])) typed_os c ms fine causes all sel.made) new)
      (only_later at input tables more (after_name c.state).names b.state.names (grown_then (after_name c.state).names (after_name (after_name c.state)).names b.state.names two le) only)
