-- What each rule makes stays small: operators, selects, sorts, filters and reductions.
use Rattle.std.proofs.Common.{◌≡◌, inl, inr, ℕ, Bool, true, false, cond, List, [], ◌∷◌, ◌++◌, length, None, refl, sym, subst, arith}
use Rattle.std.specs.Prelude.{IsTrue, is_some, unwrap_or}
use Rattle.std.specs.List.{AllByRecursion}
use Rattle.ps_frame.specs.Functions.{Functions}
use Rattle.ps_frame.specs.Tables.{Table}
use Rattle.ps_frame.specs.Trees.{Aggregation, Tree}
use Rattle.ps_frame.specs.Typing.{is_elementwise, kind_over}
use Rattle.ps_meaning.specs.Schemas.{named_fields, names_of}
use Rattle.ps_meaning.specs.Shape.{IsPhysicalChoice, PhysicalNode, Shape, filter_node, in_memory_map, reduce, select_node, simple_projection}
use Rattle.ps_meaning.specs.Steps.{Name, Named, SortStep, exprs_of, sort}
use Rattle.ps_rules.specs.Bundles.{finished, is_stream_alone}
use Rattle.ps_rules.specs.Calls.{Answer, Bundle, Call, Operand, all_independent, exprs_of_all, given, given_reduction}
use Rattle.ps_rules.specs.Rules.{NamedOperand, answered, are_own_columns, computed, counted_rows, filtered_column, first_tree, names_of_items, operands_of, over_operands, reduced_apart, reduced_column, selected, sorted_by, sorted_column, together}
use Rattle.ps_rules.specs.Slots.{Made, State, Stream, after_name, after_names, columns_named, new_name, new_names, projection, same_names, schema_at, selected_schema, under, with_columns, without_input}
use Rattle.ps_shares.proofs.Adding.{Adds, AddsTo, AllAdd, MadeFrom, adds_same, answers_made, inserted, named_nodes, node_later, one_made, together_gathers, under_made}
use Rattle.ps_bundles.proofs.Aggregations.{MakesOne}
use Rattle.ps_bundles.proofs.Answers.{all_added_all}
use Rattle.ps_bundles.proofs.Apart.{AllTyped}
use Rattle.ps_bundles.proofs.CallSteps.{all_added_one, all_and}
use Rattle.ps_bundles.proofs.NewNodes.{Inside, inside_before}
use Rattle.ps_bundles.proofs.SortSteps.{under_operands}
use Rattle.lowering_sizes.proofs.Calls.{AllSteps, Gathers, IsReducing, IsThere, Small, SmallCall, SmallMade, Steps, StepsTo, columns_small, one_small, reducing_modest, select_node_small, there_later, together_small, under_all, without_small}
use Rattle.lowering_sizes.proofs.Nodes.{AreModest, IsModest, IsSmall, Sized, filter_rows, last_small, plain_modest, project_rows, sized_none, sized_one, sized_then, sort_rows, step_modest}

module _ (F : Functions) (at : ℕ) (input : Stream) (N : Shape) (tables : ℕ → Table) (choice : IsPhysicalChoice F N tables) (Large : Type 0) (few : IsSmall Large (tables input.0)) where
  abbrev t : Table
  t = tables input.0

  abbrev S : Shape → Shape → Type 0
  S a b = Sized F N tables choice Large a b

  abbrev Does : Tree → (Call → Call) → Type 0
  Does e rule = Steps F at input N tables choice Large few e rule

  abbrev AllDo : List Operand → Type 0
  AllDo os = AllSteps F at input N tables choice Large few os

  abbrev Makes : State → Made → Type 0
  Makes s m = SmallMade F at input N tables choice Large few s m

  abbrev There : State → Type 0
  There s = IsThere F at input N tables choice Large few s

  abbrev Typed : List Tree → Type 0
  Typed es = AllTyped F at input N tables choice es

  -- an answer over a stream of its own
  given_small : (c : Call) (f : Name) (m : Made) → SmallCall F at input N tables choice Large few c → Makes c.state m → StepsTo F at input N tables choice Large few c (given (Tree.column f) m.stream m.state c)
  given_small c f m h made =
      record {
        small =
            record {
              streams = all_added_one (Small F at input N tables choice Large few) m.stream c.streams made.small h.streams;
              plain = all_and (λ e. IsTrue (is_elementwise e)) c.exprs (Tree.column f ∷ []) h.plain (refl, tt);
              reduced = h.reduced;
              mapped = h.mapped;
              typed = h.typed;
            };
        made = made.made;
        new = Tree.column f;
        answers = refl;
      }

  -- an answer over the reduce of the input
  reduction_small : (c : Call) (s : State) (e : Tree) → SmallCall F at input N tables choice Large few c → IsReducing F at input N tables choice Large few e → S c.state.nodes s.nodes → StepsTo F at input N tables choice Large few c (given_reduction e s c)
  reduction_small c s e h is made =
      record {
        small =
            record {
              streams = h.streams;
              plain = all_and (λ e. IsTrue (is_elementwise e)) c.exprs (Tree.column (new_name s) ∷ []) h.plain (refl, tt);
              reduced = all_and (λ (m : Named). IsReducing F at input N tables choice Large few m.1) c.reduced ((new_name s, e) ∷ []) h.reduced (is, tt);
              mapped = h.mapped;
              typed = h.typed;
            };
        made = made;
        new = Tree.column (new_name s);
        answers = refl;
      }

  pub len_small : Does Tree.len (counted_rows at input)
  len_small c there nodes h inside typed modest = reduction_small c c.state Tree.len h (inl refl) (sized_none F N tables choice Large c.state.nodes)

  -- an operator over operands that are lowered together
  pub operator_small : (e : Tree) (op : List Tree → Tree) (os : List Operand) → AllAdd at input os → AllDo os → (IsTrue (is_some (kind_over t.schema e)) → Typed (exprs_of_all os)) → (IsModest Large at t e → AreModest Large at t (exprs_of_all os))
      → ((bs : List Tree) → length bs ≡ length os → AllByRecursion (λ e. IsTrue (is_elementwise e)) bs → is_elementwise (op bs) ≡ true) → Does e (over_operands at input op os)
  operator_small e op os adds steps typed_os modest_os plain c there nodes h inside typed modest =
      let b = together at input os c.state in
      let r = together_small F at input N tables choice Large few os adds steps c.state there (typed_os typed) (modest_os modest) inside in
      record {
        small =
            record {
              streams = all_added_all (Small F at input N tables choice Large few) b.streams c.streams r.bundle.streams h.streams;
              plain = all_and (λ e. IsTrue (is_elementwise e)) c.exprs (op b.exprs ∷ []) h.plain (plain b.exprs r.count r.bundle.plain, tt);
              reduced = all_and (λ (m : Named). IsReducing F at input N tables choice Large few m.1) c.reduced b.reduced h.reduced r.bundle.reduced;
              mapped = h.mapped;
              typed = h.typed;
            };
        made = r.bundle.made;
        new = op b.exprs;
        answers = refl;
      }

  -- one call, and its end
  pub answered_small : (os : List Operand) → AllAdd at input os → AllDo os → (s : State) → There s → Typed (exprs_of_all os) → AreModest Large at t (exprs_of_all os) → Inside F N tables choice (answered at input os s).state.nodes
      → Makes s (record { state = (answered at input os s).state; stream = (answered at input os s).stream }) × Gathers F at input N tables choice Large few os s (together at input os s)
  answered_small os adds steps s there typed modest inside =
      let b = together at input os s in
      let a = answered at input os s in
      let gather = together_gathers at input os adds s there.ordered there.node in
      let g = one_made at input b gather.0.1 (node_later s.nodes b.state.nodes gather.0 input there.node) gather.1 in
      let r = together_small F at input N tables choice Large few os adds steps s there typed modest (inside_before F N tables choice b.state.nodes a.state.nodes g.0 inside) in
      let z = one_small F at input N tables choice Large few b (there_later F at input N tables choice Large few s b.state there gather.0) gather.1 r.bundle.streams r.bundle.reduced inside in
      (record { small = z.small; made = sized_then F N tables choice Large s.nodes b.state.nodes a.state.nodes r.bundle.made z.made }, r)

  -- a select
  pub selected_small : (items : List NamedOperand) → AllAdd at input (operands_of items) → AllDo (operands_of items) → (s : State) → There s → Typed (exprs_of_all (operands_of items)) → AreModest Large at t (exprs_of_all (operands_of items))
      → Inside F N tables choice (selected at input items s).state.nodes → Makes s (selected at input items s)
  selected_small items adds steps s there typed modest = by (all_independent (exprs_of_all (operands_of items))) (are_own_columns items) refl
    where
      by : (a b : Bool) → all_independent (exprs_of_all (operands_of items)) ≡ a
          → Inside F N tables choice (cond {A = State → Made} a (without_input at (under (names_of_items items) (exprs_of_all (operands_of items)))) (cond {A = State → Made} b (with_columns at (names_of_items items) input) (computed at input items)) s).state.nodes
          → Makes s (cond {A = State → Made} a (without_input at (under (names_of_items items) (exprs_of_all (operands_of items)))) (cond {A = State → Made} b (with_columns at (names_of_items items) input) (computed at input items)) s)
      by true b q inside = without_small F at input N tables choice Large few (names_of_items items) (exprs_of_all (operands_of items)) s q modest inside
      by false true q inside = let r = columns_small F at input N tables choice Large few (names_of_items items) s inside in record { small = r.1; made = r.0 }
      by false false q inside =
          let os = operands_of items in
          let a = answered at input os s in
          let es = under (names_of_items items) a.exprs in
          let p : PhysicalNode = record { kind = select_node es false; schema = selected_schema es (schema_at a.state.nodes a.stream); origin = at; inputs = a.stream ∷ [] } in
          let made = answers_made at input os adds s there.ordered there.node in
          let here = inserted a.state p made.0.1 (made.1, tt) in
          let r = answered_small os adds steps s there typed modest (inside_before F N tables choice a.state.nodes (a.state.nodes ++ p ∷ []) here.0 inside) in
          let Z = tables a.stream.0 in
          let new = select_node_small F at input N tables choice Large few a.state p es Z inside (λ U. refl) refl refl refl
          (plain_modest Large at Z r.0.small (exprs_of es) (under_all (λ e. IsTrue (is_elementwise e)) (names_of_items items) a.exprs r.1.bundle.plain)) in
          record { small = last_small F N tables choice Large a.state.nodes p new; made = sized_then F N tables choice Large s.nodes a.state.nodes (a.state.nodes ++ p ∷ []) r.0.made new }

  -- values and keys under fresh names, selected
  under_small : (os : List Operand) → AllAdd at input os → AllDo os → (c : Call) → There c.state → Typed (exprs_of_all os) → AreModest Large at t (exprs_of_all os) → Inside F N tables choice (selected at input (under (new_names os c.state) os) (after_names os c.state)).state.nodes
      → Makes c.state (selected at input (under (new_names os c.state) os) (after_names os c.state))
  under_small os adds steps c there typed modest inside =
      let is = under_operands os c.state in
      let same = named_nodes os c.state in
      let s = after_names os c.state in
      let items = under (new_names os c.state) os in
      let m = selected at input items s in
      let later = there_later F at input N tables choice Large few c.state s there (subst (λ n. Adds c.state.nodes n) (sym same) (adds_same c.state.nodes there.ordered)) in
      let r = selected_small items (subst (AllAdd at input) (sym is) adds) (subst AllDo (sym is) steps) s later (subst (λ os. Typed (exprs_of_all os)) (sym is) typed) (subst (λ os. AreModest Large at t (exprs_of_all os)) (sym is) modest) inside in
      record { small = r.small; made = subst (λ n. S n m.state.nodes) same r.made }

  -- a node over the select that comes before, which keeps its rows or fewer
  over_small : (s : State) (m : Made) (p : PhysicalNode) → Makes s m → S m.state.nodes (m.state.nodes ++ p ∷ []) → Makes s (record { state = record { nodes = m.state.nodes ++ p ∷ []; names = m.state.names }; stream = (length m.state.nodes, 0) })
  over_small s m p r new = record { small = last_small F N tables choice Large m.state.nodes p new; made = sized_then F N tables choice Large s.nodes m.state.nodes (m.state.nodes ++ p ∷ []) r.made new }

  plain_columns : (ns : List Name) → AllByRecursion (λ e. IsTrue (is_elementwise e)) (columns_named ns)
  plain_columns [] = tt
  plain_columns (n ∷ ns) = (refl, plain_columns ns)

  pub sort_small : (d n : Bool) (o : Operand) → AddsTo at input o.rule → Does o.expr o.rule → (IsTrue (is_some (kind_over t.schema (Tree.sort d n o.expr))) → IsTrue (is_some (kind_over t.schema o.expr))) → Does (Tree.sort d n o.expr) (sorted_column at input d n o)
  sort_small d n o adds steps typed_o c there nodes h inside typed modest =
      let os = o ∷ [] in
      let f = new_name c.state in
      let m = selected at input (under (new_names os c.state) os) (after_names os c.state) in
      let k = under_made at input os (adds, tt) c.state there.ordered there.node in
      let step : SortStep = record { keys = Tree.column f ∷ []; descending = d ∷ []; nulls_last = n ∷ []; cut = None } in
      let p : PhysicalNode = record { kind = in_memory_map (sort step); schema = schema_at m.state.nodes m.stream; origin = at; inputs = m.stream ∷ [] } in
      let here = inserted m.state p k.0.1 (k.1, tt) in
      let r = under_small os (adds, tt) (steps, tt) c there (typed_o typed, tt) ((λ q part. modest q (inr part)), tt) (inside_before F N tables choice m.state.nodes (m.state.nodes ++ p ∷ []) here.0 inside) in
      let P = tables m.stream.0 in
      let new = sized_one F N tables choice Large m.state.nodes p inside (λ U. refl) (λ U before. sort_rows Large at F step P U r.small (refl, tt) before) (λ large. step_modest Large at P step.keys (plain_modest Large at P r.small step.keys (refl, tt)) large) in
      given_small c f (record { state = record { nodes = m.state.nodes ++ p ∷ []; names = m.state.names }; stream = (length m.state.nodes, 0) }) h (over_small c.state m p r new)

  pub filter_small : (o by : Operand) → AddsTo at input o.rule → AddsTo at input by.rule → Does o.expr o.rule → Does by.expr by.rule → (IsTrue (is_some (kind_over t.schema (Tree.filter o.expr by.expr))) → Typed (o.expr ∷ by.expr ∷ []))
      → (IsModest Large at t (Tree.filter o.expr by.expr) → AreModest Large at t (o.expr ∷ by.expr ∷ [])) → Does (Tree.filter o.expr by.expr) (filtered_column at input o by)
  filter_small o by' adds adds' steps steps' typed_os modest_os c there nodes h inside typed modest =
      let os = o ∷ by' ∷ [] in
      let f = new_name c.state in
      let q = new_name (after_name c.state) in
      let m = selected at input (under (new_names os c.state) os) (after_names os c.state) in
      let k = under_made at input os (adds, (adds', tt)) c.state there.ordered there.node in
      let p : PhysicalNode = record { kind = filter_node (Tree.column q); schema = schema_at m.state.nodes m.stream; origin = at; inputs = m.stream ∷ [] } in
      let here = inserted m.state p k.0.1 (k.1, tt) in
      let r = under_small os (adds, (adds', tt)) (steps, (steps', tt)) c there (typed_os typed) (modest_os modest) (inside_before F N tables choice m.state.nodes (m.state.nodes ++ p ∷ []) here.0 inside) in
      let P = tables m.stream.0 in
      let new = sized_one F N tables choice Large m.state.nodes p inside (λ U. refl) (λ U before. filter_rows Large at F (Tree.column q) P U r.small refl before) (λ large. step_modest Large at P (Tree.column q ∷ []) (plain_modest Large at P r.small (Tree.column q ∷ []) (refl, tt)) large) in
      given_small c f (record { state = record { nodes = m.state.nodes ++ p ∷ []; names = m.state.names }; stream = (length m.state.nodes, 0) }) h (over_small c.state m p r new)

  pub sort_by_small : (d n : List Bool) (e : Tree) (o : Operand) (by : List Operand) → AllAdd at input (o ∷ by) → AllDo (o ∷ by) → (IsTrue (is_some (kind_over t.schema e)) → Typed (exprs_of_all (o ∷ by))) → (IsModest Large at t e → AreModest Large at t (exprs_of_all (o ∷ by)))
      → Does e (sorted_by at input d n o by)
  sort_by_small d n e o keys adds steps typed_os modest_os c there nodes h inside typed modest = by (same_names (f ∷ []) (names_of (schema_at v.nodes j))) inside
    where
      os : List Operand
      os = o ∷ keys

      f : Name
      f = new_name c.state

      m : Made
      m = selected at input (under (new_names os c.state) os) (after_names os c.state)

      step : SortStep
      step = record { keys = columns_named (new_names keys (after_name c.state)); descending = d; nulls_last = n; cut = None }

      p : PhysicalNode
      p = record { kind = in_memory_map (sort step); schema = schema_at m.state.nodes m.stream; origin = at; inputs = m.stream ∷ [] }

      v : State
      v = record { nodes = m.state.nodes ++ p ∷ []; names = m.state.names }

      j : Stream
      j = (length m.state.nodes, 0)

      k : MadeFrom c.state.nodes m
      k = under_made at input os adds c.state there.ordered there.node

      sorted : Inside F N tables choice v.nodes → Makes c.state (record { state = v; stream = j })
      sorted first =
          let here = inserted m.state p k.0.1 (k.1, tt) in
          let r = under_small os adds steps c there (typed_os typed) (modest_os modest) (inside_before F N tables choice m.state.nodes v.nodes here.0 first) in
          let P = tables m.stream.0 in
          let plain = plain_columns (new_names keys (after_name c.state)) in
          let new = sized_one F N tables choice Large m.state.nodes p first (λ U. refl) (λ U before. sort_rows Large at F step P U r.small plain before) (λ large. step_modest Large at P step.keys (plain_modest Large at P r.small step.keys plain) large) in
          over_small c.state m p r new

      by : (b : Bool) → Inside F N tables choice (cond {A = Made} b (record { state = v; stream = j }) (projection at (f ∷ []) j v)).state.nodes
          → StepsTo F at input N tables choice Large few c (given (Tree.column f) (cond {A = Made} b (record { state = v; stream = j }) (projection at (f ∷ []) j v)).stream (cond {A = Made} b (record { state = v; stream = j }) (projection at (f ∷ []) j v)).state c)
      by true within = given_small c f (record { state = v; stream = j }) h (sorted within)
      by false within =
          let q : PhysicalNode = record { kind = simple_projection (f ∷ []); schema = unwrap_or (named_fields (f ∷ []) (schema_at v.nodes j)) []; origin = at; inputs = j ∷ [] } in
          let here = inserted m.state p k.0.1 (k.1, tt) in
          let last = inserted v q here.0.1 (here.1, tt) in
          let r = sorted (inside_before F N tables choice v.nodes (v.nodes ++ q ∷ []) last.0 within) in
          let new = sized_one F N tables choice Large v.nodes q within (λ U. refl) (λ U before. project_rows Large at F (f ∷ []) (tables j.0) U r.small before) (λ large. absurd large) in
          given_small c f (projection at (f ∷ []) j v) h (over_small c.state (record { state = v; stream = j }) q r new)

  -- a reduction: over the input itself, or over a stream of its own
  pub reduced_small : (a : Aggregation) → MakesOne at a → (o : Operand) → AddsTo at input o.rule → Does o.expr o.rule → (IsTrue (is_some (kind_over t.schema (Tree.aggregate a o.expr))) → IsTrue (is_some (kind_over t.schema o.expr)))
      → Does (Tree.aggregate a o.expr) (reduced_column at input a o)
  reduced_small a one o adds steps typed_o c there nodes h inside typed modest = by (is_stream_alone input b.streams b.reduced) inside
    where
      os : List Operand
      os = o ∷ []

      b : Bundle
      b = together at input os c.state

      ans : Answer
      ans = finished at input b

      new : Tree
      new = Tree.aggregate a (first_tree b.exprs)

      first_plain : (bs : List Tree) → length bs ≡ 1 → AllByRecursion (λ e. IsTrue (is_elementwise e)) bs → is_elementwise (first_tree bs) ≡ true
      first_plain [] l all = absurd (omega arith)
      first_plain (e ∷ bs) l all = all.0

      reducing : Gathers F at input N tables choice Large few os c.state b → IsReducing F at input N tables choice Large few new
      reducing r = inr (a, first_tree b.exprs, one, first_plain b.exprs r.count r.bundle.plain, refl)

      operands : AreModest Large at t (exprs_of_all os)
      operands = ((λ q part. modest q (inr part)), tt)

      by : (q : Bool) → Inside F N tables choice (cond {A = Call → Call} q (given_reduction new b.state) (reduced_apart at input new ans) c).state.nodes
          → StepsTo F at input N tables choice Large few c (cond {A = Call → Call} q (given_reduction new b.state) (reduced_apart at input new ans) c)
      by true within =
          let r = together_small F at input N tables choice Large few os (adds, tt) (steps, tt) c.state there (typed_o typed, tt) operands within in
          reduction_small c b.state new h (reducing r) r.bundle.made
      by false within =
          let f = new_name ans.state in
          let items : List Named = (f, new) ∷ [] in
          let p : PhysicalNode = record { kind = reduce items; schema = selected_schema items (schema_at ans.state.nodes ans.stream); origin = at; inputs = ans.stream ∷ [] } in
          let made = answers_made at input os (adds, tt) c.state there.ordered there.node in
          let here = inserted (after_name ans.state) p made.0.1 (made.1, tt) in
          let r = answered_small os (adds, tt) (steps, tt) c.state there (typed_o typed, tt) operands (inside_before F N tables choice ans.state.nodes (ans.state.nodes ++ p ∷ []) here.0 within) in
          let Z = tables ans.stream.0 in
          let node = select_node_small F at input N tables choice Large few ans.state p items Z within (λ U. refl) refl refl refl (reducing_modest F at input N tables choice Large few Z r.0.small new (reducing r.1), tt) in
          given_small c f (record { state = record { nodes = ans.state.nodes ++ p ∷ []; names = (after_name ans.state).names }; stream = (length ans.state.nodes, 0) }) h
          (record { small = last_small F N tables choice Large ans.state.nodes p node; made = sized_then F N tables choice Large c.state.nodes ans.state.nodes (ans.state.nodes ++ p ∷ []) r.0.made node })
