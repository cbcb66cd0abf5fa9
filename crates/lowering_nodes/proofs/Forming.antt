-- Each node that the rules make has as many inputs as its kind takes, and fit parameters.
use Rattle.std.proofs.Common.{◌≡◌, ℕ, suc, ◌+◌, ◌≤◌, ◌<◌, Bool, true, false, not, cond, List, [], ◌∷◌, ◌++◌, length, None, Some, refl, sym, ap, subst, ◌∙◌, arith, append_assoc, length-append, inl, inr}
use Rattle.std.specs.Prelude.{IsTrue, ◌&&◌, map, slice_get, unwrap_or, flat_map, ⊤}
use Rattle.std.specs.List.{AllByRecursion, list_all, list_any}
use Rattle.std.proofs.lemmas.List.{append-nil}
use Rattle.std.proofs.lemmas.Option.{same_Some, slice_get_within}
use Rattle.ps_frame.proofs.Lists.{and_both}
use Rattle.ps_frame.specs.Causes.{is_empty}
use Rattle.ps_frame.specs.Functions.{Functions}
use Rattle.ps_frame.specs.Trees.{Aggregation, Tree, Trees}
use Rattle.ps_frame.specs.Typing.{is_elementwise, is_independent}
use Rattle.ps_frame.specs.declared.expr.Operator.{Operator}
use Rattle.ps_frame.specs.declared.value.DataType.{DataType}
use Rattle.ps_meaning.specs.Schemas.{named_fields, names_of, schema_or_empty}
use Rattle.ps_meaning.specs.Shape.{PhysicalNode, Shape, filter_node, in_memory_map, independent_select, reduce, select_node, simple_projection, zip_node}
use Rattle.ps_meaning.specs.Sound.{HasFitParameters, HasInputs, IsReduced, IsReduction, rules_of, schema_at as schema_of}
use Rattle.ps_meaning.specs.Steps.{Name, Named, SortStep, exprs_of, select, sort}
use Rattle.ps_rules.specs.Bundles.{finished, gathered, is_stream_alone, names_kept, one_of, one_stream, with_map, with_reduce, without_map}
use Rattle.ps_rules.specs.Calls.{Answer, Bundle, Call, Operand, all_independent, each, exprs_of_all, given, given_reduction, left_to_map, new_call}
use Rattle.ps_rules.specs.Lowered.{as_operand, lower, lower_exprs, operands, select_stream}
use Rattle.ps_rules.specs.Rules.{NamedOperand, aggregated, answered, apart_from_input, are_own_columns, computed, filtered_column, first_tree, names_of_items, operands_of, over_input, over_operands, reduced_apart, reduced_column, selected, sorted_by, sorted_column, stays, stays_or, together}
use Rattle.ps_rules.specs.Slots.{Made, State, Stream, added, after_name, after_names, columns_named, new_name, new_names, projection, same_names, schema_at, selected_schema, under, with_columns, without_input}
use Rattle.ps_shares.specs.Kept.{IsOrdered, IsReady}
use Rattle.ps_shares.proofs.Adding.{calls_add, named_nodes}
use Rattle.ps_shares.proofs.Ends.{exprs_under}
use Rattle.ps_shares.proofs.Growing.{binary_of, cast_of, gathered_exprs, ternary_of}
use Rattle.ps_shares.proofs.Members.{from_has}
use Rattle.ps_bundles.proofs.CallSteps.{all_and}
use Rattle.ps_bundles.proofs.ExprEnds.{from_each}
use Rattle.ps_bundles.proofs.SortSteps.{under_operands}
use Rattle.ps_bundles.proofs.ZipEnds.{differ}
use Rattle.lowering_nodes.specs.Formed.{ExprsFormNodes, NewAreFormed, SelectsFormNodes}
use Rattle.name_rules.proofs.Listing.{added_more, added_some, all_added_more, all_added_some, and_true, any_reads, columns_read, count_columns, count_items, either_false, empty_none, false_one, first_reduced, items_all, list_plain, one_holds, plain_columns, some_operands, under_independent, at_seam, joined_streams, schemas_before}
use Rattle.std.proofs.lemmas.Bool.{cases_lt}

module _ (F : Functions) (at : ℕ) (input : Stream) where
  -- what is so of a node over those before it
  abbrev IsRight : Shape → PhysicalNode → Type 0
  IsRight a p = HasInputs p.kind (length p.inputs) × HasFitParameters F p.kind × (p.schema ≡ schema_or_empty F (rules_of p.kind) (map (schema_at a) p.inputs))

  abbrev AllRight : Shape → Shape → Type 0
  AllRight a [] = ⊤
  AllRight a (p ∷ ps) = IsRight a p × AllRight (a ++ p ∷ []) ps

  right_then : (a xs ys : Shape) → AllRight a xs → AllRight (a ++ xs) ys → AllRight a (xs ++ ys)
  right_then a [] ys p q = subst (λ n. AllRight n ys) (append-nil a) q
  right_then a (x ∷ xs) ys p q = (p.0, right_then (a ++ x ∷ []) xs ys p.1 (subst (λ n. AllRight n ys) (sym (append_assoc a (x ∷ []) xs)) q))

  -- the nodes that were there, and new ones that are right
  pub record Extends (a b : Shape) : Type 0 where
    pub more : Shape
    pub nodes : b ≡ a ++ more
    pub right : AllRight a more

  extends_none : (a : Shape) → Extends a a
  extends_none a = record { more = []; nodes = sym (append-nil a); right = tt }

  extends_then : (a b c : Shape) → Extends a b → Extends b c → Extends a c
  extends_then a b c p q = record { more = p.more ++ q.more; nodes = q.nodes ∙ ap (λ n. n ++ q.more) p.nodes ∙ append_assoc a p.more q.more; right = right_then a p.more q.more p.right (subst (λ n. AllRight n q.more) p.nodes q.right) }

  extends_one : (a : Shape) (p : PhysicalNode) → IsRight a p → Extends a (a ++ p ∷ [])
  extends_one a p right = record { more = p ∷ []; nodes = refl; right = (right, tt) }

  abbrev Plain : List Tree → Type 0
  Plain es = AllByRecursion (λ e. IsTrue (is_elementwise e)) es

  abbrev Reductions : List Named → Type 0
  Reductions rs = AllByRecursion (λ (m : Named). IsReduction m.1) rs

  -- what a call has gathered
  pub record FitCall (c : Call) : Type 0 where
    pub plain : Plain c.exprs
    pub reduced : Reductions c.reduced

  abbrev held : Call → ℕ
  held c = length c.streams + (length c.reduced + length c.mapped)

  -- What a call does at an expression: one more is answered, which reads the input or what was made of it where the asked one does.
  pub record StepsTo (e : Tree) (c d : Call) : Type 0 where
    pub fit : FitCall d
    pub made : Extends c.state.nodes d.state.nodes
    pub new : Tree
    pub answers : d.exprs ≡ c.exprs ++ new ∷ []
    pub reads : is_independent e ≡ false → is_independent new ≡ false
    pub stay : held c ≤ held d
    pub holds : is_independent e ≡ false → 1 ≤ held d

  abbrev Steps : Tree → (Call → Call) → Type 0
  Steps e rule = (c : Call) → FitCall c → StepsTo e c (rule c)

  abbrev AllSteps : List Operand → Type 0
  AllSteps os = AllByRecursion (λ (o : Operand). Steps o.expr o.rule) os

  one_plain : (es : List Tree) (e : Tree) → Plain es → IsTrue (is_elementwise e) → Plain (es ++ e ∷ [])
  one_plain es e all plain = all_and (λ e. IsTrue (is_elementwise e)) es (e ∷ []) all (plain, tt)

  left_fit : (e : Tree) → Steps e (left_to_map e)
  left_fit e c h =
      let l = length-append c.mapped ((new_name c.state, e) ∷ []) in
      record {
        fit = record { plain = one_plain c.exprs (Tree.column (new_name c.state)) h.plain refl; reduced = h.reduced };
        made = extends_none c.state.nodes;
        new = Tree.column (new_name c.state);
        answers = refl;
        reads = λ q. refl;
        stay = omega arith;
        holds = λ q. omega arith;
      }

  stays_fit : (e : Tree) → is_elementwise e ≡ true → Steps e (stays at input e)
  stays_fit e plain c h = by (is_independent e) refl
    where
      by : (b : Bool) → is_independent e ≡ b → StepsTo e c (record { state = c.state; streams = cond b c.streams (added input c.streams); reduced = c.reduced; exprs = c.exprs ++ e ∷ []; mapped = c.mapped })
      by true q =
          record {
            fit = record { plain = one_plain c.exprs e h.plain plain; reduced = h.reduced };
            made = extends_none c.state.nodes;
            new = e;
            answers = refl;
            reads = λ r. r;
            stay = omega arith;
            holds = λ r. absurd (differ (sym q ∙ r));
          }
      by false q =
          let a = added_more input c.streams in
          let b = added_some input c.streams in
          record {
            fit = record { plain = one_plain c.exprs e h.plain plain; reduced = h.reduced };
            made = extends_none c.state.nodes;
            new = e;
            answers = refl;
            reads = λ r. r;
            stay = omega arith;
            holds = λ r. omega arith;
          }

  stays_or_fit : (e : Tree) (rule : Call → Call) → (is_elementwise e ≡ false → Steps e rule) → Steps e (stays_or at input e rule)
  stays_or_fit e rule rest = by (is_elementwise e) refl
    where
      by : (b : Bool) → is_elementwise e ≡ b → Steps e (cond {A = Call → Call} b (stays at input e) rule)
      by true q = stays_fit e q
      by false q = rest q

  -- the rules of some operands, one after the other
  pub record EachTo (os : List Operand) (c d : Call) : Type 0 where
    pub fit : FitCall d
    pub made : Extends c.state.nodes d.state.nodes
    pub news : List Tree
    pub answers : d.exprs ≡ c.exprs ++ news
    pub count : length news ≡ length os
    pub reads : all_independent (exprs_of_all os) ≡ false → all_independent news ≡ false
    pub stay : held c ≤ held d
    pub holds : all_independent (exprs_of_all os) ≡ false → 1 ≤ held d

  each_fit : (os : List Operand) → AllSteps os → (c : Call) → FitCall c → EachTo os c (each os c)
  each_fit [] steps c h =
      record { fit = h; made = extends_none c.state.nodes; news = []; answers = sym (append-nil c.exprs); count = refl; reads = λ q. absurd (differ q); stay = omega arith; holds = λ q. absurd (differ q) }
  each_fit (o ∷ os) steps c h =
      let d = o.rule c in
      let s = steps.0 c h in
      let r = each_fit os steps.1 d s.fit in
      let x = s.stay in
      let y = r.stay in
      record {
        fit = r.fit;
        made = extends_then c.state.nodes d.state.nodes (each os d).state.nodes s.made r.made;
        news = s.new ∷ r.news;
        answers = r.answers ∙ ap (λ xs. xs ++ r.news) s.answers ∙ append_assoc c.exprs (s.new ∷ []) r.news;
        count = ap suc r.count;
        reads = either_false (is_independent o.expr) (all_independent (exprs_of_all os)) (is_independent s.new) (all_independent r.news) s.reads r.reads;
        stay = omega arith;
        holds = λ q. one_holds (held d) (held (each os d)) (false_one (is_independent o.expr) (all_independent (exprs_of_all os)) q) s.holds y r.holds;
      }

  -- what a call has gathered in the end
  pub record FitBundle (s : State) (b : Bundle) : Type 0 where
    pub plain : Plain b.exprs
    pub reduced : Reductions b.reduced
    pub made : Extends s.nodes b.state.nodes
    pub holds : 1 ≤ length b.streams + length b.reduced

  columns_fit : (ns : List Name) (i : Stream) (s : State) → Extends s.nodes (with_columns at ns i s).state.nodes
  columns_fit ns i s = by (same_names ns (names_of (schema_at s.nodes i)))
    where
      by : (b : Bool) → Extends s.nodes (cond {A = Made} b (record { state = s; stream = i }) (projection at ns i s)).state.nodes
      by true = extends_none s.nodes
      by false = extends_one s.nodes (record { kind = simple_projection ns; schema = unwrap_or (named_fields ns (schema_at s.nodes i)) []; origin = at; inputs = i ∷ [] }) (refl, tt, refl)

  gathered_fit : (c : Call) → FitCall c → 1 ≤ held c → FitBundle c.state (gathered at input c)
  gathered_fit c h some = by (is_empty c.mapped) refl
    where
      by : (b : Bool) → is_empty c.mapped ≡ b → FitBundle c.state (cond {A = Bundle} b (without_map at input c) (with_map at input c))
      by true q = let l = empty_none c.mapped q in record { plain = h.plain; reduced = h.reduced; made = extends_none c.state.nodes; holds = omega arith }
      by false q =
          let s = c.state in
          let items = c.mapped in
          let ns = names_kept items (schema_at s.nodes input) in
          let below = with_columns at ns input s in
          let p : PhysicalNode = record { kind = in_memory_map (select items); schema = selected_schema items (schema_at below.state.nodes below.stream); origin = at; inputs = below.stream ∷ [] } in
          let l = added_some (length below.state.nodes, 0) c.streams in
          record {
            plain = h.plain;
            reduced = h.reduced;
            made = extends_then s.nodes below.state.nodes (below.state.nodes ++ p ∷ []) (columns_fit ns input s) (extends_one below.state.nodes p (refl, tt, refl));
            holds = omega arith;
          }

  zip_fit : (ss : List Stream) (s : State) → 1 ≤ length ss → Extends s.nodes (s.nodes ++ (record { kind = zip_node false; schema = flat_map (schema_at s.nodes) ss; origin = at; inputs = ss }) ∷ [])
  zip_fit ss s some = extends_one s.nodes (record { kind = zip_node false; schema = flat_map (schema_at s.nodes) ss; origin = at; inputs = ss }) (some, tt, joined_streams s.nodes ss)

  stream_fit : (ss : List Stream) (s : State) → 1 ≤ length ss → Extends s.nodes (one_stream at input ss s).state.nodes
  stream_fit [] s some = zip_fit [] s some
  stream_fit (i ∷ []) s some = extends_none s.nodes
  stream_fit (i ∷ j ∷ more) s some = zip_fit (i ∷ j ∷ more) s some

  -- the end of a call
  one_fit : (b : Bundle) → Reductions b.reduced → 1 ≤ length b.streams + length b.reduced → Extends b.state.nodes (one_of at input b.streams b.reduced b.state).state.nodes
  one_fit b reduced some = by (is_empty b.reduced) refl
    where
      by : (e : Bool) → is_empty b.reduced ≡ e → Extends b.state.nodes (cond {A = State → Made} e (one_stream at input b.streams) (with_reduce at input b.streams b.reduced) b.state).state.nodes
      by true q = let l = empty_none b.reduced q in stream_fit b.streams b.state (omega arith)
      by false q =
          let s = b.state in
          let rs = b.reduced in
          let p : PhysicalNode = record { kind = reduce rs; schema = selected_schema rs (schema_at s.nodes input); origin = at; inputs = input ∷ [] } in
          let later : State = record { nodes = s.nodes ++ p ∷ []; names = s.names } in
          let i : Stream = (length s.nodes, 0) in
          let l = length-append b.streams (i ∷ []) in
          extends_then s.nodes later.nodes (one_stream at input (b.streams ++ i ∷ []) later).state.nodes (extends_one s.nodes p (refl, items_all IsReduction rs reduced, refl)) (stream_fit (b.streams ++ i ∷ []) later (omega arith))

  without_fit : (ns : List Name) (es : List Tree) (s : State) → list_all is_independent es ≡ true → Extends s.nodes (without_input at (under ns es) s).state.nodes
  without_fit ns es s q = extends_one s.nodes (record { kind = independent_select (under ns es); schema = selected_schema (under ns es) []; origin = at; inputs = [] }) (refl, under_independent ns es q, refl)

  -- what one call for some expressions gathers
  pub record Gathers (os : List Operand) (s : State) (b : Bundle) : Type 0 where
    pub bundle : FitBundle s b
    pub count : length b.exprs ≡ length os
    pub reads : 1 ≤ length os → all_independent b.exprs ≡ false

  together_fit : (os : List Operand) → AllSteps os → (s : State) → Gathers os s (together at input os s)
  together_fit os steps s = by (all_independent (exprs_of_all os)) refl
    where
      by : (b : Bool) → all_independent (exprs_of_all os) ≡ b → Gathers os s (cond {A = State → Bundle} b (apart_from_input at input (exprs_of_all os)) (over_input at input os) s)
      by true q =
          let es = exprs_of_all os in
          let ns = new_names es s in
          let a = after_names es s in
          record {
            bundle = record { plain = plain_columns ns; reduced = tt; made = subst (λ from. Extends from (without_input at (under ns es) a).state.nodes) (named_nodes es s) (without_fit ns es a q); holds = omega arith };
            count = count_columns os s;
            reads = columns_read os s;
          }
      by false q =
          let c = new_call s in
          let d = each os c in
          let none : FitCall c = record { plain = tt; reduced = tt } in
          let r = each_fit os steps c none in
          let b = gathered_fit d r.fit (r.holds q) in
          let is : (gathered at input d).exprs ≡ r.news = gathered_exprs at input d ∙ r.answers in
          record {
            bundle = record { plain = b.plain; reduced = b.reduced; made = extends_then s.nodes d.state.nodes (gathered at input d).state.nodes r.made b.made; holds = b.holds };
            count = ap length is ∙ r.count;
            reads = λ some. ap all_independent is ∙ r.reads q;
          }

  answered_fit : (os : List Operand) → AllSteps os → (s : State) → Extends s.nodes (answered at input os s).state.nodes
  answered_fit os steps s =
      let b = together at input os s in
      let r = together_fit os steps s in
      extends_then s.nodes b.state.nodes (answered at input os s).state.nodes r.bundle.made (one_fit b r.bundle.reduced r.bundle.holds)

  -- an operator over operands that are lowered together
  operator_fit : (e : Tree) (op : List Tree → Tree) (os : List Operand) → AllSteps os → 1 ≤ length os → ((bs : List Tree) → length bs ≡ length os → Plain bs → is_elementwise (op bs) ≡ true)
      → ((bs : List Tree) → length bs ≡ length os → all_independent bs ≡ false → is_independent (op bs) ≡ false) → Steps e (over_operands at input op os)
  operator_fit e op os steps some plain reads c h =
      let b = together at input os c.state in
      let r = together_fit os steps c.state in
      let x = all_added_more b.streams c.streams in
      let y = all_added_some b.streams c.streams (length c.reduced) (length b.reduced) (length c.mapped) r.bundle.holds in
      let l = length-append c.reduced b.reduced in
      record {
        fit = record { plain = one_plain c.exprs (op b.exprs) h.plain (plain b.exprs r.count r.bundle.plain); reduced = all_and (λ (m : Named). IsReduction m.1) c.reduced b.reduced h.reduced r.bundle.reduced };
        made = r.bundle.made;
        new = op b.exprs;
        answers = refl;
        reads = λ q. reads b.exprs r.count (r.reads some);
        stay = omega arith;
        holds = λ q. omega arith;
      }

  -- an answer over a stream of its own
  given_fit : (e : Tree) (c : Call) (f : Name) (m : Made) → FitCall c → Extends c.state.nodes m.state.nodes → StepsTo e c (given (Tree.column f) m.stream m.state c)
  given_fit e c f m h made =
      let a = added_more m.stream c.streams in
      let b = added_some m.stream c.streams in
      record {
        fit = record { plain = one_plain c.exprs (Tree.column f) h.plain refl; reduced = h.reduced };
        made = made;
        new = Tree.column f;
        answers = refl;
        reads = λ q. refl;
        stay = omega arith;
        holds = λ q. omega arith;
      }

  -- an answer over the reduce of the input
  reduction_fit : (x : Tree) (c : Call) (s : State) (e : Tree) → FitCall c → IsReduction e → Extends c.state.nodes s.nodes → StepsTo x c (given_reduction e s c)
  reduction_fit x c s e h is made =
      let l = length-append c.reduced ((new_name s, e) ∷ []) in
      record {
        fit = record { plain = one_plain c.exprs (Tree.column (new_name s)) h.plain refl; reduced = all_and (λ (m : Named). IsReduction m.1) c.reduced ((new_name s, e) ∷ []) h.reduced (is, tt) };
        made = made;
        new = Tree.column (new_name s);
        answers = refl;
        reads = λ q. refl;
        stay = omega arith;
        holds = λ q. omega arith;
      }

  -- a select
  selected_fit : (items : List NamedOperand) → AllSteps (operands_of items) → (s : State) → Extends s.nodes (selected at input items s).state.nodes
  selected_fit items steps s = by (all_independent (exprs_of_all (operands_of items))) (are_own_columns items) refl
    where
      by : (a b : Bool) → all_independent (exprs_of_all (operands_of items)) ≡ a
          → Extends s.nodes (cond {A = State → Made} a (without_input at (under (names_of_items items) (exprs_of_all (operands_of items)))) (cond {A = State → Made} b (with_columns at (names_of_items items) input) (computed at input items)) s).state.nodes
      by true b q = without_fit (names_of_items items) (exprs_of_all (operands_of items)) s q
      by false true q = columns_fit (names_of_items items) input s
      by false false q =
          let os = operands_of items in
          let a = answered at input os s in
          let es = under (names_of_items items) a.exprs in
          let p : PhysicalNode = record { kind = select_node es false; schema = selected_schema es (schema_at a.state.nodes a.stream); origin = at; inputs = a.stream ∷ [] } in
          let r = together_fit os steps s in
          let is : exprs_of es ≡ a.exprs = exprs_under (names_of_items items) a.exprs (count_items items ∙ sym r.count) in
          let plain : list_all is_elementwise (exprs_of es) ≡ true = ap (list_all is_elementwise) is ∙ list_plain a.exprs r.bundle.plain in
          let reads : list_any (λ e. not (is_independent e)) (exprs_of es) ≡ true = ap (list_any (λ e. not (is_independent e))) is ∙ any_reads a.exprs (r.reads (some_operands os q)) in
          extends_then s.nodes a.state.nodes (a.state.nodes ++ p ∷ []) (answered_fit os steps s) (extends_one a.state.nodes p (refl, (plain, reads), refl))

  -- values and keys under fresh names, selected
  under_fit : (os : List Operand) → AllSteps os → (s : State) → Extends s.nodes (selected at input (under (new_names os s) os) (after_names os s)).state.nodes
  under_fit os steps s =
      subst (λ n. Extends n (selected at input (under (new_names os s) os) (after_names os s)).state.nodes) (named_nodes os s) (selected_fit (under (new_names os s) os) (subst AllSteps (sym (under_operands os s)) steps) (after_names os s))

  sort_fit : (d n : Bool) (o : Operand) → Steps o.expr o.rule → Steps (Tree.sort d n o.expr) (sorted_column at input d n o)
  sort_fit d n o steps c h =
      let os = o ∷ [] in
      let f = new_name c.state in
      let m = selected at input (under (new_names os c.state) os) (after_names os c.state) in
      let step : SortStep = record { keys = Tree.column f ∷ []; descending = d ∷ []; nulls_last = n ∷ []; cut = None } in
      let p : PhysicalNode = record { kind = in_memory_map (sort step); schema = schema_at m.state.nodes m.stream; origin = at; inputs = m.stream ∷ [] } in
      given_fit (Tree.sort d n o.expr) c f (record { state = record { nodes = m.state.nodes ++ p ∷ []; names = m.state.names }; stream = (length m.state.nodes, 0) }) h
      (extends_then c.state.nodes m.state.nodes (m.state.nodes ++ p ∷ []) (under_fit os (steps, tt) c.state) (extends_one m.state.nodes p (refl, tt, refl)))

  filter_fit : (o by : Operand) → Steps o.expr o.rule → Steps by.expr by.rule → Steps (Tree.filter o.expr by.expr) (filtered_column at input o by)
  filter_fit o by steps steps' c h =
      let os = o ∷ by ∷ [] in
      let f = new_name c.state in
      let q = new_name (after_name c.state) in
      let m = selected at input (under (new_names os c.state) os) (after_names os c.state) in
      let p : PhysicalNode = record { kind = filter_node (Tree.column q); schema = schema_at m.state.nodes m.stream; origin = at; inputs = m.stream ∷ [] } in
      given_fit (Tree.filter o.expr by.expr) c f (record { state = record { nodes = m.state.nodes ++ p ∷ []; names = m.state.names }; stream = (length m.state.nodes, 0) }) h
      (extends_then c.state.nodes m.state.nodes (m.state.nodes ++ p ∷ []) (under_fit os (steps, (steps', tt)) c.state) (extends_one m.state.nodes p (refl, refl, refl)))

  sort_by_fit : (d n : List Bool) (e : Tree) (o : Operand) (keys : List Operand) → AllSteps (o ∷ keys) → Steps e (sorted_by at input d n o keys)
  sort_by_fit d n e o keys steps c h =
      let os = o ∷ keys in
      let f = new_name c.state in
      let m = selected at input (under (new_names os c.state) os) (after_names os c.state) in
      let step : SortStep = record { keys = columns_named (new_names keys (after_name c.state)); descending = d; nulls_last = n; cut = None } in
      let p : PhysicalNode = record { kind = in_memory_map (sort step); schema = schema_at m.state.nodes m.stream; origin = at; inputs = m.stream ∷ [] } in
      let v : State = record { nodes = m.state.nodes ++ p ∷ []; names = m.state.names } in
      let j : Stream = (length m.state.nodes, 0) in
      let w = with_columns at (f ∷ []) j v in
      given_fit e c f w h
      (extends_then c.state.nodes v.nodes w.state.nodes (extends_then c.state.nodes m.state.nodes v.nodes (under_fit os steps c.state) (extends_one m.state.nodes p (refl, tt, refl))) (columns_fit (f ∷ []) j v))

  -- a reduction: over the input itself, or over a stream of its own
  reduced_fit : (a : Aggregation) → ((e : Tree) → IsReduced e → IsReduction (Tree.aggregate a e)) → (o : Operand) → Steps o.expr o.rule → Steps (Tree.aggregate a o.expr) (reduced_column at input a o)
  reduced_fit a reduction o steps c h = by (is_stream_alone input b.streams b.reduced)
    where
      os : List Operand
      os = o ∷ []

      b : Bundle
      b = together at input os c.state

      ans : Answer
      ans = finished at input b

      new : Tree
      new = Tree.aggregate a (first_tree b.exprs)

      r : Gathers os c.state b
      r = together_fit os (steps, tt) c.state

      some : 1 ≤ length os
      some = omega arith

      is : IsReduction new
      is = reduction (first_tree b.exprs) (first_reduced b.exprs r.count r.bundle.plain (r.reads some))

      by : (q : Bool) → StepsTo (Tree.aggregate a o.expr) c (cond {A = Call → Call} q (given_reduction new b.state) (reduced_apart at input new ans) c)
      by true = reduction_fit (Tree.aggregate a o.expr) c b.state new h is r.bundle.made
      by false =
          let f = new_name ans.state in
          let items : List Named = (f, new) ∷ [] in
          let p : PhysicalNode = record { kind = reduce items; schema = selected_schema items (schema_at ans.state.nodes ans.stream); origin = at; inputs = ans.stream ∷ [] } in
          given_fit (Tree.aggregate a o.expr) c f (record { state = record { nodes = ans.state.nodes ++ p ∷ []; names = (after_name ans.state).names }; stream = (length ans.state.nodes, 0) }) h
          (extends_then c.state.nodes ans.state.nodes (ans.state.nodes ++ p ∷ []) (answered_fit os (steps, tt) c.state) (extends_one ans.state.nodes p (refl, (is, tt), refl)))

  aggregate_fit : (a : Aggregation) (o : Operand) → Steps o.expr o.rule → Steps (Tree.aggregate a o.expr) (aggregated at input a o (Tree.aggregate a o.expr))
  aggregate_fit Aggregation.n_unique o s = left_fit (Tree.aggregate Aggregation.n_unique o.expr)
  aggregate_fit (Aggregation.count all) o s = left_fit (Tree.aggregate (Aggregation.count all) o.expr)
  aggregate_fit Aggregation.min o s = reduced_fit Aggregation.min (λ e h. h) o s
  aggregate_fit Aggregation.max o s = reduced_fit Aggregation.max (λ e h. h) o s
  aggregate_fit Aggregation.first o s = reduced_fit Aggregation.first (λ e h. h) o s
  aggregate_fit Aggregation.last o s = reduced_fit Aggregation.last (λ e h. h) o s
  aggregate_fit Aggregation.sum o s = reduced_fit Aggregation.sum (λ e h. h) o s

  -- operators
  abbrev Does : Tree → Type 0
  Does e = Steps e (lower at input e)

  cast_fit : (k : DataType) (strict : Bool) (e : Tree) → Does e → Steps (Tree.cast k strict e) (over_operands at input (cast_of k strict) (as_operand at input e ∷ []))
  cast_fit k strict e s = operator_fit (Tree.cast k strict e) (cast_of k strict) (as_operand at input e ∷ []) (s, tt) (omega arith) plain reads
    where
      plain : (bs : List Tree) → length bs ≡ 1 → Plain bs → is_elementwise (cast_of k strict bs) ≡ true
      plain [] n all = absurd (omega arith)
      plain (a ∷ bs) n all = all.0

      reads : (bs : List Tree) → length bs ≡ 1 → all_independent bs ≡ false → is_independent (cast_of k strict bs) ≡ false
      reads [] n q = absurd (omega arith)
      reads (a ∷ []) n q = sym (and_true (is_independent a)) ∙ q
      reads (a ∷ b ∷ bs) n q = absurd (omega arith)

  binary_fit : (o : Operator) (l r : Tree) → Does l → Does r → Steps (Tree.binary o l r) (over_operands at input (binary_of o) (as_operand at input l ∷ as_operand at input r ∷ []))
  binary_fit o l r s s' = operator_fit (Tree.binary o l r) (binary_of o) (as_operand at input l ∷ as_operand at input r ∷ []) (s, (s', tt)) (omega arith) plain reads
    where
      plain : (bs : List Tree) → length bs ≡ 2 → Plain bs → is_elementwise (binary_of o bs) ≡ true
      plain [] n all = absurd (omega arith)
      plain (a ∷ []) n all = absurd (omega arith)
      plain (a ∷ b ∷ bs) n all = and_both (is_elementwise a) (is_elementwise b) all.0 all.1.0

      reads : (bs : List Tree) → length bs ≡ 2 → all_independent bs ≡ false → is_independent (binary_of o bs) ≡ false
      reads [] n q = absurd (omega arith)
      reads (a ∷ []) n q = absurd (omega arith)
      reads (a ∷ b ∷ []) n q = ap (λ x. is_independent a && x) (sym (and_true (is_independent b))) ∙ q
      reads (a ∷ b ∷ c ∷ bs) n q = absurd (omega arith)

  ternary_fit : (p x y : Tree) → Does p → Does x → Does y → Steps (Tree.ternary p x y) (over_operands at input ternary_of (as_operand at input p ∷ as_operand at input x ∷ as_operand at input y ∷ []))
  ternary_fit p x y s0 s1 s2 = operator_fit (Tree.ternary p x y) ternary_of (as_operand at input p ∷ as_operand at input x ∷ as_operand at input y ∷ []) (s0, (s1, (s2, tt))) (omega arith) plain reads
    where
      plain : (bs : List Tree) → length bs ≡ 3 → Plain bs → is_elementwise (ternary_of bs) ≡ true
      plain [] n all = absurd (omega arith)
      plain (a ∷ []) n all = absurd (omega arith)
      plain (a ∷ b ∷ []) n all = absurd (omega arith)
      plain (a ∷ b ∷ c ∷ bs) n all = and_both (is_elementwise a) (is_elementwise b && is_elementwise c) all.0 (and_both (is_elementwise b) (is_elementwise c) all.1.0 all.1.1.0)

      reads : (bs : List Tree) → length bs ≡ 3 → all_independent bs ≡ false → is_independent (ternary_of bs) ≡ false
      reads [] n q = absurd (omega arith)
      reads (a ∷ []) n q = absurd (omega arith)
      reads (a ∷ b ∷ []) n q = absurd (omega arith)
      reads (a ∷ b ∷ c ∷ []) n q = ap (λ x. is_independent a && (is_independent b && x)) (sym (and_true (is_independent c))) ∙ q
      reads (a ∷ b ∷ c ∷ d ∷ bs) n q = absurd (omega arith)

  mutual
    steps : (e : Tree) → Does e
    steps (Tree.column name) = stays_or_fit (Tree.column name) (λ call. call) (λ q. absurd (differ q))
    steps (Tree.literal l) = stays_or_fit (Tree.literal l) (λ call. call) (λ q. absurd (differ q))
    steps (Tree.binary o l r) =
        let x = steps l in
        let y = steps r in
        stays_or_fit (Tree.binary o l r) (over_operands at input (binary_of o) (as_operand at input l ∷ as_operand at input r ∷ [])) (λ q. binary_fit o l r x y)
    steps (Tree.cast k strict e) =
        let x = steps e in
        stays_or_fit (Tree.cast k strict e) (over_operands at input (cast_of k strict) (as_operand at input e ∷ [])) (λ q. cast_fit k strict e x)
    steps (Tree.ternary p a b) =
        let x = steps p in
        let y = steps a in
        let z = steps b in
        stays_or_fit (Tree.ternary p a b) (over_operands at input ternary_of (as_operand at input p ∷ as_operand at input a ∷ as_operand at input b ∷ [])) (λ q. ternary_fit p a b x y z)
    steps (Tree.function g e) = stays_or_fit (Tree.function g e) (left_to_map (Tree.function g e)) (λ q. left_fit (Tree.function g e))
    steps (Tree.sort d n e) = sort_fit d n (as_operand at input e) (steps e)
    steps (Tree.sort_by d n e by) = sort_by_fit d n (Tree.sort_by d n e by) (as_operand at input e) (operands at input by) (steps e, all_steps by)
    steps (Tree.gather s e i) = left_fit (Tree.gather s e i)
    steps (Tree.filter e by) = filter_fit (as_operand at input e) (as_operand at input by) (steps e) (steps by)
    steps (Tree.aggregate a e) = aggregate_fit a (as_operand at input e) (steps e)
    steps (Tree.slice e o l) = left_fit (Tree.slice e o l)
    steps Tree.len = λ c h. reduction_fit Tree.len c c.state Tree.len h tt (extends_none c.state.nodes)
    steps (Tree.left_out w) = left_fit (Tree.left_out w)
    steps Tree.missing = left_fit Tree.missing

    all_steps : (es : Trees) → AllSteps (operands at input es)
    all_steps Trees.no_trees = tt
    all_steps (Trees.tree e es) = (steps e, all_steps es)

  list_steps : (es : List Tree) → AllSteps (map (as_operand at input) es)
  list_steps [] = tt
  list_steps (e ∷ es) = (steps e, list_steps es)

  item_steps : (es : List Named) → AllSteps (operands_of (map (λ (e : Named). (e.0, as_operand at input e.1)) es))
  item_steps [] = tt
  item_steps (e ∷ es) = (steps e.1, item_steps es)

  -- the node of a number, over those before it
  record Found (nodes : Shape) (n : ℕ) (p : PhysicalNode) : Type 0 where
    before : Shape
    rest : Shape
    whole : nodes ≡ before ++ rest
    count : length before ≡ n
    right : IsRight before p

  new_right : (a more : Shape) (n : ℕ) (p : PhysicalNode) → AllRight a more → length a ≤ n → slice_get (a ++ more) n ≡ Some p → Found (a ++ more) n p
  new_right a [] n p all le e =
      let lt = slice_get_within (a ++ []) n p e in
      let l = length-append {A = PhysicalNode} a [] in
      absurd (omega arith)
  new_right a (x ∷ more) n p all le e =
      let l = length-append a (x ∷ []) in
      let w = append_assoc a (x ∷ []) more in
      elim (cases_lt (length a) n) [
        | inl lt ↦
            let f = new_right (a ++ x ∷ []) more n p all.1 (omega arith) (ap (λ nodes. slice_get nodes n) w ∙ e) in
            record { before = f.before; rest = f.rest; whole = sym w ∙ f.whole; count = f.count; right = f.right }
        | inr ge ↦
            let same : length a ≡ n = omega arith in
            let is : Some x ≡ Some p = sym (at_seam a x more) ∙ ap (slice_get (a ++ x ∷ more)) same ∙ e in
            record { before = a; rest = x ∷ more; whole = refl; count = same; right = subst (IsRight a) (same_Some x p is) all.0 }
      ]

  formed : (a b : Shape) → Extends a b → IsOrdered b → NewAreFormed F a b
  formed a b h ordered n p le e =
      let f = new_right a h.more n p h.right le (sym (ap (λ nodes. slice_get nodes n) h.nodes) ∙ e) in
      let earlier : AllByRecursion (λ (i : Stream). i.0 < n) p.inputs = from_each (λ (i : Stream). i.0 < n) p.inputs (λ i has. ordered n p i e (from_has p.inputs i has)) in
      let below = schemas_before f.before f.rest p.inputs (subst (λ m. AllByRecursion (λ (i : Stream). i.0 < m) p.inputs) (sym f.count) earlier) in
      record {
        earlier = earlier;
        inputs = f.right.0;
        parameters = f.right.1;
        schema = f.right.2 ∙ ap (schema_or_empty F (rules_of p.kind)) (below ∙ ap (λ nodes. map (λ (i : Stream). schema_of (slice_get nodes i.0)) p.inputs) (sym f.whole ∙ sym h.nodes));
      }

  pub of_exprs : (s : State) (es : List Tree) → IsReady s input es → NewAreFormed F s.nodes (lower_exprs at input es s).state.nodes
  of_exprs s es ready = formed s.nodes (lower_exprs at input es s).state.nodes (answered_fit (map (as_operand at input) es) (list_steps es) s) (calls_add.exprs at input s es ready).ordered

  pub of_selects : (s : State) (es : List Named) → IsReady s input (exprs_of es) → NewAreFormed F s.nodes (select_stream at input es s).state.nodes
  of_selects s es ready =
      formed s.nodes (select_stream at input es s).state.nodes (selected_fit (map (λ (e : Named). (e.0, as_operand at input e.1)) es) (item_steps es) s) (calls_add.selects at input s es ready).ordered

pub exprs_form_nodes : ExprsFormNodes
exprs_form_nodes F at input s es ready = of_exprs F at input s es ready

pub selects_form_nodes : SelectsFormNodes
selects_form_nodes F at input s es ready = of_selects F at input s es ready
