-- The rules only add nodes, and at most seven for each occurrence that isn't a column, beside a few for a call itself.
use Rattle.std.proofs.Common.{◌≡◌, ℕ, suc, ◌+◌, ◌*◌, ◌≤◌, Bool, true, false, cond, List, [], ◌∷◌, ◌++◌, length, refl, sym, ap, ◌∙◌, subst, arith, length-append}
use Rattle.std.specs.Prelude.{None, map}
use Rattle.std.specs.List.{AllByRecursion}
use Rattle.ps_frame.specs.Causes.{is_empty}
use Rattle.ps_frame.specs.Trees.{Aggregation, Tree, Trees}
use Rattle.ps_frame.specs.Typing.{is_elementwise}
use Rattle.ps_meaning.specs.Schemas.{names_of}
use Rattle.ps_meaning.specs.Shape.{PhysicalNode, filter_node, in_memory_map, independent_select, reduce, select_node}
use Rattle.ps_meaning.specs.Steps.{Name, Named, select, sort}
use Rattle.ps_rules.specs.Bundles.{finished, gathered, is_stream_alone, mapped_stream, one_of, names_kept, one_stream, with_map, without_map}
use Rattle.ps_rules.specs.Calls.{Bundle, Call, Operand, all_independent, each, exprs_of_all, given_reduction, left_to_map, new_call}
use Rattle.ps_rules.specs.Counted.{inserts_for, occurrences_in, other_occurrences, other_occurrences_of_all}
use Rattle.ps_rules.specs.Lowered.{as_operand, lower, lower_exprs, operands}
use Rattle.ps_rules.specs.Rules.{NamedOperand, aggregated, answered, apart_from_input, are_own_columns, computed, filtered_column, first_name, first_tree, names_of_items, operands_of, other_names, over_input, over_operands, reduced_apart, reduced_column, reduced_over, selected, second_tree, selected_from_input, sorted_by, sorted_column, stays, stays_or, third_tree, together}
use Rattle.ps_rules.specs.Slots.{Made, State, Stream, after_name, after_names, columns_named, insert_node, new_name, new_names, over_same, projection, same_names, schema_at, selected_schema, under, with_columns, without_input}

abbrev pub size : State → ℕ
size s = length s.nodes

-- no fewer, and at most so many more
abbrev pub Adds : (most before after : ℕ) → Type 0
Adds k a b = (a ≤ b) × (b ≤ a + k)

then_adds : (j k : ℕ) (a b c : ℕ) → Adds j a b → Adds k b c → Adds (j + k) a c
then_adds j k a b c g h = let p = g.0 in let q = g.1 in let r = h.0 in let s = h.1 in (omega arith, omega arith)

at_most : (j k : ℕ) (a b : ℕ) → j ≤ k → Adds j a b → Adds k a b
at_most j k a b le g = let p = g.0 in let q = g.1 in (omega arith, omega arith)

adds_none : (k a : ℕ) → Adds k a a
adds_none k a = (omega arith, omega arith)

inserted : (s : State) (p : PhysicalNode) → Adds 1 (size s) (size (insert_node s p).state)
inserted s p = let l = length-append s.nodes (p ∷ []) in (omega arith, omega arith)

named : {A : Type 0} (xs : List A) (s : State) → Adds 0 (size s) (size (after_names xs s))
named [] s = adds_none 0 (size s)
named (x ∷ xs) s = named xs (after_name s)

under_operands : (ns : List Name) (os : List Operand) → length ns ≡ length os → operands_of (under ns os) ≡ os
under_operands [] [] e = refl
under_operands [] (o ∷ os) e = absurd (omega arith)
under_operands (n ∷ ns) [] e = absurd (omega arith)
under_operands (n ∷ ns) (o ∷ os) e = ap (λ more. o ∷ more) (under_operands ns os (omega arith))

as_many : {A : Type 0} (xs : List A) (s : State) → length (new_names xs s) ≡ length xs
as_many [] s = refl
as_many (x ∷ xs) s = ap suc (as_many xs (after_name s))

module _ (at : ℕ) where
  pub columns_add : (ns : List Name) (i : Stream) (s : State) → Adds 1 (size s) (size (with_columns at ns i s).state)
  columns_add ns i s = by (same_names ns (names_of (schema_at s.nodes i)))
    where
      by : (b : Bool) → Adds 1 (size s) (size (cond {A = Made} b (record { state = s; stream = i }) (projection at ns i s)).state)
      by true = adds_none 1 (size s)
      by false = inserted s _

  module _ (input : Stream) where
    pub stream_adds : (ss : List Stream) (s : State) → Adds 1 (size s) (size (one_stream at input ss s).state)
    stream_adds [] s = inserted s _
    stream_adds (t ∷ []) s = adds_none 1 (size s)
    stream_adds (t ∷ u ∷ more) s = inserted s _

    pub one_adds : (ss : List Stream) (es : List Named) (s : State) → Adds 2 (size s) (size (one_of at input ss es s).state)
    one_adds ss [] s = at_most 1 2 _ _ (omega arith) (stream_adds ss s)
    one_adds ss (e ∷ es) s = then_adds 1 1 _ _ _ (inserted s (record { kind = reduce (e ∷ es); schema = selected_schema (e ∷ es) (schema_at s.nodes input); origin = at; inputs = input ∷ [] })) (stream_adds (ss ++ (size s, 0) ∷ []) _)

    pub finished_adds : (b : Bundle) → Adds 2 (size b.state) (size (finished at input b).state)
    finished_adds b = one_adds b.streams b.reduced b.state

    pub map_adds : (es : List Named) (s : State) → Adds 2 (size s) (size (mapped_stream at input es s).state)
    map_adds es s =
        let below = with_columns at (names_kept es (schema_at s.nodes input)) input s in
        then_adds 1 1 _ _ _ (columns_add (names_kept es (schema_at s.nodes input)) input s)
        (inserted below.state (record { kind = in_memory_map (select es); schema = selected_schema es (schema_at below.state.nodes below.stream); origin = at; inputs = below.stream ∷ [] }))

    pub gathered_adds : (c : Call) → Adds 2 (size c.state) (size (gathered at input c).state)
    gathered_adds c = by c.mapped
      where
        by : (es : List Named) → Adds 2 (size c.state) (size (cond (is_empty es) (without_map at input c) (with_map at input (record c { mapped = es }))).state)
        by [] = adds_none 2 (size c.state)
        by (e ∷ es) = map_adds (e ∷ es) c.state

    -- a rule adds at most so many nodes
    abbrev pub Costs : ℕ → (Call → Call) → Type 0
    Costs k rule = (c : Call) → Adds k (size c.state) (size (rule c).state)

    abbrev pub HaveCosts : List Operand → Type 0
    HaveCosts os = AllByRecursion (λ (o : Operand). Costs (7 * other_occurrences o.expr) o.rule) os

    pub each_adds : (os : List Operand) → HaveCosts os → Costs (7 * occurrences_in (exprs_of_all os)) (each os)
    each_adds [] h c = adds_none _ (size c.state)
    each_adds (o ∷ os) h c =
        at_most (7 * other_occurrences o.expr + 7 * occurrences_in (exprs_of_all os)) _ _ _ (omega arith) (then_adds _ _ _ _ _ (h.0 c) (each_adds os h.1 (o.rule c)))

    pub together_adds : (os : List Operand) → HaveCosts os → (s : State) → Adds (7 * occurrences_in (exprs_of_all os) + 2) (size s) (size (together at input os s).state)
    together_adds os h s = by (all_independent (exprs_of_all os))
      where
        by : (b : Bool) → Adds (7 * occurrences_in (exprs_of_all os) + 2) (size s) (size (cond b (apart_from_input at input (exprs_of_all os)) (over_input at input os) s).state)
        by true = at_most (0 + 1) _ _ _ (omega arith) (then_adds 0 1 _ _ _ (named (exprs_of_all os) s) (inserted (after_names (exprs_of_all os) s) (record { kind = independent_select (under (new_names (exprs_of_all os) s) (exprs_of_all os)); schema = selected_schema (under (new_names (exprs_of_all os) s) (exprs_of_all os)) []; origin = at; inputs = [] })))
        by false = then_adds _ 2 _ _ _ (each_adds os h (new_call s)) (gathered_adds (each os (new_call s)))

    pub answered_adds : (os : List Operand) → HaveCosts os → (s : State) → Adds (7 * occurrences_in (exprs_of_all os) + 4) (size s) (size (answered at input os s).state)
    answered_adds os h s =
        at_most (7 * occurrences_in (exprs_of_all os) + 2 + 2) _ _ _ (omega arith) (then_adds _ 2 _ _ _ (together_adds os h s) (finished_adds (together at input os s)))

    pub selected_adds : (items : List NamedOperand) → HaveCosts (operands_of items) → (s : State) → Adds (7 * occurrences_in (exprs_of_all (operands_of items)) + 5) (size s) (size (selected at input items s).state)
    selected_adds items h s = by (all_independent (exprs_of_all (operands_of items)))
      where
        computes : Adds (7 * occurrences_in (exprs_of_all (operands_of items)) + 5) (size s) (size (computed at input items s).state)
        computes =
            let a = answered at input (operands_of items) s in
            let es = under (names_of_items items) a.exprs in
            at_most (7 * occurrences_in (exprs_of_all (operands_of items)) + 4 + 1) _ _ _ (omega arith)
            (then_adds _ 1 _ _ _ (answered_adds (operands_of items) h s) (inserted a.state (record { kind = select_node es false; schema = selected_schema es (schema_at a.state.nodes a.stream); origin = at; inputs = a.stream ∷ [] })))

        own : (b : Bool) → Adds (7 * occurrences_in (exprs_of_all (operands_of items)) + 5) (size s) (size (cond b (with_columns at (names_of_items items) input) (computed at input items) s).state)
        own true = at_most 1 _ _ _ (omega arith) (columns_add (names_of_items items) input s)
        own false = computes

        by : (b : Bool)
            → Adds (7 * occurrences_in (exprs_of_all (operands_of items)) + 5) (size s) (size (cond b (without_input at (under (names_of_items items) (exprs_of_all (operands_of items)))) (selected_from_input at input items) s).state)
        by true = at_most 1 _ _ _ (omega arith) (inserted s _)
        by false = own (are_own_columns items)

    -- of operands under fresh names
    pub under_adds : (os : List Operand) → HaveCosts os → (s : State) → Adds (7 * occurrences_in (exprs_of_all os) + 5) (size s) (size (selected at input (under (new_names os s) os) (after_names os s)).state)
    under_adds os h s =
        let items = under (new_names os s) os in
        let e = under_operands (new_names os s) os (as_many os s) in
        let C : List Operand → Type 0 = λ xs. HaveCosts xs → Adds (7 * occurrences_in (exprs_of_all xs) + 5) (size s) (size (selected at input items (after_names os s)).state) in
        subst C e (λ costs. at_most (0 + (7 * occurrences_in (exprs_of_all (operands_of items)) + 5)) _ _ _ (omega arith) (then_adds 0 _ _ _ _ (named os s) (selected_adds items costs (after_names os s)))) h

    pub stays_or_cost : (k : ℕ) (e : Tree) (rule : Call → Call) → Costs k rule → Costs k (stays_or at input e rule)
    stays_or_cost k e rule h c = by (is_elementwise e)
      where
        by : (b : Bool) → Adds k (size c.state) (size (cond b (stays at input e) rule c).state)
        by true = adds_none k (size c.state)
        by false = h c

    pub over_cost : (operator : List Tree → Tree) (os : List Operand) → HaveCosts os → Costs (7 * occurrences_in (exprs_of_all os) + 2) (over_operands at input operator os)
    over_cost operator os h c = together_adds os h c.state

    pub sort_cost : (d n : Bool) (o : Operand) → Costs (7 * other_occurrences o.expr) o.rule → Costs (7 * other_occurrences o.expr + 6) (sorted_column at input d n o)
    sort_cost d n o h c =
        let name = new_name c.state in
        let m = selected at input ((name, o) ∷ []) (after_name c.state) in
        at_most (7 * occurrences_in (o.expr ∷ []) + 5 + 1) _ _ _ (omega arith)
        (then_adds _ 1 _ _ _ (selected_adds ((name, o) ∷ []) (h, tt) (after_name c.state))
        (inserted m.state (record { kind = in_memory_map (sort (record { keys = Tree.column name ∷ []; descending = d ∷ []; nulls_last = n ∷ []; cut = None })); schema = schema_at m.state.nodes m.stream; origin = at; inputs = m.stream ∷ [] })))

    pub sort_by_cost : (d n : List Bool) (o : Operand) (by : List Operand) → HaveCosts (o ∷ by) → Costs (7 * occurrences_in (exprs_of_all (o ∷ by)) + 7) (sorted_by at input d n o by)
    sort_by_cost d n o by h c =
        let ns = new_names (o ∷ by) c.state in
        let m = selected at input (under ns (o ∷ by)) (after_names (o ∷ by) c.state) in
        let p = over_same at (in_memory_map (sort (record { keys = columns_named (other_names ns); descending = d; nulls_last = n; cut = None }))) m.stream m.state in
        at_most (7 * occurrences_in (exprs_of_all (o ∷ by)) + 5 + 1 + 1) _ _ _ (omega arith)
        (then_adds _ 1 _ _ _ (then_adds _ 1 _ _ _ (under_adds (o ∷ by) h c.state)
        (inserted m.state (record { kind = in_memory_map (sort (record { keys = columns_named (other_names ns); descending = d; nulls_last = n; cut = None })); schema = schema_at m.state.nodes m.stream; origin = at; inputs = m.stream ∷ [] })))
        (columns_add (first_name ns ∷ []) p.stream p.state))

    pub filter_cost : (o by : Operand) → HaveCosts (o ∷ by ∷ []) → Costs (7 * occurrences_in (exprs_of_all (o ∷ by ∷ [])) + 6) (filtered_column at input o by)
    filter_cost o by h c =
        let ns = new_names (o ∷ by ∷ []) c.state in
        let m = selected at input (under ns (o ∷ by ∷ [])) (after_names (o ∷ by ∷ []) c.state) in
        at_most (7 * occurrences_in (exprs_of_all (o ∷ by ∷ [])) + 5 + 1) _ _ _ (omega arith)
        (then_adds _ 1 _ _ _ (under_adds (o ∷ by ∷ []) h c.state)
        (inserted m.state (record { kind = filter_node (first_tree (columns_named (other_names ns))); schema = schema_at m.state.nodes m.stream; origin = at; inputs = m.stream ∷ [] })))

    -- the end of a reduction
    pub reduced_adds : (e : List Tree → Tree) (b : Bundle) (c : Call) → Adds 3 (size b.state) (size (reduced_over at input e b c).state)
    reduced_adds e b c = by (is_stream_alone input b.streams b.reduced)
      where
        by : (alone : Bool) → Adds 3 (size b.state) (size (cond alone (given_reduction (e b.exprs) b.state) (reduced_apart at input (e b.exprs) (finished at input b)) c).state)
        by true = adds_none 3 (size b.state)
        by false = then_adds 2 1 _ _ _ (finished_adds b) (inserted (after_name (finished at input b).state) _)

    pub reduced_cost : (a : Aggregation) (o : Operand) → Costs (7 * other_occurrences o.expr) o.rule → Costs (7 * other_occurrences o.expr + 5) (reduced_column at input a o)
    reduced_cost a o h c =
        let b = together at input (o ∷ []) c.state in
        at_most (7 * occurrences_in (o.expr ∷ []) + 2 + 3) _ _ _ (omega arith) (then_adds _ 3 _ _ _ (together_adds (o ∷ []) (h, tt) c.state) (reduced_adds (λ es. Tree.aggregate a (first_tree es)) b c))

    pub aggregate_cost : (a : Aggregation) (o : Operand) (e : Tree) → Costs (7 * other_occurrences o.expr) o.rule → Costs (7 * suc (other_occurrences o.expr)) (aggregated at input a o e)
    aggregate_cost Aggregation.n_unique o e h c = adds_none _ (size c.state)
    aggregate_cost (Aggregation.count all) o e h c = adds_none _ (size c.state)
    aggregate_cost Aggregation.min o e h c = at_most (7 * other_occurrences o.expr + 5) _ _ _ (omega arith) (reduced_cost Aggregation.min o h c)
    aggregate_cost Aggregation.max o e h c = at_most (7 * other_occurrences o.expr + 5) _ _ _ (omega arith) (reduced_cost Aggregation.max o h c)
    aggregate_cost Aggregation.first o e h c = at_most (7 * other_occurrences o.expr + 5) _ _ _ (omega arith) (reduced_cost Aggregation.first o h c)
    aggregate_cost Aggregation.last o e h c = at_most (7 * other_occurrences o.expr + 5) _ _ _ (omega arith) (reduced_cost Aggregation.last o h c)
    aggregate_cost Aggregation.sum o e h c = at_most (7 * other_occurrences o.expr + 5) _ _ _ (omega arith) (reduced_cost Aggregation.sum o h c)

    none_cost : (k : ℕ) (e : Tree) → Costs k (left_to_map e)
    none_cost k e c = adds_none k (size c.state)

    mutual
      pub costs : (e : Tree) → Costs (7 * other_occurrences e) (lower at input e)
      costs (Tree.column name) = stays_or_cost _ (Tree.column name) (λ call. call) (λ c. adds_none _ (size c.state))
      costs (Tree.literal l) = stays_or_cost _ (Tree.literal l) (λ call. call) (λ c. adds_none _ (size c.state))
      costs (Tree.binary o l r) =
          stays_or_cost _ (Tree.binary o l r) _
          (λ c. at_most (7 * occurrences_in (l ∷ r ∷ []) + 2) _ _ _ (omega arith) (over_cost (λ es. Tree.binary o (first_tree es) (second_tree es)) (as_operand at input l ∷ as_operand at input r ∷ []) (costs l, (costs r, tt)) c))
      costs (Tree.cast k s e) =
          stays_or_cost _ (Tree.cast k s e) _ (λ c. at_most (7 * occurrences_in (e ∷ []) + 2) _ _ _ (omega arith) (over_cost (λ es. Tree.cast k s (first_tree es)) (as_operand at input e ∷ []) (costs e, tt) c))
      costs (Tree.sort d n e) = λ c. at_most (7 * other_occurrences e + 6) _ _ _ (omega arith) (sort_cost d n (as_operand at input e) (costs e) c)
      costs (Tree.sort_by d n e by) =
          λ c. (let m = occurrences_by by in at_most (7 * occurrences_in (exprs_of_all (as_operand at input e ∷ operands at input by)) + 7) _ _ _ (omega arith) (sort_by_cost d n (as_operand at input e) (operands at input by) (costs e, all_cost by) c))
      costs (Tree.gather s e i) = none_cost _ (Tree.gather s e i)
      costs (Tree.filter e by) = λ c. at_most (7 * occurrences_in (e ∷ by ∷ []) + 6) _ _ _ (omega arith) (filter_cost (as_operand at input e) (as_operand at input by) (costs e, (costs by, tt)) c)
      costs (Tree.aggregate a e) = aggregate_cost a (as_operand at input e) (Tree.aggregate a e) (costs e)
      costs (Tree.ternary p a b) =
          stays_or_cost _ (Tree.ternary p a b) _
          (λ c. at_most (7 * occurrences_in (p ∷ a ∷ b ∷ []) + 2) _ _ _ (omega arith)
          (over_cost (λ es. Tree.ternary (first_tree es) (second_tree es) (third_tree es)) (as_operand at input p ∷ as_operand at input a ∷ as_operand at input b ∷ []) (costs p, (costs a, (costs b, tt))) c))
      costs (Tree.function g e) = stays_or_cost _ (Tree.function g e) _ (none_cost _ (Tree.function g e))
      costs (Tree.slice e o l) = none_cost _ (Tree.slice e o l)
      costs Tree.len = λ c. adds_none _ (size c.state)
      costs (Tree.left_out w) = none_cost _ (Tree.left_out w)
      costs Tree.missing = none_cost _ Tree.missing

      pub all_cost : (es : Trees) → HaveCosts (operands at input es)
      all_cost Trees.no_trees = tt
      all_cost (Trees.tree e es) = (costs e, all_cost es)

      occurrences_by : (es : Trees) → occurrences_in (exprs_of_all (operands at input es)) ≡ other_occurrences_of_all es
      occurrences_by Trees.no_trees = refl
      occurrences_by (Trees.tree e es) = ap (λ k. other_occurrences e + k) (occurrences_by es)

    pub operands_cost : (es : List Tree) → HaveCosts (map (as_operand at input) es)
    operands_cost [] = tt
    operands_cost (e ∷ es) = (costs e, operands_cost es)

    exprs_back : (es : List Tree) → occurrences_in (exprs_of_all (map (as_operand at input) es)) ≡ occurrences_in es
    exprs_back [] = refl
    exprs_back (e ∷ es) = ap (λ k. other_occurrences e + k) (exprs_back es)

    -- a call for expressions inserts few
    pub exprs_add : (es : List Tree) (s : State) → Adds (inserts_for es) (size s) (size (lower_exprs at input es s).state)
    exprs_add es s = let m = exprs_back es in at_most (7 * occurrences_in (exprs_of_all (map (as_operand at input) es)) + 4) _ _ _ (omega arith) (answered_adds (map (as_operand at input) es) (operands_cost es) s)

    as_many_operands : (es : List Tree) → length (map (as_operand at input) es) ≡ length es
    as_many_operands [] = refl
    as_many_operands (e ∷ es) = ap suc (as_many_operands es)

    -- and so does a select
    pub select_adds : (ns : List Name) (es : List Tree) (s : State) → length ns ≡ length es → Adds (inserts_for es) (size s) (size (selected at input (under ns (map (as_operand at input) es)) s).state)
    select_adds ns es s e =
        let os = map (as_operand at input) es in
        let m = exprs_back es in
        let items = under ns os in
        let C : List Operand → Type 0 = λ xs. HaveCosts xs → Adds (7 * occurrences_in (exprs_of_all xs) + 5) (size s) (size (selected at input items s).state) in
        at_most (7 * occurrences_in (exprs_of_all os) + 5) _ _ _ (omega arith) (subst C (under_operands ns os (e ∙ sym (as_many_operands es))) (λ costs. selected_adds items costs s) (operands_cost es))
