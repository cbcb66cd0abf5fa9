-- Names only grow while expressions are lowered.
use Rattle.std.proofs.Common.{◌≡◌, ℕ, Bool, true, false, cond, List, [], ◌∷◌, ◌++◌, refl, sym, subst}
use Rattle.std.specs.Prelude.{None}
use Rattle.std.specs.List.{AllByRecursion}
use Rattle.ps_frame.specs.Causes.{is_empty}
use Rattle.ps_frame.specs.Trees.{Aggregation, Tree, Trees}
use Rattle.ps_frame.specs.Typing.{is_elementwise}
use Rattle.ps_frame.specs.declared.expr.Operator.{Operator}
use Rattle.ps_frame.specs.declared.value.DataType.{DataType}
use Rattle.ps_meaning.specs.Schemas.{names_of}
use Rattle.ps_meaning.specs.Shape.{in_memory_map, reduce}
use Rattle.ps_meaning.specs.Steps.{Name, sort}
use Rattle.ps_rules.specs.Bundles.{finished, gathered, is_stream_alone, names_kept, one_stream, with_map, with_reduce, without_map}
use Rattle.ps_rules.specs.Calls.{Bundle, Call, Operand, all_independent, each, exprs_of_all, given_reduction, left_to_map, new_call}
use Rattle.ps_rules.specs.Lowered.{as_operand, lower, operands}
use Rattle.ps_rules.specs.Names.{Names}
use Rattle.ps_rules.specs.Rules.{NamedOperand, aggregated, apart_from_input, are_own_columns, computed, filtered_column, first_name, first_tree, names_of_items, operands_of, other_names, over_input, over_operands, reduced_apart, reduced_column, reduced_over, second_tree, selected, sorted_by, stays, stays_or, third_tree, together}
use Rattle.ps_rules.specs.Slots.{Made, State, Stream, after_name, after_names, columns_named, new_names, over_same, over_selected, projection, same_names, schema_at, under, with_columns, without_input}
use Rattle.ps_shares.proofs.Fresh.{Grown, grown_fresh, grown_names, grown_same, grown_then}

-- the operators, over what their operands are lowered to
abbrev pub binary_of : Operator → List Tree → Tree
binary_of o es = Tree.binary o (first_tree es) (second_tree es)

abbrev pub cast_of : DataType → Bool → List Tree → Tree
cast_of k strict es = Tree.cast k strict (first_tree es)

abbrev pub ternary_of : List Tree → Tree
ternary_of es = Tree.ternary (first_tree es) (second_tree es) (third_tree es)

module _ (at : ℕ) (input : Stream) where
  -- what makes nodes leaves the names
  pub columns_names : (ns : List Name) (i : Stream) (s : State) → (with_columns at ns i s).state.names ≡ s.names
  columns_names ns i s = by (same_names ns (names_of (schema_at s.nodes i)))
    where
      by : (b : Bool) → (cond {A = Made} b (record { state = s; stream = i }) (projection at ns i s)).state.names ≡ s.names
      by true = refl
      by false = refl

  stream_names : (ss : List Stream) (s : State) → (one_stream at input ss s).state.names ≡ s.names
  stream_names [] s = refl
  stream_names (t ∷ []) s = refl
  stream_names (t ∷ u ∷ more) s = refl

  pub finished_names : (b : Bundle) → (finished at input b).state.names ≡ b.state.names
  finished_names b = by (is_empty b.reduced)
    where
      by : (e : Bool) → (cond {A = State → Made} e (one_stream at input b.streams) (with_reduce at input b.streams b.reduced) b.state).state.names ≡ b.state.names
      by true = stream_names b.streams b.state
      by false = let m = over_selected at (reduce b.reduced) b.reduced input b.state in stream_names (b.streams ++ m.stream ∷ []) m.state

  pub gathered_names : (c : Call) → (gathered at input c).state.names ≡ c.state.names
  gathered_names c = by (is_empty c.mapped)
    where
      by : (e : Bool) → (cond {A = Bundle} e (without_map at input c) (with_map at input c)).state.names ≡ c.state.names
      by true = refl
      by false = columns_names (names_kept c.mapped (schema_at c.state.nodes input)) input c.state

  pub gathered_exprs : (c : Call) → (gathered at input c).exprs ≡ c.exprs
  gathered_exprs c = by (is_empty c.mapped)
    where
      by : (e : Bool) → (cond {A = Bundle} e (without_map at input c) (with_map at input c)).exprs ≡ c.exprs
      by true = refl
      by false = refl

  -- what a rule does to the names
  abbrev pub Grows : (Call → Call) → Type 0
  Grows rule = (c : Call) → Grown c.state.names (rule c).state.names

  abbrev pub AllGrow : List Operand → Type 0
  AllGrow os = AllByRecursion (λ (o : Operand). Grows o.rule) os

  pub grows_each : (os : List Operand) → AllGrow os → Grows (each os)
  grows_each [] all c = grown_same c.state.names
  grows_each (o ∷ os) all c = grown_then c.state.names (o.rule c).state.names (each os (o.rule c)).state.names (all.0 c) (grows_each os all.1 (o.rule c))

  pub grows_together : (os : List Operand) → AllGrow os → (s : State) → Grown s.names (together at input os s).state.names
  grows_together os all s = by (all_independent (exprs_of_all os))
    where
      by : (b : Bool) → Grown s.names (cond {A = State → Bundle} b (apart_from_input at input (exprs_of_all os)) (over_input at input os) s).state.names
      by true = grown_names (exprs_of_all os) s
      by false = subst (λ n. Grown s.names n) (sym (gathered_names (each os (new_call s)))) (grows_each os all (new_call s))

  pub grows_finished : (a : Names) (b : Bundle) → Grown a b.state.names → Grown a (finished at input b).state.names
  grows_finished a b g = subst (λ n. Grown a n) (sym (finished_names b)) g

  all_operands : (items : List NamedOperand) → AllByRecursion (λ (i : NamedOperand). Grows i.1.rule) items → AllGrow (operands_of items)
  all_operands [] all = tt
  all_operands (i ∷ items) all = (all.0, all_operands items all.1)

  pub grows_selected : (items : List NamedOperand) → AllByRecursion (λ (i : NamedOperand). Grows i.1.rule) items → (s : State) → Grown s.names (selected at input items s).state.names
  grows_selected items all s = by (all_independent (exprs_of_all (operands_of items))) (are_own_columns items)
    where
      by : (a b : Bool)
          → Grown s.names (cond {A = State → Made} a (without_input at (under (names_of_items items) (exprs_of_all (operands_of items)))) (cond {A = State → Made} b (with_columns at (names_of_items items) input) (computed at input items)) s).state.names
      by true b = grown_same s.names
      by false true = subst (λ n. Grown s.names n) (sym (columns_names (names_of_items items) input s)) (grown_same s.names)
      by false false = grows_finished s.names (together at input (operands_of items) s) (grows_together (operands_of items) (all_operands items all) s)

  all_under : (ns : List Name) (os : List Operand) → AllGrow os → AllByRecursion (λ (i : NamedOperand). Grows i.1.rule) (under ns os)
  all_under [] os all = tt
  all_under (n ∷ ns) [] all = tt
  all_under (n ∷ ns) (o ∷ os) all = (all.0, all_under ns os all.1)

  -- values and keys under fresh names, selected
  pub grows_under : (os : List Operand) → AllGrow os → (s : State) → Grown (after_names os s).names (selected at input (under (new_names os s) os) (after_names os s)).state.names
  grows_under os all s = grows_selected (under (new_names os s) os) (all_under (new_names os s) os all) (after_names os s)

  grows_or : (e : Tree) (rule : Call → Call) → Grows rule → Grows (stays_or at input e rule)
  grows_or e rule g c = by (is_elementwise e)
    where
      by : (b : Bool) → Grown c.state.names (cond {A = Call → Call} b (stays at input e) rule c).state.names
      by true = grown_same c.state.names
      by false = g c

  grows_left : (e : Tree) → Grows (left_to_map e)
  grows_left e c = grown_fresh c.state.names

  pub grows_over : (e : List Tree → Tree) (b : Bundle) (a : Names) (call : Call) → Grown a b.state.names → Grown a (reduced_over at input e b call).state.names
  grows_over e b a call g = by (is_stream_alone input b.streams b.reduced)
    where
      by : (t : Bool) → Grown a (cond {A = Call → Call} t (given_reduction (e b.exprs) b.state) (reduced_apart at input (e b.exprs) (finished at input b)) call).state.names
      by true = grown_then a b.state.names (after_name b.state).names g (grown_fresh b.state.names)
      by false = grown_then a (finished at input b).state.names (after_name (finished at input b).state).names (grows_finished a b g) (grown_fresh (finished at input b).state.names)

  grows_reduced : (a : Aggregation) (o : Operand) → Grows o.rule → Grows (reduced_column at input a o)
  grows_reduced a o g c = grows_over (λ es. Tree.aggregate a (first_tree es)) (together at input (o ∷ []) c.state) c.state.names c (grows_together (o ∷ []) (g, tt) c.state)

  grows_aggregated : (a : Aggregation) (o : Operand) (e : Tree) → Grows o.rule → Grows (aggregated at input a o e)
  grows_aggregated Aggregation.n_unique o e g = grows_left e
  grows_aggregated (Aggregation.count all) o e g = grows_left e
  grows_aggregated Aggregation.min o e g = grows_reduced Aggregation.min o g
  grows_aggregated Aggregation.max o e g = grows_reduced Aggregation.max o g
  grows_aggregated Aggregation.first o e g = grows_reduced Aggregation.first o g
  grows_aggregated Aggregation.last o e g = grows_reduced Aggregation.last o g
  grows_aggregated Aggregation.sum o e g = grows_reduced Aggregation.sum o g

  grows_operands : (op : List Tree → Tree) (os : List Operand) → AllGrow os → Grows (over_operands at input op os)
  grows_operands op os all c = grows_together os all c.state

  -- values sorted by keys: the names once the first fresh one is in use grow
  pub sorted_after : (d n : List Bool) (o : Operand) (by : List Operand) → AllGrow (o ∷ by) → (c : Call) → Grown (after_name c.state).names (sorted_by at input d n o by c).state.names
  sorted_after d n o by all c =
      let ns = new_names (o ∷ by) c.state in
      let m = selected at input (under ns (o ∷ by)) (after_names (o ∷ by) c.state) in
      let step = sort (record { keys = columns_named (other_names ns); descending = d; nulls_last = n; cut = None }) in
      let k = over_same at (in_memory_map step) m.stream m.state in
      let g = grown_then (after_name c.state).names (after_names (o ∷ by) c.state).names m.state.names (grown_names by (after_name c.state)) (grows_under (o ∷ by) all c.state) in
      subst (λ a. Grown (after_name c.state).names a) (sym (columns_names (first_name ns ∷ []) k.stream k.state)) g

  pub filtered_after : (o by : Operand) → Grows o.rule → Grows by.rule → (c : Call) → Grown (after_name c.state).names (filtered_column at input o by c).state.names
  filtered_after o by p q c =
      let os = o ∷ by ∷ [] in
      grown_then (after_name c.state).names (after_names os c.state).names (filtered_column at input o by c).state.names (grown_fresh (after_name c.state).names) (grows_under os (p, (q, tt)) c.state)

  grows_sorted : (d n : List Bool) (o : Operand) (by : List Operand) → AllGrow (o ∷ by) → Grows (sorted_by at input d n o by)
  grows_sorted d n o by all c = grown_then c.state.names (after_name c.state).names (sorted_by at input d n o by c).state.names (grown_fresh c.state.names) (sorted_after d n o by all c)

  mutual
    pub grows : (e : Tree) → Grows (lower at input e)
    grows (Tree.column name) c = grows_or (Tree.column name) (λ call. call) (λ c. grown_same c.state.names) c
    grows (Tree.literal l) c = grows_or (Tree.literal l) (λ call. call) (λ c. grown_same c.state.names) c
    grows (Tree.binary o l r) c = grows_or (Tree.binary o l r) (over_operands at input (binary_of o) (as_operand at input l ∷ as_operand at input r ∷ [])) (grows_operands (binary_of o) (as_operand at input l ∷ as_operand at input r ∷ []) (grows l, (grows r, tt))) c
    grows (Tree.cast k strict e) c = grows_or (Tree.cast k strict e) (over_operands at input (cast_of k strict) (as_operand at input e ∷ [])) (grows_operands (cast_of k strict) (as_operand at input e ∷ []) (grows e, tt)) c
    grows (Tree.sort d n e) c = grown_then c.state.names (after_name c.state).names (lower at input (Tree.sort d n e) c).state.names (grown_fresh c.state.names) (grows_under (as_operand at input e ∷ []) (grows e, tt) c.state)
    grows (Tree.sort_by d n e by) c = grows_sorted d n (as_operand at input e) (operands at input by) (grows e, grow_all by) c
    grows (Tree.gather s e i) c = grows_left (Tree.gather s e i) c
    grows (Tree.filter e by) c = grown_then c.state.names (after_name c.state).names (lower at input (Tree.filter e by) c).state.names (grown_fresh c.state.names) (filtered_after (as_operand at input e) (as_operand at input by) (grows e) (grows by) c)
    grows (Tree.aggregate a e) c = grows_aggregated a (as_operand at input e) (Tree.aggregate a e) (grows e) c
    grows (Tree.ternary p a b) c =
        grows_or (Tree.ternary p a b) (over_operands at input ternary_of (as_operand at input p ∷ as_operand at input a ∷ as_operand at input b ∷ [])) (grows_operands ternary_of (as_operand at input p ∷ as_operand at input a ∷ as_operand at input b ∷ []) (grows p, (grows a, (grows b, tt)))) c
    grows (Tree.function g e) c = grows_or (Tree.function g e) (left_to_map (Tree.function g e)) (grows_left (Tree.function g e)) c
    grows (Tree.slice e o l) c = grows_left (Tree.slice e o l) c
    grows Tree.len c = grown_fresh c.state.names
    grows (Tree.left_out w) c = grows_left (Tree.left_out w) c
    grows Tree.missing c = grows_left Tree.missing c

    pub grow_all : (es : Trees) → AllGrow (operands at input es)
    grow_all Trees.no_trees = tt
    grow_all (Trees.tree e es) = (grows e, grow_all es)
