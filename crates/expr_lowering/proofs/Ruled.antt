-- The rules by the parts that the bodies have.
use Rattle.std.proofs.Common.{◌≡◌, ℕ, zero, suc, ◌+◌, ◌≤◌, true, false, cond, List, [], ◌∷◌, ◌++◌, drop, length, min, refl, ap, ◌∙◌, arith, length-append}
use Rattle.std.specs.Prelude.{◌&&◌, map}
use Rattle.std.specs.List.{AllByRecursion}
use Rattle.pu_base.specs.declared.arena.Node.{Node}
use Rattle.ps_frame.specs.Trees.{AreComplete, IsComplete, Tree, trees_of}
use Rattle.ps_frame.specs.Typing.{is_elementwise}
use Rattle.ps_meaning.specs.Shape.{PhysicalNode, select_node}
use Rattle.ps_meaning.specs.Steps.{Name}
use Rattle.ps_rules.specs.Calls.{Call, Operand, all_independent, exprs_of_all, left_to_map}
use Rattle.ps_rules.specs.Lowered.{as_operand, lower, operands}
use Rattle.ps_rules.specs.Rules.{aggregated, answered, apart_from_input, are_own_columns, counted_rows, filtered_column, first_tree, is_own_column, names_of_items, operands_of, over_input, over_operands, second_tree, selected, sorted_by, sorted_column, stays, third_tree, together}
use Rattle.ps_rules.specs.Slots.{Made, State, Stream, after_name, after_names, new_name, new_names, over_selected, under, with_columns, without_input}
use Rattle.lowering_parts.specs.Gathered.{trees_at}
use Rattle.lowering_parts.specs.Operations.{are_own}

-- fresh names go by how many items there are
pub names_alike : {A B : Type 0} (xs : List A) (ys : List B) (s : State) → length xs ≡ length ys → new_names xs s ≡ new_names ys s
names_alike [] [] s e = refl
names_alike [] (y ∷ ys) s e = absurd (omega arith)
names_alike (x ∷ xs) [] s e = absurd (omega arith)
names_alike (x ∷ xs) (y ∷ ys) s e = ap (λ ns. new_name s ∷ ns) (names_alike xs ys (after_name s) (omega arith))

pub states_alike : {A B : Type 0} (xs : List A) (ys : List B) (s : State) → length xs ≡ length ys → after_names xs s ≡ after_names ys s
states_alike [] [] s e = refl
states_alike [] (y ∷ ys) s e = absurd (omega arith)
states_alike (x ∷ xs) [] s e = absurd (omega arith)
states_alike (x ∷ xs) (y ∷ ys) s e = states_alike xs ys (after_name s) (omega arith)

pub nodes_stay : {A : Type 0} (xs : List A) (s : State) → (after_names xs s).nodes ≡ s.nodes
nodes_stay [] s = refl
nodes_stay (x ∷ xs) s = nodes_stay xs (after_name s)

pub as_many_names : {A : Type 0} (xs : List A) (s : State) → length (new_names xs s) ≡ length xs
as_many_names [] s = refl
as_many_names (x ∷ xs) s = ap suc (as_many_names xs (after_name s))

pub as_many_trees : (f : Node → Tree) (ns : List Node) → length (trees_at f ns) ≡ length ns
as_many_trees f [] = refl
as_many_trees f (n ∷ ns) = ap suc (as_many_trees f ns)

-- a rule puts a node behind those that stand
pub one_more : (s : State) (p : PhysicalNode) → length (s.nodes ++ p ∷ []) ≡ length s.nodes + 1
one_more s p = let l = length-append s.nodes (p ∷ []) in omega arith

under_operands : (ns : List Name) (os : List Operand) → length ns ≡ length os → operands_of (under ns os) ≡ os
under_operands [] [] e = refl
under_operands [] (o ∷ os) e = absurd (omega arith)
under_operands (n ∷ ns) [] e = absurd (omega arith)
under_operands (n ∷ ns) (o ∷ os) e = ap (λ more. o ∷ more) (under_operands ns os (omega arith))

under_names : (ns : List Name) (os : List Operand) → length ns ≡ length os → names_of_items (under ns os) ≡ ns
under_names [] [] e = refl
under_names [] (o ∷ os) e = absurd (omega arith)
under_names (n ∷ ns) [] e = absurd (omega arith)
under_names (n ∷ ns) (o ∷ os) e = ap (λ more. n ∷ more) (under_names ns os (omega arith))

module _ (at : ℕ) (input : Stream) where
  exprs_back : (es : List Tree) → exprs_of_all (map (as_operand at input) es) ≡ es
  exprs_back [] = refl
  exprs_back (e ∷ es) = ap (λ more. e ∷ more) (exprs_back es)

  as_many_operands : (es : List Tree) → length (map (as_operand at input) es) ≡ length es
  as_many_operands [] = refl
  as_many_operands (e ∷ es) = ap suc (as_many_operands es)

  own_columns : (ns : List Name) (es : List Tree) → are_own_columns (under ns (map (as_operand at input) es)) ≡ are_own ns es
  own_columns [] es = refl
  own_columns (n ∷ ns) [] = refl
  own_columns (n ∷ ns) (e ∷ es) = ap (λ b. is_own_column n e && b) (own_columns ns es)

  -- the operands of a sort by keys
  pub operands_as : (f : Node → Tree) (ns : List Node) → operands at input (trees_of f ns) ≡ map (as_operand at input) (trees_at f ns)
  operands_as f [] = refl
  operands_as f (n ∷ ns) = ap (λ more. as_operand at input (f n) ∷ more) (operands_as f ns)

  -- what a call for expressions gathers
  pub together_is : (es : List Tree) → together at input (map (as_operand at input) es) ≡ cond (all_independent es) (apart_from_input at input es) (over_input at input (map (as_operand at input) es))
  together_is es = λ i. cond (all_independent (exprs_back es i)) (apart_from_input at input (exprs_back es i)) (over_input at input (map (as_operand at input) es))

  pub together_apart : (es : List Tree) → all_independent es ≡ true → together at input (map (as_operand at input) es) ≡ apart_from_input at input es
  together_apart es h = together_is es ∙ ap (λ b. cond b (apart_from_input at input es) (over_input at input (map (as_operand at input) es))) h

  pub together_over : (es : List Tree) → all_independent es ≡ false → together at input (map (as_operand at input) es) ≡ over_input at input (map (as_operand at input) es)
  together_over es h = together_is es ∙ ap (λ b. cond b (apart_from_input at input es) (over_input at input (map (as_operand at input) es))) h

  -- a select of expressions under as many names
  abbrev pub computed_under : List Name → List Tree → State → Made
  computed_under ns es s =
      let a = answered at input (map (as_operand at input) es) s in
      over_selected at (select_node (under ns a.exprs) false) (under ns a.exprs) a.stream a.state

  abbrev pub select_from_input : List Name → List Tree → State → Made
  select_from_input ns es = cond (are_own ns es) (with_columns at ns input) (computed_under ns es)

  pub selected_is : (ns : List Name) (es : List Tree) → length ns ≡ length es
      → selected at input (under ns (map (as_operand at input) es)) ≡ cond (all_independent es) (without_input at (under ns es)) (select_from_input ns es)
  selected_is ns es e =
      let as_many = as_many_operands es in
      let os = under_operands ns (map (as_operand at input) es) (omega arith) in
      let names = under_names ns (map (as_operand at input) es) (omega arith) in
      let trees = ap exprs_of_all os ∙ exprs_back es in
      λ i. cond (all_independent (trees i)) (without_input at (under (names i) (trees i))) (cond (own_columns ns es i) (with_columns at (names i) input) (λ s. (let a = answered at input (os i) s in over_selected at (select_node (under (names i) a.exprs) false) (under (names i) a.exprs) a.stream a.state)))

  pub select_apart : (ns : List Name) (es : List Tree) → length ns ≡ length es → all_independent es ≡ true → selected at input (under ns (map (as_operand at input) es)) ≡ without_input at (under ns es)
  select_apart ns es e h = selected_is ns es e ∙ ap (λ b. cond b (without_input at (under ns es)) (select_from_input ns es)) h

  pub select_own : (ns : List Name) (es : List Tree) → length ns ≡ length es → all_independent es ≡ false → are_own ns es ≡ true → selected at input (under ns (map (as_operand at input) es)) ≡ with_columns at ns input
  select_own ns es e h own =
      selected_is ns es e ∙ ap (λ b. cond b (without_input at (under ns es)) (select_from_input ns es)) h ∙ ap (λ b. cond b (with_columns at ns input) (computed_under ns es)) own

  pub select_computed : (ns : List Name) (es : List Tree) → length ns ≡ length es → all_independent es ≡ false → are_own ns es ≡ false → selected at input (under ns (map (as_operand at input) es)) ≡ computed_under ns es
  select_computed ns es e h own =
      selected_is ns es e ∙ ap (λ b. cond b (without_input at (under ns es)) (select_from_input ns es)) h ∙ ap (λ b. cond b (with_columns at ns input) (computed_under ns es)) own

  -- what a call does at an expression that isn't elementwise
  abbrev pub apart_rule : Tree → Call → Call
  apart_rule (Tree.column name) = λ call. call
  apart_rule (Tree.literal l) = λ call. call
  apart_rule (Tree.binary o l r) = over_operands at input (λ es. Tree.binary o (first_tree es) (second_tree es)) (as_operand at input l ∷ as_operand at input r ∷ [])
  apart_rule (Tree.cast k strict e) = over_operands at input (λ es. Tree.cast k strict (first_tree es)) (as_operand at input e ∷ [])
  apart_rule (Tree.sort d n e) = sorted_column at input d n (as_operand at input e)
  apart_rule (Tree.sort_by d n e by) = sorted_by at input d n (as_operand at input e) (operands at input by)
  apart_rule (Tree.gather s e i) = left_to_map (Tree.gather s e i)
  apart_rule (Tree.filter e by) = filtered_column at input (as_operand at input e) (as_operand at input by)
  apart_rule (Tree.aggregate a e) = aggregated at input a (as_operand at input e) (Tree.aggregate a e)
  apart_rule (Tree.ternary p a b) =
      over_operands at input (λ es. Tree.ternary (first_tree es) (second_tree es) (third_tree es)) (as_operand at input p ∷ as_operand at input a ∷ as_operand at input b ∷ [])
  apart_rule (Tree.function g e) = left_to_map (Tree.function g e)
  apart_rule (Tree.slice e o l) = left_to_map (Tree.slice e o l)
  apart_rule Tree.len = counted_rows at input
  apart_rule (Tree.left_out w) = left_to_map (Tree.left_out w)
  apart_rule Tree.missing = left_to_map Tree.missing

  not_elementwise : (e : Tree) (rule : Call → Call) → is_elementwise e ≡ false → cond (is_elementwise e) (stays at input e) rule ≡ rule
  not_elementwise e rule h = ap (λ b. cond b (stays at input e) rule) h

  pub lower_apart : (e : Tree) → is_elementwise e ≡ false → lower at input e ≡ apart_rule e
  lower_apart (Tree.column name) h = cc
  lower_apart (Tree.literal l) h = cc
  lower_apart (Tree.binary o l r) h = not_elementwise (Tree.binary o l r) (apart_rule (Tree.binary o l r)) h
  lower_apart (Tree.cast k strict e) h = not_elementwise (Tree.cast k strict e) (apart_rule (Tree.cast k strict e)) h
  lower_apart (Tree.sort d n e) h = refl
  lower_apart (Tree.sort_by d n e by) h = refl
  lower_apart (Tree.gather s e i) h = refl
  lower_apart (Tree.filter e by) h = refl
  lower_apart (Tree.aggregate a e) h = refl
  lower_apart (Tree.ternary p a b) h = not_elementwise (Tree.ternary p a b) (apart_rule (Tree.ternary p a b)) h
  lower_apart (Tree.function g e) h = not_elementwise (Tree.function g e) (apart_rule (Tree.function g e)) h
  lower_apart (Tree.slice e o l) h = refl
  lower_apart Tree.len h = refl
  lower_apart (Tree.left_out w) h = refl
  lower_apart Tree.missing h = refl

  elementwise_stays : (e : Tree) (rule : Call → Call) → is_elementwise e ≡ true → cond (is_elementwise e) (stays at input e) rule ≡ stays at input e
  elementwise_stays e rule h = ap (λ b. cond b (stays at input e) rule) h

  pub lower_stays : (e : Tree) → is_elementwise e ≡ true → lower at input e ≡ stays at input e
  lower_stays (Tree.column name) h = refl
  lower_stays (Tree.literal l) h = refl
  lower_stays (Tree.binary o l r) h = elementwise_stays (Tree.binary o l r) (apart_rule (Tree.binary o l r)) h
  lower_stays (Tree.cast k strict e) h = elementwise_stays (Tree.cast k strict e) (apart_rule (Tree.cast k strict e)) h
  lower_stays (Tree.sort d n e) h = cc
  lower_stays (Tree.sort_by d n e by) h = cc
  lower_stays (Tree.gather s e i) h = cc
  lower_stays (Tree.filter e by) h = cc
  lower_stays (Tree.aggregate a e) h = cc
  lower_stays (Tree.ternary p a b) h = elementwise_stays (Tree.ternary p a b) (apart_rule (Tree.ternary p a b)) h
  lower_stays (Tree.function g e) h = elementwise_stays (Tree.function g e) (apart_rule (Tree.function g e)) h
  lower_stays (Tree.slice e o l) h = cc
  lower_stays Tree.len h = cc
  lower_stays (Tree.left_out w) h = cc
  lower_stays Tree.missing h = cc

-- the trees of a list, one behind the other
pub all_complete : (f : Node → Tree) (ns : List Node) → AreComplete (trees_of f ns) → AllByRecursion IsComplete (trees_at f ns)
all_complete f [] h = tt
all_complete f (n ∷ ns) h = (h.0, all_complete f ns h.1)

own_none : (ns : List Name) → true ≡ are_own ns []
own_none [] = refl
own_none (n ∷ ns) = refl

-- past the shorter of both all are their own columns
pub own_end : (f : Node → Tree) (ns : List Name) (xs : List Node) (i : ℕ) → min (length ns) (length xs) ≤ i → true ≡ are_own (drop i ns) (trees_at f (drop i xs))
own_end f [] xs zero le = refl
own_end f [] xs (suc i) le = refl
own_end f (n ∷ ns) [] zero le = refl
own_end f (n ∷ ns) [] (suc i) le = own_none (drop i ns)
own_end f (n ∷ ns) (x ∷ xs) zero le = absurd (omega arith)
own_end f (n ∷ ns) (x ∷ xs) (suc i) le = own_end f ns xs i (omega arith)
