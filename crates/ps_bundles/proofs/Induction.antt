-- What a call does at an expression of any kind.
use Rattle.std.proofs.Common.{◌≡◌, ℕ, Bool, true, false, not, List, [], ◌∷◌, ◌++◌, length, refl, sym, ap, subst, ◌∙◌}
use Rattle.std.specs.Prelude.{IsTrue, map, ◌&&◌, ◌||◌}
use Rattle.std.specs.List.{AllByRecursion, list_any}
use Rattle.ps_frame.proofs.Lists.{and_both}
use Rattle.ps_frame.specs.Causes.{value}
use Rattle.ps_frame.specs.Eval.{at as item, eval}
use Rattle.ps_frame.specs.Frames.{has_distinct_names}
use Rattle.ps_frame.specs.Functions.{Functions}
use Rattle.ps_frame.specs.Operators.{binary_value, cast_cell, cast_value, choice_of}
use Rattle.ps_frame.specs.Tables.{Table}
use Rattle.ps_frame.specs.Trees.{Aggregation, Tree, Trees}
use Rattle.ps_frame.specs.Typing.{branch_kind, is_elementwise, is_independent, is_kind, kind_over}
use Rattle.ps_frame.specs.declared.expr.Operator.{Operator}
use Rattle.ps_frame.specs.declared.value.DataType.{DataType}
use Rattle.ps_frame.specs.declared.value.DataType.TheVariants as kind
use Rattle.ps_frame.specs.declared.value.Value.{Value}
use Rattle.ps_meaning.specs.Shape.{IsPhysicalChoice, Shape}
use Rattle.ps_meaning.specs.Steps.{Named}
use Rattle.ps_rules.specs.Calls.{Call, left_to_map}
use Rattle.ps_rules.specs.Lowered.{as_operand, lower, operands}
use Rattle.ps_rules.specs.Rules.{aggregated, over_operands}
use Rattle.ps_rules.specs.Slots.{Stream}
use Rattle.ps_shares.specs.Leaves.{AtLeaves, all_leaves, put_back}
use Rattle.ps_shares.proofs.Adding.{adds, add_all}
use Rattle.ps_shares.proofs.Growing.{binary_of, cast_of, grow_all, grows, ternary_of}
use Rattle.ps_shares.proofs.Stands.{some_binary, some_branch, some_cast, some_if, some_kind}
use Rattle.ps_bundles.proofs.Aggregations.{column_steps, len_steps}
use Rattle.ps_bundles.proofs.Answers.{operator_steps}
use Rattle.ps_bundles.proofs.CallSteps.{Steps, left_steps, stays_or_steps}
use Rattle.ps_bundles.proofs.Gathered.{Col}
use Rattle.ps_bundles.proofs.KeySteps.{sort_by_steps}
use Rattle.ps_bundles.proofs.NewNodes.{operator_covers}
use Rattle.ps_bundles.proofs.SortSteps.{filter_steps, sort_steps}
use Rattle.ps_bundles.proofs.Together.{AllSteps}
use Rattle.ps_bundles.proofs.ZipEnds.{differ}

-- operands that stand for one, two or three expressions
of_one : (ms : List Named) (bs : List Tree) (x : Tree) → map (put_back ms) bs ≡ x ∷ [] → (a : Tree) × (bs ≡ a ∷ [])
of_one ms [] x h = let w : [] ≡ x ∷ [] = h in cc
of_one ms (a ∷ []) x h = (a, refl)
of_one ms (a ∷ b ∷ bs) x h = let w : put_back ms a ∷ put_back ms b ∷ map (put_back ms) bs ≡ x ∷ [] = h in cc

of_two : (ms : List Named) (bs : List Tree) (x y : Tree) → map (put_back ms) bs ≡ x ∷ y ∷ [] → (a : Tree) × (b : Tree) × (bs ≡ a ∷ b ∷ [])
of_two ms [] x y h = let w : [] ≡ x ∷ y ∷ [] = h in cc
of_two ms (a ∷ []) x y h = let w : put_back ms a ∷ [] ≡ x ∷ y ∷ [] = h in cc
of_two ms (a ∷ b ∷ []) x y h = (a, b, refl)
of_two ms (a ∷ b ∷ c ∷ bs) x y h = let w : put_back ms a ∷ put_back ms b ∷ put_back ms c ∷ map (put_back ms) bs ≡ x ∷ y ∷ [] = h in cc

of_three : (ms : List Named) (bs : List Tree) (x y z : Tree) → map (put_back ms) bs ≡ x ∷ y ∷ z ∷ [] → (a : Tree) × (b : Tree) × (c : Tree) × (bs ≡ a ∷ b ∷ c ∷ [])
of_three ms [] x y z h = let w : [] ≡ x ∷ y ∷ z ∷ [] = h in cc
of_three ms (a ∷ []) x y z h = let w : put_back ms a ∷ [] ≡ x ∷ y ∷ z ∷ [] = h in cc
of_three ms (a ∷ b ∷ []) x y z h = let w : put_back ms a ∷ put_back ms b ∷ [] ≡ x ∷ y ∷ z ∷ [] = h in cc
of_three ms (a ∷ b ∷ c ∷ []) x y z h = (a, b, c, refl)
of_three ms (a ∷ b ∷ c ∷ d ∷ bs) x y z h = let w : put_back ms a ∷ put_back ms b ∷ put_back ms c ∷ put_back ms d ∷ map (put_back ms) bs ≡ x ∷ y ∷ z ∷ [] = h in cc

-- what isn't independent among operands
abbrev Depends : List Tree → Bool
Depends bs = list_any (λ e. not (is_independent e)) bs

one_depends : (a : Bool) → (not a || false) ≡ true → a ≡ false
one_depends false h = refl
one_depends true h = absurd (differ (sym h))

two_depend : (a b : Bool) → (not a || (not b || false)) ≡ true → (a && b) ≡ false
two_depend false b h = refl
two_depend true b h = one_depends b h

three_depend : (a b c : Bool) → (not a || (not b || (not c || false))) ≡ true → (a && (b && c)) ≡ false
three_depend false b c h = refl
three_depend true b c h = two_depend b c h

module _ (F : Functions) (at : ℕ) (input : Stream) (N : Shape) (tables : ℕ → Table) (choice : IsPhysicalChoice F N tables) (distinct : IsTrue (has_distinct_names (tables input.0).schema))
    (wide : AllByRecursion (λ (row : List Value). length row ≡ length (tables input.0).schema) (tables input.0).rows) where
  abbrev t : Table
  t = tables input.0

  abbrev Does : Tree → (Call → Call) → Type 0
  Does e rule = Steps F at input N tables choice e rule

  cast_steps : (k : DataType) (strict : Bool) (e : Tree) → Does e (lower at input e) → Does (Tree.cast k strict e) (over_operands at input (cast_of k strict) (as_operand at input e ∷ []))
  cast_steps k strict e step =
      operator_steps F at input N tables choice (Tree.cast k strict e) (cast_of k strict) (as_operand at input e ∷ []) (adds at input e, tt) (grows at input e, tt) (step, tt) (λ q. cc)
      (λ h. (some_cast k (kind_over t.schema e) h, tt))
      (λ causes h. operator_covers at causes (λ row. cast_cell at strict (cast_value k (item 0 row))) (eval at t e ∷ []) h)
      (λ ms bs back. let w = of_one ms bs e back in ap (λ bs. put_back ms (cast_of k strict bs)) w.1 ∙ ap (cast_of k strict) (ap (map (put_back ms)) (sym w.1) ∙ back))
      (λ ms bs back all. let w = of_one ms bs e back in let p = subst (AllByRecursion (λ e. IsTrue (is_elementwise e))) w.1 all in ap (λ bs. is_elementwise (cast_of k strict bs)) w.1 ∙ p.0)
      (λ ms bs back d. let w = of_one ms bs e back in ap (λ bs. is_independent (cast_of k strict bs)) w.1 ∙ one_depends (is_independent w.0) (ap Depends (sym w.1) ∙ d))
      (λ ms bs back. let w = of_one ms bs e back in ap (λ bs. all_leaves (Col at input tables ms) (cast_of k strict bs ∷ [])) w.1 ∙ ap (λ bs. all_leaves (Col at input tables ms) bs ++ []) (sym w.1))
      (λ P ms bs back all. let w = of_one ms bs e back in let p = subst (AllByRecursion (AtLeaves P)) w.1 all in subst (λ bs. AtLeaves P (cast_of k strict bs)) (sym w.1) p.0)

  binary_steps : (o : Operator) (l r : Tree) → Does l (lower at input l) → Does r (lower at input r) → Does (Tree.binary o l r) (over_operands at input (binary_of o) (as_operand at input l ∷ as_operand at input r ∷ []))
  binary_steps o l r step step' =
      operator_steps F at input N tables choice (Tree.binary o l r) (binary_of o) (as_operand at input l ∷ as_operand at input r ∷ []) (adds at input l, (adds at input r, tt)) (grows at input l, (grows at input r, tt)) (step, (step', tt)) (λ q. cc)
      (λ h. let p = some_binary o (kind_over t.schema l) (kind_over t.schema r) h in (p.0, (p.1, tt)))
      (λ causes h. operator_covers at causes (λ row. value (binary_value o (item 0 row) (item 1 row))) (eval at t l ∷ eval at t r ∷ []) h)
      (λ ms bs back. let w = of_two ms bs l r back in ap (λ bs. put_back ms (binary_of o bs)) w.2 ∙ ap (binary_of o) (ap (map (put_back ms)) (sym w.2) ∙ back))
      (λ ms bs back all.
      let w = of_two ms bs l r back in
      let p = subst (AllByRecursion (λ e. IsTrue (is_elementwise e))) w.2 all in
      ap (λ bs. is_elementwise (binary_of o bs)) w.2 ∙ and_both (is_elementwise w.0) (is_elementwise w.1) p.0 p.1.0)
      (λ ms bs back d. let w = of_two ms bs l r back in ap (λ bs. is_independent (binary_of o bs)) w.2 ∙ two_depend (is_independent w.0) (is_independent w.1) (ap Depends (sym w.2) ∙ d))
      (λ ms bs back. let w = of_two ms bs l r back in ap (λ bs. all_leaves (Col at input tables ms) (binary_of o bs ∷ [])) w.2 ∙ ap (λ bs. all_leaves (Col at input tables ms) bs ++ []) (sym w.2))
      (λ P ms bs back all. let w = of_two ms bs l r back in let p = subst (AllByRecursion (AtLeaves P)) w.2 all in subst (λ bs. AtLeaves P (binary_of o bs)) (sym w.2) (p.0, p.1.0))

  ternary_steps : (p x y : Tree) → Does p (lower at input p) → Does x (lower at input x) → Does y (lower at input y)
      → Does (Tree.ternary p x y) (over_operands at input ternary_of (as_operand at input p ∷ as_operand at input x ∷ as_operand at input y ∷ []))
  ternary_steps p x y s0 s1 s2 =
      operator_steps F at input N tables choice (Tree.ternary p x y) ternary_of (as_operand at input p ∷ as_operand at input x ∷ as_operand at input y ∷ []) (adds at input p, (adds at input x, (adds at input y, tt)))
      (grows at input p, (grows at input x, (grows at input y, tt))) (s0, (s1, (s2, tt))) (λ q. cc)
      (λ h.
      let a = some_if (is_kind kind.Boolean (kind_over t.schema p)) (branch_kind (kind_over t.schema x) (kind_over t.schema y)) h in
      let b = some_branch (kind_over t.schema x) (kind_over t.schema y) a.1 in
      (some_kind kind.Boolean (kind_over t.schema p) a.0, (b.0, (b.1, tt))))
      (λ causes h. operator_covers at causes (λ row. value (choice_of (item 0 row) (item 1 row) (item 2 row))) (eval at t p ∷ eval at t x ∷ eval at t y ∷ []) h)
      (λ ms bs back. let w = of_three ms bs p x y back in ap (λ bs. put_back ms (ternary_of bs)) w.3 ∙ ap ternary_of (ap (map (put_back ms)) (sym w.3) ∙ back))
      (λ ms bs back all.
      let w = of_three ms bs p x y back in
      let k = subst (AllByRecursion (λ e. IsTrue (is_elementwise e))) w.3 all in
      ap (λ bs. is_elementwise (ternary_of bs)) w.3 ∙ and_both (is_elementwise w.0) (is_elementwise w.1 && is_elementwise w.2) k.0 (and_both (is_elementwise w.1) (is_elementwise w.2) k.1.0 k.1.1.0))
      (λ ms bs back d. let w = of_three ms bs p x y back in ap (λ bs. is_independent (ternary_of bs)) w.3 ∙ three_depend (is_independent w.0) (is_independent w.1) (is_independent w.2) (ap Depends (sym w.3) ∙ d))
      (λ ms bs back. let w = of_three ms bs p x y back in ap (λ bs. all_leaves (Col at input tables ms) (ternary_of bs ∷ [])) w.3 ∙ ap (λ bs. all_leaves (Col at input tables ms) bs ++ []) (sym w.3))
      (λ P ms bs back all. let w = of_three ms bs p x y back in let k = subst (AllByRecursion (AtLeaves P)) w.3 all in subst (λ bs. AtLeaves P (ternary_of bs)) (sym w.3) (k.0, k.1.0, k.1.1.0))

  aggregate_steps : (a : Aggregation) (e : Tree) → Does e (lower at input e) → Does (Tree.aggregate a e) (aggregated at input a (as_operand at input e) (Tree.aggregate a e))
  aggregate_steps Aggregation.n_unique e step = left_steps F at input N tables choice (Tree.aggregate Aggregation.n_unique e)
  aggregate_steps (Aggregation.count all) e step = left_steps F at input N tables choice (Tree.aggregate (Aggregation.count all) e)
  aggregate_steps Aggregation.min e step = column_steps F at input N tables choice distinct wide Aggregation.min (λ k vs. (_, refl)) (as_operand at input e) (adds at input e) (grows at input e) step
  aggregate_steps Aggregation.max e step = column_steps F at input N tables choice distinct wide Aggregation.max (λ k vs. (_, refl)) (as_operand at input e) (adds at input e) (grows at input e) step
  aggregate_steps Aggregation.first e step = column_steps F at input N tables choice distinct wide Aggregation.first (λ k vs. (_, refl)) (as_operand at input e) (adds at input e) (grows at input e) step
  aggregate_steps Aggregation.last e step = column_steps F at input N tables choice distinct wide Aggregation.last (λ k vs. (_, refl)) (as_operand at input e) (adds at input e) (grows at input e) step
  aggregate_steps Aggregation.sum e step = column_steps F at input N tables choice distinct wide Aggregation.sum (λ k vs. (_, refl)) (as_operand at input e) (adds at input e) (grows at input e) step

  mutual
    pub steps : (e : Tree) → Does e (lower at input e)
    steps (Tree.column name) = stays_or_steps F at input N tables choice distinct wide (Tree.column name) (λ call. call) (λ q. absurd (differ q))
    steps (Tree.literal l) = stays_or_steps F at input N tables choice distinct wide (Tree.literal l) (λ call. call) (λ q. absurd (differ q))
    steps (Tree.binary o l r) = let x = steps l in let y = steps r in stays_or_steps F at input N tables choice distinct wide (Tree.binary o l r) (over_operands at input (binary_of o) (as_operand at input l ∷ as_operand at input r ∷ [])) (λ q. binary_steps o l r x y)
    steps (Tree.cast k strict e) = let x = steps e in stays_or_steps F at input N tables choice distinct wide (Tree.cast k strict e) (over_operands at input (cast_of k strict) (as_operand at input e ∷ [])) (λ q. cast_steps k strict e x)
    steps (Tree.ternary p a b) =
        let x = steps p in
        let y = steps a in
        let z = steps b in
        stays_or_steps F at input N tables choice distinct wide (Tree.ternary p a b) (over_operands at input ternary_of (as_operand at input p ∷ as_operand at input a ∷ as_operand at input b ∷ [])) (λ q. ternary_steps p a b x y z)
    steps (Tree.function g e) = stays_or_steps F at input N tables choice distinct wide (Tree.function g e) (left_to_map (Tree.function g e)) (λ q. left_steps F at input N tables choice (Tree.function g e))
    steps (Tree.sort d n e) = sort_steps F at input N tables choice distinct wide d n (as_operand at input e) (adds at input e, tt) (grows at input e, tt) (steps e, tt)
    steps (Tree.sort_by d n e by) = sort_by_steps F at input N tables choice distinct wide d n e by (adds at input e, add_all at input by) (grows at input e, grow_all at input by) (steps e, all_steps by)
    steps (Tree.gather s e i) = left_steps F at input N tables choice (Tree.gather s e i)
    steps (Tree.filter e by) = filter_steps F at input N tables choice distinct wide (as_operand at input e) (as_operand at input by) (adds at input e, (adds at input by, tt)) (grows at input e, (grows at input by, tt)) (steps e, (steps by, tt))
    steps (Tree.aggregate a e) = aggregate_steps a e (steps e)
    steps (Tree.slice e o l) = left_steps F at input N tables choice (Tree.slice e o l)
    steps Tree.len = len_steps F at input N tables choice
    steps (Tree.left_out w) = left_steps F at input N tables choice (Tree.left_out w)
    steps Tree.missing = left_steps F at input N tables choice Tree.missing

    pub all_steps : (es : Trees) → AllSteps F at input N tables choice (operands at input es)
    all_steps Trees.no_trees = tt
    all_steps (Trees.tree e es) = (steps e, all_steps es)

  pub list_steps : (es : List Tree) → AllSteps F at input N tables choice (map (as_operand at input) es)
  list_steps [] = tt
  list_steps (e ∷ es) = (steps e, list_steps es)
