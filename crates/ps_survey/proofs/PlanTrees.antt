-- The depth and the size of a node, from those of its inputs and its expressions.
use Rattle.std.proofs.Common.{◌≡◌, ℕ, zero, suc, ◌+◌, ◌<◌, ◌≤◌, max, List, [], ◌∷◌, ◌++◌, length, map, slice_get, refl, sym, ◌∙◌, ap, subst, arith}
use Rattle.std.specs.Prelude.{Option, Some, None, Contains, sum_by}
use Rattle.std.proofs.lemmas.List.{map-append}
use Rattle.std.proofs.lemmas.List.Sums.{sum_by-append, sum_by-cons}
use Rattle.pu_base.specs.declared.arena.Node.{Node}
use Rattle.ps_frame.specs.Parts.{tree_depth}
use Rattle.ps_frame.specs.Trees.{Tree, tree_at, tree_size}
use Rattle.ps_frame.specs.declared.expr.AExpr.{AExpr}
use Rattle.ps_plan.specs.Graph.{named_by}
use Rattle.ps_meaning.specs.PlanTrees.{PlanTree, PlanTrees, all_sizes, deepest, depth, depth_of_all, occurrences, occurrences_of_all}
use Rattle.ps_plan.specs.Plans.{IsPlan, node_tree, plan_at, plan_trees_of}
use Rattle.ps_meaning.specs.Steps.{exprs_of, function_step, key_trees, named_trees, step_exprs}
use Rattle.ps_plan.specs.Entries.{entry_exprs, entry_inputs, entry_step, expr_nodes}
use Rattle.ps_meaning.specs.declared.options.ExprIR.{ExprIR}
use Rattle.ps_meaning.specs.declared.options.FunctionIR.{FunctionIR}
use Rattle.ps_meaning.specs.declared.options.FunctionIR.TheVariants as call
use Rattle.ps_plan.specs.declared.ir.IR.{IR}
use Rattle.ps_plan.specs.declared.ir.IR.TheVariants as entry
use Rattle.ps_plan.proofs.Unfolding.{IsPlan-in_range, plan_at-is}
use Rattle.ps_survey.specs.Extents.{IsExtent, expr_depth, expr_size, largest, node_depth, node_size}
use Rattle.ps_survey.specs.Orders.{exprs_in, inputs_in}
use Rattle.ps_survey.specs.declared.extents.Extent.{Extent}
use Rattle.ps_survey.proofs.ExprTrees.{numbers}

pub largest-append : (f : ℕ → ℕ) (xs ys : List ℕ) → largest f (xs ++ ys) ≡ max (largest f xs) (largest f ys)
largest-append f [] ys = nothing (largest f ys)
  where
    nothing : (a : ℕ) → a ≡ max 0 a
    nothing a = omega arith
largest-append f (x ∷ xs) ys = let e = largest-append f xs ys in shift (f x) (largest f xs) (largest f ys) (largest f (xs ++ ys)) e
  where
    shift : (a b c d : ℕ) → d ≡ max b c → max a d ≡ max (max a b) c
    shift a b c d e = omega (arith, e)

deepest-append : (xs ys : List Tree) → deepest (xs ++ ys) ≡ max (deepest xs) (deepest ys)
deepest-append [] ys = nothing (deepest ys)
  where
    nothing : (a : ℕ) → a ≡ max 0 a
    nothing a = omega arith
deepest-append (x ∷ xs) ys = let e = deepest-append xs ys in shift (tree_depth x) (deepest xs) (deepest ys) (deepest (xs ++ ys)) e
  where
    shift : (a b c d : ℕ) → d ≡ max b c → max a d ≡ max (max a b) c
    shift a b c d e = omega (arith, e)

all_sizes-append : (xs ys : List Tree) → all_sizes (xs ++ ys) ≡ all_sizes xs + all_sizes ys
all_sizes-append [] ys = nothing (all_sizes ys)
  where
    nothing : (a : ℕ) → a ≡ 0 + a
    nothing a = omega arith
all_sizes-append (x ∷ xs) ys = let e = all_sizes-append xs ys in shift (tree_size x) (all_sizes xs) (all_sizes ys) (all_sizes (xs ++ ys)) e
  where
    shift : (a b c d : ℕ) → d ≡ b + c → a + d ≡ (a + b) + c
    shift a b c d e = omega (arith, e)

-- what a step's expressions measure
module _ (f : Node → Tree) where
  abbrev depth_by : ℕ → ℕ
  depth_by m = tree_depth (f (record { 0 = m }))

  abbrev size_by : ℕ → ℕ
  size_by m = tree_size (f (record { 0 = m }))

  named-depth : (es : List ExprIR) → deepest (exprs_of (named_trees f es)) ≡ largest depth_by (numbers (expr_nodes es))
  named-depth [] = refl
  named-depth (e ∷ es) = ap (λ k. max (tree_depth (f e.node)) k) (named-depth es)

  keys-depth : (es : List ExprIR) → deepest (key_trees f es) ≡ largest depth_by (numbers (expr_nodes es))
  keys-depth [] = refl
  keys-depth (e ∷ es) = ap (λ k. max (tree_depth (f e.node)) k) (keys-depth es)

  named-size : (es : List ExprIR) → all_sizes (exprs_of (named_trees f es)) ≡ sum_by size_by (numbers (expr_nodes es))
  named-size [] = refl
  named-size (e ∷ es) = ap (λ k. tree_size (f e.node) + k) (named-size es) ∙ sym (sum_by-cons size_by e.node.0 (numbers (expr_nodes es)))

  keys-size : (es : List ExprIR) → all_sizes (key_trees f es) ≡ sum_by size_by (numbers (expr_nodes es))
  keys-size [] = refl
  keys-size (e ∷ es) = ap (λ k. tree_size (f e.node) + k) (keys-size es) ∙ sym (sum_by-cons size_by e.node.0 (numbers (expr_nodes es)))

  function-depth : (g : FunctionIR) → deepest (step_exprs (function_step g)) ≡ 0
  function-depth (call.RowIndex name offset) = refl
  function-depth (call.User n) = refl

  function-size : (g : FunctionIR) → all_sizes (step_exprs (function_step g)) ≡ 0
  function-size (call.RowIndex name offset) = refl
  function-size (call.User n) = refl

  both-depth : (as' bs : List Tree) (xs ys : List Node) → deepest as' ≡ largest depth_by (numbers xs) → deepest bs ≡ largest depth_by (numbers ys) → deepest (as' ++ bs) ≡ largest depth_by (numbers (xs ++ ys))
  both-depth as' bs xs ys p q =
      let a = deepest-append as' bs in
      let b = largest-append depth_by (numbers xs) (numbers ys) in
      let c = ap (largest depth_by) (map-append (λ (n : Node). n.0) xs ys) in
      omega (arith, a, b, c, p, q)

  both-size : (as' bs : List Tree) (xs ys : List Node) → all_sizes as' ≡ sum_by size_by (numbers xs) → all_sizes bs ≡ sum_by size_by (numbers ys) → all_sizes (as' ++ bs) ≡ sum_by size_by (numbers (xs ++ ys))
  both-size as' bs xs ys p q =
      let a = all_sizes-append as' bs in
      let b = sum_by-append size_by (numbers xs) (numbers ys) in
      let c = ap (sum_by size_by) (map-append (λ (n : Node). n.0) xs ys) in
      omega (arith, a, b, c, p, q)

  one-sum : (a : ℕ) → a + 0 ≡ 0 + a
  one-sum a = omega arith

  exprs-depth : (x : IR) → deepest (step_exprs (entry_step f x)) ≡ largest depth_by (numbers (entry_exprs x))
  exprs-depth (entry.DataFrameScan df columns) = refl
  exprs-depth (entry.SimpleProjection input columns) = refl
  exprs-depth (entry.Select input es) = named-depth es
  exprs-depth (entry.HStack input es) = named-depth es
  exprs-depth (entry.Filter input predicate) = refl
  exprs-depth (entry.Slice input offset len) = refl
  exprs-depth (entry.Sink input payload) = refl
  exprs-depth (entry.MapFunction input g) = function-depth g
  exprs-depth (entry.Sort input by cut options) = keys-depth by
  exprs-depth (entry.Union inputs options) = refl
  exprs-depth (entry.HConcat inputs) = refl
  exprs-depth (entry.Cache input id hits) = refl
  exprs-depth (entry.GroupBy input keys aggs maintain options) =
      both-depth (exprs_of (named_trees f keys)) (exprs_of (named_trees f aggs)) (expr_nodes keys) (expr_nodes aggs) (named-depth keys) (named-depth aggs)
  exprs-depth (entry.Join left right left_on right_on args) =
      both-depth (key_trees f left_on) (key_trees f right_on) (expr_nodes left_on) (expr_nodes right_on) (keys-depth left_on) (keys-depth right_on)
  exprs-depth (entry.Distinct input o) = refl
  exprs-depth (entry.LeftOut what) = refl

  exprs-size : (x : IR) → all_sizes (step_exprs (entry_step f x)) ≡ sum_by size_by (numbers (entry_exprs x))
  exprs-size (entry.DataFrameScan df columns) = refl
  exprs-size (entry.SimpleProjection input columns) = refl
  exprs-size (entry.Select input es) = named-size es
  exprs-size (entry.HStack input es) = named-size es
  exprs-size (entry.Filter input predicate) = one-sum (tree_size (f predicate.node))
  exprs-size (entry.Slice input offset len) = refl
  exprs-size (entry.Sink input payload) = refl
  exprs-size (entry.MapFunction input g) = function-size g
  exprs-size (entry.Sort input by cut options) = keys-size by
  exprs-size (entry.Union inputs options) = refl
  exprs-size (entry.HConcat inputs) = refl
  exprs-size (entry.Cache input id hits) = refl
  exprs-size (entry.GroupBy input keys aggs maintain options) =
      both-size (exprs_of (named_trees f keys)) (exprs_of (named_trees f aggs)) (expr_nodes keys) (expr_nodes aggs) (named-size keys) (named-size aggs)
  exprs-size (entry.Join left right left_on right_on args) =
      both-size (key_trees f left_on) (key_trees f right_on) (expr_nodes left_on) (expr_nodes right_on) (keys-size left_on) (keys-size right_on)
  exprs-size (entry.Distinct input o) = refl
  exprs-size (entry.LeftOut what) = refl

-- what the trees of inputs measure
module _ (f : Node → PlanTree) where
  inputs-depth : (ns : List Node) → depth_of_all (plan_trees_of f ns) ≡ largest (λ m. depth (f (record { 0 = m }))) (numbers ns)
  inputs-depth [] = refl
  inputs-depth (n ∷ ns) = ap (λ k. max (depth (f n)) k) (inputs-depth ns)

  inputs-size : (ns : List Node) → occurrences_of_all (plan_trees_of f ns) ≡ sum_by (λ m. occurrences (f (record { 0 = m }))) (numbers ns)
  inputs-size [] = refl
  inputs-size (n ∷ ns) = ap (λ k. occurrences (f n) + k) (inputs-size ns) ∙ sym (sum_by-cons (λ m. occurrences (f (record { 0 = m }))) n.0 (numbers ns))

module _ (nodes : List IR) (exprs : List AExpr) where
  module _ (n : ℕ) (complete : IsPlan nodes exprs (record { 0 = n })) where
    found : (x : IR) × (slice_get nodes n ≡ Some x)
    found = there nodes n (IsPlan-in_range nodes exprs (record { 0 = n }) complete)
      where
        there : (xs : List IR) (k : ℕ) → k < length xs → (x : IR) × (slice_get xs k ≡ Some x)
        there [] k h = absurd (omega (arith, h))
        there (x ∷ xs) zero h = (x, refl)
        there (x ∷ xs) (suc k) h = there xs k (omega (arith, h))

    pub node-deep : node_depth nodes exprs n ≡ suc (max (largest (expr_depth exprs) (exprs_in nodes n)) (largest (node_depth nodes exprs) (inputs_in nodes n)))
    node-deep =
        let x = found in
        ap depth (plan_at-is nodes exprs (record { 0 = n }) x.0 complete x.1) ∙ ap (λ k. suc (max k (depth_of_all (plan_trees_of (plan_at nodes exprs) (entry_inputs x.0))))) (exprs-depth (tree_at exprs) x.0)
        ∙ ap (λ k. suc (max (largest (expr_depth exprs) (numbers (entry_exprs x.0))) k)) (inputs-depth (plan_at nodes exprs) (entry_inputs x.0))
        ∙ ap (λ o. suc (max (largest (expr_depth exprs) (named_by entry_exprs o)) (largest (node_depth nodes exprs) (named_by entry_inputs o)))) (sym x.1)

    pub node-large : node_size nodes exprs n ≡ suc (sum_by (expr_size exprs) (exprs_in nodes n) + sum_by (node_size nodes exprs) (inputs_in nodes n))
    node-large =
        let x = found in
        ap occurrences (plan_at-is nodes exprs (record { 0 = n }) x.0 complete x.1) ∙ ap (λ k. suc (k + occurrences_of_all (plan_trees_of (plan_at nodes exprs) (entry_inputs x.0)))) (exprs-size (tree_at exprs) x.0)
        ∙ ap (λ k. suc (sum_by (expr_size exprs) (numbers (entry_exprs x.0)) + k)) (inputs-size (plan_at nodes exprs) (entry_inputs x.0))
        ∙ ap (λ o. suc (sum_by (expr_size exprs) (named_by entry_exprs o) + sum_by (node_size nodes exprs) (named_by entry_inputs o))) (sym x.1)

    pub node-extent : (x : Extent) → IsExtent (suc (max (largest (expr_depth exprs) (exprs_in nodes n)) (largest (node_depth nodes exprs) (inputs_in nodes n)))) (suc (sum_by (expr_size exprs) (exprs_in nodes n) + sum_by (node_size nodes exprs) (inputs_in nodes n))) x
        → IsExtent (node_depth nodes exprs n) (node_size nodes exprs n) x
    node-extent x h =
        subst (λ k. IsExtent k (node_size nodes exprs n) x) (sym node-deep)
        (subst (λ k. IsExtent (suc (max (largest (expr_depth exprs) (exprs_in nodes n)) (largest (node_depth nodes exprs) (inputs_in nodes n)))) k x) (sym node-large) h)
