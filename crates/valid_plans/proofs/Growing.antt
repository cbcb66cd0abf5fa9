-- Trees stay where entries are added to the arena of expressions.
use Rattle.std.proofs.Common.{◌≡◌, ℕ, zero, suc, ◌+◌, ◌<◌, List, [], ◌∷◌, ◌++◌, length, slice_get, Option, Some, None, refl, sym, subst, ◌∙◌, ap, arith, length-append}
use Rattle.std.specs.List.{AllByRecursion}
use Rattle.std.proofs.lemmas.Option.{slice_get_within}
use Rattle.pu_base.specs.declared.arena.Node.{Node}
use Rattle.ps_frame.proofs.Unfolding.{tree_within-more}
use Rattle.ps_frame.specs.Trees.{Tree, Trees, Aggregation, AreComplete, IsComplete, IsExpression, aggregate_tree, entry_tree, tree_at, tree_within, trees_of}
use Rattle.ps_frame.specs.declared.expr.AExpr.{AExpr}
use Rattle.ps_frame.specs.declared.expr.AExpr.TheVariants as expr
use Rattle.ps_frame.specs.declared.expr.IRAggExpr.{IRAggExpr}
use Rattle.ps_frame.specs.declared.expr.IRAggExpr.TheVariants as agg
use Rattle.ps_meaning.specs.PlanTrees.{AreCompletePlans, IsCompletePlan, PlanTree, PlanTrees}
use Rattle.ps_plan.specs.Plans.{IsPlan, node_tree, plan_at, plan_trees_of, plan_within}
use Rattle.ps_meaning.specs.Steps.{Step, exprs_of, key_trees, name_in, named_trees, step_exprs}
use Rattle.ps_plan.specs.Entries.{entry_inputs, entry_step}
use Rattle.ps_meaning.specs.declared.options.ExprIR.{ExprIR}
use Rattle.ps_plan.specs.declared.ir.IR.{IR}
use Rattle.ps_plan.specs.declared.ir.IR.TheVariants as entry

-- an element of a list stays where it is when more come after it
pub slice_get-left : {X : Type 0} (xs ys : List X) (i : ℕ) → i < length xs → slice_get (xs ++ ys) i ≡ slice_get xs i
slice_get-left [] ys i h = absurd (omega (arith, h))
slice_get-left (x ∷ xs) ys zero h = refl
slice_get-left (x ∷ xs) ys (suc i) h = slice_get-left xs ys i (omega (arith, h))

-- where the trees of two lists are complete, those of each are
pub left-complete : (xs ys : List Tree) → AllByRecursion IsComplete (xs ++ ys) → AllByRecursion IsComplete xs
left-complete [] ys h = tt
left-complete (x ∷ xs) ys h = (h.0, left-complete xs ys h.1)

pub right-complete : (xs ys : List Tree) → AllByRecursion IsComplete (xs ++ ys) → AllByRecursion IsComplete ys
right-complete [] ys h = h
right-complete (x ∷ xs) ys h = right-complete xs ys h.1

-- f gives the trees that g gives, where these are complete
module _ (f g : Node → Tree) (same : (n : Node) → IsComplete (g n) → f n ≡ g n) where
  trees-same : (ns : List Node) → AreComplete (trees_of g ns) → trees_of f ns ≡ trees_of g ns
  trees-same [] h = refl
  trees-same (n ∷ ns) h = ap (λ t. Trees.tree t (trees_of f ns)) (same n h.0) ∙ ap (Trees.tree (g n)) (trees-same ns h.1)

  aggregate-same : (a : IRAggExpr) → IsComplete (aggregate_tree g a) → aggregate_tree f a ≡ aggregate_tree g a
  aggregate-same (agg.Min n) h = ap (Tree.aggregate Aggregation.min) (same n h)
  aggregate-same (agg.Max n) h = ap (Tree.aggregate Aggregation.max) (same n h)
  aggregate-same (agg.First n) h = ap (Tree.aggregate Aggregation.first) (same n h)
  aggregate-same (agg.Last n) h = ap (Tree.aggregate Aggregation.last) (same n h)
  aggregate-same (agg.Sum n) h = ap (Tree.aggregate Aggregation.sum) (same n h)
  aggregate-same (agg.NUnique n) h = ap (Tree.aggregate Aggregation.n_unique) (same n h)
  aggregate-same (agg.Count n all) h = ap (Tree.aggregate (Aggregation.count all)) (same n h)

  entry-same : (o : Option AExpr) → IsComplete (entry_tree g o) → entry_tree f o ≡ entry_tree g o
  entry-same None h = refl
  entry-same (Some (expr.Column name)) h = refl
  entry-same (Some (expr.Literal l)) h = refl
  entry-same (Some (expr.BinaryExpr l o r)) h = let p = same l h.0 in let q = same r h.1 in cc
  entry-same (Some (expr.Cast e k s)) h = let p = same e h in cc
  entry-same (Some (expr.Sort e d n)) h = let p = same e h in cc
  entry-same (Some (expr.SortBy e by d n)) h = let p = same e h.0 in let q = trees-same by h.1 in cc
  entry-same (Some (expr.Gather e i s)) h = let p = same e h.0 in let q = same i h.1 in cc
  entry-same (Some (expr.Filter e by)) h = let p = same e h.0 in let q = same by h.1 in cc
  entry-same (Some (expr.Agg a)) h = aggregate-same a h
  entry-same (Some (expr.Ternary p a b)) h = let x = same p h.0 in let y = same a h.1 in let z = same b h.2 in cc
  entry-same (Some (expr.Function e k)) h = let p = same e h in cc
  entry-same (Some (expr.Slice e o l)) h = let x = same e h.0 in let y = same o h.1 in let z = same l h.2 in cc
  entry-same (Some expr.Len) h = refl
  entry-same (Some (expr.LeftOut w)) h = refl

  named-same : (es : List ExprIR) → AllByRecursion IsComplete (exprs_of (named_trees g es)) → named_trees f es ≡ named_trees g es
  named-same [] h = refl
  named-same (e ∷ es) h = ap (λ t. (name_in e.output_name, t) ∷ named_trees f es) (same e.node h.0) ∙ ap (λ ts. (name_in e.output_name, g e.node) ∷ ts) (named-same es h.1)

  keys-same : (es : List ExprIR) → AllByRecursion IsComplete (key_trees g es) → key_trees f es ≡ key_trees g es
  keys-same [] h = refl
  keys-same (e ∷ es) h = ap (λ t. t ∷ key_trees f es) (same e.node h.0) ∙ ap (λ ts. g e.node ∷ ts) (keys-same es h.1)

  -- so the step of an entry is the same
  pub step-same : (x : IR) → AllByRecursion IsComplete (step_exprs (entry_step g x)) → entry_step f x ≡ entry_step g x
  step-same (entry.DataFrameScan df columns) h = refl
  step-same (entry.SimpleProjection input columns) h = refl
  step-same (entry.Select input es) h = ap Step.select (named-same es h)
  step-same (entry.HStack input es) h = ap Step.hstack (named-same es h)
  step-same (entry.Filter input predicate) h = ap Step.filter (same predicate.node h.0)
  step-same (entry.Slice input offset len) h = refl
  step-same (entry.Sink input payload) h = refl
  step-same (entry.MapFunction input k) h = refl
  step-same (entry.Sort input by cut options) h =
      ap (λ ts. Step.sort (record { keys = ts; descending = options.descending; nulls_last = options.nulls_last; cut = cut })) (keys-same by h)
  step-same (entry.Union inputs options) h = refl
  step-same (entry.HConcat inputs) h = refl
  step-same (entry.Cache input id hits) h = refl
  step-same (entry.GroupBy input keys aggs maintain options) h =
      let left = named-same keys (left-complete (exprs_of (named_trees g keys)) (exprs_of (named_trees g aggs)) h) in
      let right = named-same aggs (right-complete (exprs_of (named_trees g keys)) (exprs_of (named_trees g aggs)) h) in
      ap (λ ks. Step.group_by (record { keys = ks; aggregates = named_trees f aggs; maintain_order = maintain; cut = options.slice })) left
      ∙ ap (λ as'. Step.group_by (record { keys = named_trees g keys; aggregates = as'; maintain_order = maintain; cut = options.slice })) right
  step-same (entry.Join l r left_on right_on args) h =
      let left = keys-same left_on (left-complete (key_trees g left_on) (key_trees g right_on) h) in
      let right = keys-same right_on (right-complete (key_trees g left_on) (key_trees g right_on) h) in
      ap (λ ks. Step.join (record { left_on = ks; right_on = key_trees f right_on; args = args })) left ∙ ap (λ ks. Step.join (record { left_on = key_trees g left_on; right_on = ks; args = args })) right
  step-same (entry.Distinct input o) h = refl
  step-same (entry.LeftOut what) h = refl

module _ (exprs more : List AExpr) where
  -- an entry that gives a complete tree stands in the first part
  entry-kept : (f : Node → Tree) (n : ℕ) → IsComplete (entry_tree f (slice_get exprs n)) → slice_get (exprs ++ more) n ≡ slice_get exprs n
  entry-kept f n h = by (slice_get exprs n) refl h
    where
      by : (o : Option AExpr) → slice_get exprs n ≡ o → IsComplete (entry_tree f o) → slice_get (exprs ++ more) n ≡ slice_get exprs n
      by None e h = absurd h
      by (Some x) e h = slice_get-left exprs more n (slice_get_within exprs n x e)

  within-kept : (d : ℕ) (n : Node) → IsComplete (tree_within d exprs n) → tree_within d (exprs ++ more) n ≡ tree_within d exprs n
  unfolding tree_within
  within-kept zero n h = absurd h
  within-kept (suc d) n h =
      ap (entry_tree (tree_within d (exprs ++ more))) (entry-kept (tree_within d exprs) n.0 h) ∙ entry-same (tree_within d (exprs ++ more)) (tree_within d exprs) (λ m. within-kept d m) (slice_get exprs n.0) h

  deeper : (k d : ℕ) (arena : List AExpr) (n : Node) → IsComplete (tree_within d arena n) → tree_within (k + d) arena n ≡ tree_within d arena n
  deeper zero d arena n h = ap (λ j. tree_within j arena n) (let e : zero + d ≡ d = omega arith in e)
  deeper (suc k) d arena n h =
      let far = deeper k d arena n h in
      ap (λ j. tree_within j arena n) (let e : suc k + d ≡ suc (k + d) = omega arith in e) ∙ tree_within-more (k + d) arena n (subst IsComplete (sym far) h) ∙ far

  pub tree-kept : (n : Node) → IsExpression exprs n → tree_at (exprs ++ more) n ≡ tree_at exprs n
  tree-kept n h =
      let here = within-kept (length exprs) n h in
      ap (λ j. tree_within j (exprs ++ more) n) (let e : length (exprs ++ more) ≡ length more + length exprs = omega (arith, length-append exprs more) in e)
      ∙ deeper (length more) (length exprs) (exprs ++ more) n (subst IsComplete (sym here) h)
      ∙ here

  pub entry_step-kept : (x : IR) → AllByRecursion IsComplete (step_exprs (entry_step (tree_at exprs) x)) → entry_step (tree_at (exprs ++ more)) x ≡ entry_step (tree_at exprs) x
  entry_step-kept x h = step-same (tree_at (exprs ++ more)) (tree_at exprs) tree-kept x h

  -- and so do the trees of nodes
  plans-kept : (f g : Node → PlanTree) → ((n : Node) → IsCompletePlan (g n) → f n ≡ g n) → (ns : List Node) → AreCompletePlans (plan_trees_of g ns) → plan_trees_of f ns ≡ plan_trees_of g ns
  plans-kept f g same [] h = refl
  plans-kept f g same (n ∷ ns) h = ap (λ t. PlanTrees.tree t (plan_trees_of f ns)) (same n h.0) ∙ ap (PlanTrees.tree (g n)) (plans-kept f g same ns h.1)

  node-kept : (f g : Node → PlanTree) → ((n : Node) → IsCompletePlan (g n) → f n ≡ g n) → (n : Node) (o : Option IR) → IsCompletePlan (node_tree (tree_at exprs) g n o) → node_tree (tree_at (exprs ++ more)) f n o ≡ node_tree (tree_at exprs) g n o
  node-kept f g same n None h = refl
  node-kept f g same n (Some x) h =
      ap (λ s. PlanTree.node n.0 s (plan_trees_of f (entry_inputs x))) (entry_step-kept x h.0) ∙ ap (PlanTree.node n.0 (entry_step (tree_at exprs) x)) (plans-kept f g same (entry_inputs x) h.1)

  plan-within-kept : (d : ℕ) (nodes : List IR) (n : Node) → IsCompletePlan (plan_within d nodes exprs n) → plan_within d nodes (exprs ++ more) n ≡ plan_within d nodes exprs n
  unfolding plan_within
  plan-within-kept zero nodes n h = absurd h
  plan-within-kept (suc d) nodes n h = node-kept (plan_within d nodes (exprs ++ more)) (plan_within d nodes exprs) (λ m. plan-within-kept d nodes m) n (slice_get nodes n.0) h

  pub plan-kept : (nodes : List IR) (n : Node) → IsPlan nodes exprs n → plan_at nodes (exprs ++ more) n ≡ plan_at nodes exprs n
  plan-kept nodes n h = plan-within-kept (length nodes) nodes n h
