-- The trees of nodes that are added to the end of an arena, where the arena of expressions may grow too.
use Rattle.std.proofs.Common.{◌≡◌, ℕ, zero, suc, List, [], ◌∷◌, ◌++◌, length, refl, sym, subst, ap, ◌∙◌, arith, length-append}
use Rattle.std.specs.Prelude.{Option, Some, None, slice_get}
use Rattle.std.specs.List.{AllByRecursion}
use Rattle.pu_base.specs.declared.arena.Node.{Node}
use Rattle.text_plans.specs.Arenas.{KeepsTrees}
use Rattle.ps_frame.specs.Trees.{Tree, IsComplete, tree_at}
use Rattle.ps_frame.specs.declared.expr.AExpr.{AExpr}
use Rattle.ps_meaning.specs.PlanTrees.{PlanTree, node, IsCompletePlan, AreCompletePlans}
use Rattle.ps_meaning.specs.PlanTrees as plan
use Rattle.ps_meaning.specs.Steps.{exprs_of, key_trees, name_in, named_trees, step_exprs}
use Rattle.ps_meaning.specs.Steps as step
use Rattle.ps_meaning.specs.declared.options.ExprIR.{ExprIR}
use Rattle.ps_plan.proofs.Unfolding.{plan_within-more}
use Rattle.ps_plan.specs.Entries.{entry_inputs, entry_step}
use Rattle.ps_plan.specs.Plans.{node_tree, plan_at, plan_trees_of, plan_within}
use Rattle.ps_plan.specs.declared.ir.IR.{IR}
use Rattle.ps_plan.specs.declared.ir.IR.TheVariants as entry
use Rattle.text_plans.proofs.Lists.{all-left, all-right, front-kept, last-there}
use Rattle.text_plans.specs.Arenas.{KeepsPlans}

-- f gives the trees that g gives, where these are complete
module _ (f g : Node → Tree) (same : (n : Node) → IsComplete (g n) → f n ≡ g n) where
  pub named-same : (es : List ExprIR) → AllByRecursion IsComplete (exprs_of (named_trees g es)) → named_trees f es ≡ named_trees g es
  named-same [] h = refl
  named-same (e ∷ es) h = λ i. (name_in e.output_name, same e.node h.0 i) ∷ named-same es h.1 i

  pub keys-same : (es : List ExprIR) → AllByRecursion IsComplete (key_trees g es) → key_trees f es ≡ key_trees g es
  keys-same [] h = refl
  keys-same (e ∷ es) h = λ i. same e.node h.0 i ∷ keys-same es h.1 i

  step-same : (x : IR) → AllByRecursion IsComplete (step_exprs (entry_step g x)) → entry_step f x ≡ entry_step g x
  step-same (entry.DataFrameScan df columns) h = refl
  step-same (entry.SimpleProjection input columns) h = refl
  step-same (entry.Select input es) h = ap step.select (named-same es h)
  step-same (entry.HStack input es) h = ap step.hstack (named-same es h)
  step-same (entry.Filter input p) h = ap step.filter (same p.node h.0)
  step-same (entry.Slice input offset len) h = refl
  step-same (entry.Sink input payload) h = refl
  step-same (entry.MapFunction input function) h = refl
  step-same (entry.Sort input by cut options) h =
      ap (λ ts. step.sort (record { keys = ts; descending = options.descending; nulls_last = options.nulls_last; cut = cut })) (keys-same by h)
  step-same (entry.Union inputs options) h = refl
  step-same (entry.HConcat inputs) h = refl
  step-same (entry.Cache input id hits) h = refl
  step-same (entry.GroupBy input keys aggs maintain options) h =
      let ks = named-same keys (all-left IsComplete (exprs_of (named_trees g keys)) (exprs_of (named_trees g aggs)) h) in
      let rest = named-same aggs (all-right IsComplete (exprs_of (named_trees g keys)) (exprs_of (named_trees g aggs)) h) in
      λ i. step.group_by (record { keys = ks i; aggregates = rest i; maintain_order = maintain; cut = options.slice })
  step-same (entry.Join left right left_on right_on args) h =
      let ls = keys-same left_on (all-left IsComplete (key_trees g left_on) (key_trees g right_on) h) in
      let rs = keys-same right_on (all-right IsComplete (key_trees g left_on) (key_trees g right_on) h) in
      λ i. step.join (record { left_on = ls i; right_on = rs i; args = args })
  step-same (entry.Distinct input o) h = refl
  step-same (entry.LeftOut what) h = refl

-- the same of plans
plans-same : (f g : Node → PlanTree) → ((n : Node) → IsCompletePlan (g n) → f n ≡ g n) → (ns : List Node) → AreCompletePlans (plan_trees_of g ns) → plan_trees_of f ns ≡ plan_trees_of g ns
plans-same f g same [] h = refl
plans-same f g same (n ∷ ns) h = λ i. plan.tree (same n h.0 i) (plans-same f g same ns h.1 i)

-- nodes with one more entry, over expressions that keep their trees
module _ (nodes : List IR) (x : IR) (old new : List AExpr) (keeps : KeepsTrees old new) where
  entry-kept : (n : Node) (f g : Node → PlanTree) → ((m : Node) → IsCompletePlan (g m) → f m ≡ g m) → (o : Option IR) → slice_get nodes n.0 ≡ o → IsCompletePlan (node_tree (tree_at old) g n o)
      → node_tree (tree_at new) f n (slice_get (nodes ++ x ∷ []) n.0) ≡ node_tree (tree_at old) g n o
  entry-kept n f g same None e h = absurd h
  entry-kept n f g same (Some y) e h =
      ap (node_tree (tree_at new) f n) (front-kept nodes x n.0 y e ∙ e)
      ∙ (λ i. node n.0 (step-same (tree_at new) (tree_at old) keeps y h.0 i) (plans-same f g same (entry_inputs y) h.1 i))

  within-kept : (d : ℕ) (n : Node) → IsCompletePlan (plan_within d nodes old n) → plan_within d (nodes ++ x ∷ []) new n ≡ plan_within d nodes old n
  unfolding plan_within
  within-kept zero n h = absurd h
  within-kept (suc d) n h =
      entry-kept n (plan_within d (nodes ++ x ∷ []) new) (plan_within d nodes old) (λ m. within-kept d m) (slice_get nodes n.0) refl h

  module _ (more : List IR) (grown : more ≡ nodes ++ x ∷ []) where
    at-end : (n : Node) → plan_at more new n ≡ plan_within (suc (length nodes)) (nodes ++ x ∷ []) new n
    at-end n =
        let longer : length (nodes ++ x ∷ []) ≡ suc (length nodes) = omega (arith, length-append nodes (x ∷ [])) in
        ap (λ (arena : List IR). plan_at arena new n) grown ∙ ap (λ d. plan_within d (nodes ++ x ∷ []) new n) longer

    pub plans-kept : KeepsPlans nodes old more new
    plans-kept n h =
        let here = within-kept (length nodes) n h in
        at-end n ∙ plan_within-more (length nodes) (nodes ++ x ∷ []) new n (subst IsCompletePlan (sym here) h) ∙ here

    last-plan : (n : Node) → n.0 ≡ length nodes → AreCompletePlans (plan_trees_of (plan_at nodes old) (entry_inputs x))
        → plan_within (suc (length nodes)) (nodes ++ x ∷ []) new n ≡ node n.0 (entry_step (tree_at new) x) (plan_trees_of (plan_at nodes old) (entry_inputs x))
    unfolding plan_within
    last-plan n at h =
        ap (node_tree (tree_at new) (plan_within (length nodes) (nodes ++ x ∷ []) new) n) (ap (slice_get (nodes ++ x ∷ [])) at ∙ last-there nodes x)
        ∙ ap (node n.0 (entry_step (tree_at new) x)) (plans-same (plan_within (length nodes) (nodes ++ x ∷ []) new) (plan_at nodes old) (λ m. within-kept (length nodes) m) (entry_inputs x) h)

    pub added-plan : (n : Node) → n.0 ≡ length nodes → AreCompletePlans (plan_trees_of (plan_at nodes old) (entry_inputs x))
        → plan_at more new n ≡ node (length nodes) (entry_step (tree_at new) x) (plan_trees_of (plan_at nodes old) (entry_inputs x))
    added-plan n at h = at-end n ∙ last-plan n at h ∙ ap (λ (k : ℕ). node k (entry_step (tree_at new) x) (plan_trees_of (plan_at nodes old) (entry_inputs x))) at
