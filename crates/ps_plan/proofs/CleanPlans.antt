-- No refusal holds at or below a node that a valid plan reaches: so the rules on names and kinds, which are decided there, hold.
use Rattle.std.proofs.Common.{◌≡◌, ℕ, List, [], ◌∷◌, length, slice_get, sym, subst, inl, inr}
use Rattle.std.specs.Prelude.{Option, Some, IsSomeAnd, Contains}
use Rattle.std.specs.List.{AllByRecursion}
use Rattle.pu_base.specs.declared.arena.Node.{Node}
use Rattle.ps_frame.specs.Functions.{Functions}
use Rattle.ps_frame.specs.Trees.{IsComplete, tree_at}
use Rattle.ps_plan.specs.Graph.{Reached, inputs_at, named_by}
use Rattle.ps_meaning.specs.PlanTrees.{PlanTree, PlanTrees, node}
use Rattle.ps_plan.specs.Plans.{Plan, plan_at, plan_trees_of, tree_of}
use Rattle.ps_meaning.specs.StepRefusals.{NamesMissingFunction}
use Rattle.ps_plan.specs.Refusals.{AreClean, IsClean, IsValid, TreeRefused, function_missing}
use Rattle.ps_meaning.specs.Steps.{step_exprs}
use Rattle.ps_plan.specs.Entries.{entry_inputs, entry_step}
use Rattle.ps_plan.specs.declared.ir.IR.{IR}
use Rattle.ps_plan.proofs.Acyclic.{each-acyclic}
use Rattle.ps_plan.proofs.Complete.{numbers, there}
use Rattle.ps_meaning.proofs.Containing.{contains-first, contains-later}
use Rattle.ps_plan.proofs.ReachedSteps.{path-then}
use Rattle.ps_plan.proofs.Unfolding.{complete-is, plan_at-is}
use Rattle.ps_plan.proofs.ValidPlans.{has-shape, in-range, no-circle, reached-complete}

-- A valid plan's reached node n with the entry e: its tree is made of those of its inputs, which are reached too.
module _ (F : Functions) (plan : Plan) (valid : IsValid F plan) where
  abbrev pub inputs_of : IR → PlanTrees
  inputs_of e = plan_trees_of (plan_at plan.nodes plan.exprs) (entry_inputs e)

  abbrev pub made_of : ℕ → IR → PlanTree
  made_of n e = node n (entry_step (tree_at plan.exprs) e) (inputs_of e)

  pub reached-is : (n : ℕ) (e : IR) → Reached plan n → slice_get plan.nodes n ≡ Some e → tree_of plan n ≡ made_of n e
  reached-is n e reached is = plan_at-is plan.nodes plan.exprs (record { 0 = n }) e (reached-complete F plan valid n reached) is

  pub own-complete : (n : ℕ) (e : IR) → Reached plan n → slice_get plan.nodes n ≡ Some e → AllByRecursion IsComplete (step_exprs (entry_step (tree_at plan.exprs) e))
  own-complete n e reached is = (complete-is plan.nodes plan.exprs (record { 0 = n }) e (reached-complete F plan valid n reached) is).0

  has-functions : (n : ℕ) (e : IR) → Reached plan n → slice_get plan.nodes n ≡ Some e → NamesMissingFunction F.count (entry_step (tree_at plan.exprs) e) → ⊥
  has-functions n e reached is h =
      has-shape F plan valid n reached (function_missing (subst (λ (o : Option IR). IsSomeAnd o (λ e. NamesMissingFunction F.count (entry_step (tree_at plan.exprs) e))) (sym is) h))

  clean-inputs : (ns : List Node) → ((m : Node) → Contains (numbers ns) m.0 → IsClean F plan (plan_at plan.nodes plan.exprs m)) → AreClean F plan (plan_trees_of (plan_at plan.nodes plan.exprs) ns)
  clean-inputs [] all = tt
  clean-inputs (n ∷ ns) all = (all n (contains-first n.0 _), clean-inputs ns (λ m c. all m (contains-later n.0 m.0 _ c)))

  inputs-contain : (n m : ℕ) (e : IR) → slice_get plan.nodes n ≡ Some e → Contains (numbers (entry_inputs e)) m → Contains (inputs_at plan n) m
  inputs-contain n m e is c = subst (λ (o : Option IR). Contains (named_by entry_inputs o) m) (sym is) c

  clean-node : (n : ℕ) (e : IR) → Reached plan n → slice_get plan.nodes n ≡ Some e → AreClean F plan (inputs_of e) → IsClean F plan (tree_of plan n)
  clean-node n e reached is below =
      let q = reached-is n e reached is in
      subst (IsClean F plan) (sym q) (
        below,
        (λ R g. valid n R (record { reached = reached; because = inl g })),
        (λ R t. valid n R (record { reached = reached; because = inr (subst (λ (t : PlanTree). TreeRefused F plan t R) (sym q) (below, (own-complete n e reached is, has-functions n e reached is), t)) })),
      )

  -- induction along the inputs of reached nodes
  module _ (Q : ℕ → Type 0) (step : (n : ℕ) (e : IR) → Reached plan n → slice_get plan.nodes n ≡ Some e → ((m : Node) → Contains (numbers (entry_inputs e)) m.0 → Q m.0) → Q n) where
    pub each-reached : (n : ℕ) → Reached plan n → Q n
    each-reached n reached =
        each-acyclic (inputs_at plan) (length plan.nodes) (λ d n. Reached plan n → Q n)
        (λ d n below all way. let x = there plan.nodes n below in step n x.0 way x.1 (λ m c. let k = inputs-contain n m.0 x.0 x.1 c in all m.0 k (path-then way k)))
        n ((no-circle F plan valid n reached).nodes) ((in-range F plan valid n reached).nodes) reached

  pub reached-clean : (n : ℕ) → Reached plan n → IsClean F plan (tree_of plan n)
  reached-clean = each-reached (λ n. IsClean F plan (tree_of plan n)) (λ n e reached is all. clean-node n e reached is (clean-inputs (entry_inputs e) all))
