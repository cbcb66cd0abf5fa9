-- What a node of a plan leads to stands in its tree, and what is asked of a tree holds of its parts.
use Rattle.std.proofs.Common.{◌≡◌, ◌⊎◌, ℕ, List, [], ◌∷◌, Option, inl, inr, refl, ap, subst, sym}
use Rattle.std.specs.Prelude.{Contains}
use Rattle.pu_base.specs.declared.arena.Node.{Node}
use Rattle.ps_frame.specs.Functions.{Functions}
use Rattle.ps_meaning.specs.PlanTrees.{PlanTree, PlanTrees, missing, no_trees, node, tree}
use Rattle.ps_plan.proofs.Complete.{numbers}
use Rattle.ps_plan.proofs.ReachedSteps.{path-then}
use Rattle.ps_plan.specs.Entries.{entry_inputs}
use Rattle.ps_plan.specs.Graph.{Path, Reached, here, inputs_at, named_by, onward}
use Rattle.ps_plan.specs.Plans.{Plan, tree_of}
use Rattle.ps_plan.specs.Refusals.{IsValid}
use Rattle.ps_plan.specs.declared.ir.IR.{IR}
use Rattle.ps_rules.specs.Names.{Names}
use Rattle.arena_keeps.proofs.Parts.{entered, trees_at}
use Rattle.plan_keeps.proofs.Lists.{in_cons, in_none}
use Rattle.plan_keeps.specs.Kept.{AreNumberedApart, HasNumber, IsNumberedApart, IsPartOf, IsPartOfSome, SomeHasNumber, number_of}
use Rattle.plan_laws.specs.Laws.{HaveStored, StandsOver}
use Rattle.rule_soundness.specs.Plans.{AreGoodPlans, IsGoodPlan, KnowPlans, KnowsPlan}

module _ (F : Functions) (plan : Plan) (valid : IsValid F plan) where
  some_part : (u : PlanTree) (ns : List Node) (m : ℕ) → Contains (numbers ns) m → IsPartOf u (tree_of plan m) → IsPartOfSome u (trees_at F plan valid ns)
  some_part u [] m c part = absurd (in_none m c)
  some_part u (n ∷ ns) m c part = by (in_cons n.0 m (numbers ns) c) (λ k. some_part u ns m k part)
    where
      by : (n.0 ≡ m) ⊎ Contains (numbers ns) m → (Contains (numbers ns) m → IsPartOfSome u (trees_at F plan valid ns)) → IsPartOfSome u (trees_at F plan valid (n ∷ ns))
      by (inl e) more = inl (subst (λ (k : ℕ). IsPartOf u (tree_of plan k)) (sym e) part)
      by (inr k) more = inr (more k)

  -- the tree of a node stands in that of each node that leads there
  pub part_along : (a n : ℕ) → Path (inputs_at plan) a n → Reached plan a → IsPartOf (tree_of plan n) (tree_of plan a)
  part_along a n here reached = subst (λ (t : PlanTree). IsPartOf t t) (sym (entered F plan valid a reached).is) (inl refl)
  part_along a n (onward {b = m} c way) reached =
      let e = entered F plan valid a reached in
      let named = subst (λ (o : Option IR). Contains (named_by entry_inputs o) m) e.there c in
      subst (IsPartOf (tree_of plan n)) (sym e.is) (inr (some_part (tree_of plan n) (entry_inputs e.entry) m named (part_along m n way (path-then reached c))))

-- a part's number stands in the tree
mutual
  pub own_number : (u t : PlanTree) → IsPartOf u t → HasNumber (number_of u) t
  own_number u (node at step below) (inl e) = inl (ap number_of e)
  own_number u (node at step below) (inr part) = inr (some_number u below part)
  own_number u missing part = part

  some_number : (u : PlanTree) (ts : PlanTrees) → IsPartOfSome u ts → SomeHasNumber (number_of u) ts
  some_number u no_trees part = part
  some_number u (tree t ts) (inl part) = inl (own_number u t part)
  some_number u (tree t ts) (inr part) = inr (some_number u ts part)

module _ (F : Functions) (stored : ℕ → PlanTree) (names : Names) where
  -- Caches stand over what is stored for their ids, no rule refuses a step, the names are known, and no node stands below one of its own number.
  abbrev pub IsFit : PlanTree → Type 0
  IsFit t = StandsOver stored t × IsGoodPlan F t × KnowsPlan F names t × IsNumberedApart t

  abbrev pub AreFit : PlanTrees → Type 0
  AreFit ts = HaveStored stored ts × AreGoodPlans F ts × KnowPlans F names ts × AreNumberedApart ts

  mutual
    pub part_fit : (u t : PlanTree) → IsPartOf u t → IsFit t → IsFit u
    part_fit u (node at step below) (inl e) fit = subst IsFit (sym e) fit
    part_fit u (node at step below) (inr part) fit = some_fit u below part (fit.0.1, fit.1.1, fit.2.1, fit.3.1)
    part_fit u missing part fit = absurd part

    some_fit : (u : PlanTree) (ts : PlanTrees) → IsPartOfSome u ts → AreFit ts → IsFit u
    some_fit u no_trees part fit = absurd part
    some_fit u (tree t ts) (inl part) fit = part_fit u t part (fit.0.0, fit.1.0, fit.2.0, fit.3.0)
    some_fit u (tree t ts) (inr part) fit = some_fit u ts part (fit.0.1, fit.1.1, fit.2.1, fit.3.1)
