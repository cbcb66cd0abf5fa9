-- The nodes that a root leads to, each taken once, weigh no more than the tree of the root.
use Rattle.std.proofs.Common.{◌≡◌, ℕ, suc, ◌+◌, ◌≤◌, List, [], ◌∷◌, ◌++◌, length, slice_get, refl, sym, subst, ◌∙◌, ap, arith, inl, inr}
use Rattle.std.specs.Prelude.{Contains, ◌⊎◌, Option, Some, None, sum_by}
use Rattle.std.proofs.lemmas.List.Elements.{Contains-append_left, Contains-append_right}
use Rattle.std.proofs.lemmas.List.Sums.{sum_by-append, sum_by-cons}
use Rattle.pu_base.specs.declared.arena.Node.{Node}
use Rattle.ps_frame.specs.Trees.{tree_at}
use Rattle.ps_plan.specs.Graph.{Path, Reached, here, inputs_at, named_by, onward}
use Rattle.ps_meaning.specs.PlanTrees.{PlanTree, PlanTrees, all_sizes, node, no_trees, occurrences, occurrences_of_all, tree}
use Rattle.ps_plan.specs.Plans.{Plan, plan_at, plan_trees_of, tree_of}
use Rattle.ps_meaning.specs.Steps.{step_exprs}
use Rattle.ps_plan.specs.Entries.{entry_inputs, entry_step}
use Rattle.ps_plan.specs.declared.ir.IR.{IR}
use Rattle.ps_plan.proofs.Acyclic.{each-acyclic}
use Rattle.ps_plan.proofs.Complete.{numbers, there}
use Rattle.ps_meaning.proofs.Containing.{contains-first, contains-later}
use Rattle.ps_plan.proofs.ReachedSteps.{path-then}
use Rattle.ps_plan.proofs.Unfolding.{plan_at-is}
use Rattle.valid_plans.specs.Surveys.{IsSurvey, Once}
use Rattle.ps_validate.proofs.LeftOuts.{first-or-later, no-item}

-- how many nodes and expressions stand at an entry, if there is one
abbrev pub entry_weight : Plan → Option IR → ℕ
entry_weight plan None = 0
entry_weight plan (Some e) = suc (all_sizes (step_exprs (entry_step (tree_at plan.exprs) e)))

abbrev pub weight : Plan → ℕ → ℕ
weight plan n = entry_weight plan (slice_get plan.nodes n)

-- the numbers of a tree's nodes
abbrev mutual
  pub tree_numbers : PlanTree → List ℕ
  tree_numbers (node at step below) = at ∷ trees_numbers below
  tree_numbers PlanTree.missing = []

  pub trees_numbers : PlanTrees → List ℕ
  trees_numbers no_trees = []
  trees_numbers (tree t ts) = tree_numbers t ++ trees_numbers ts

once-tail : (x : ℕ) (xs : List ℕ) → Once (x ∷ xs) → Once xs
once-tail x xs o i j d h l = o (suc i) (suc j) d (omega (arith, h)) (omega (arith, l))

once-head : (x : ℕ) (xs : List ℕ) → Once (x ∷ xs) → Contains xs x → ⊥
once-head x xs o (k, h, e) = o 0 (suc k) x (omega arith) (omega (arith, h)) (sym e)

-- a list without one of its items
pub without-one : (w : ℕ → ℕ) (x : ℕ) (ys : List ℕ) → Contains ys x → (zs : List ℕ) × (sum_by w ys ≡ w x + sum_by w zs) × ((m : ℕ) → Contains ys m → (m ≡ x) ⊎ Contains zs m)
without-one w x [] c = absurd (no-item x c)
without-one w x (y ∷ ys) c =
    elim (first-or-later y ys x c) [
      | inl h ↦ (ys, sum_by-cons w y ys ∙ ap (λ k. w k + sum_by w ys) h, λ m d. elim (first-or-later y ys m d) [ inl e ↦ inl (sym e ∙ h) | inr e ↦ inr e ])
      | inr h ↦ (let rest = without-one w x ys h in (
        y ∷ rest.0,
        (let sum : sum_by w ys ≡ w x + sum_by w rest.0 = rest.1 in let one = sum_by-cons w y ys in let two = sum_by-cons w y rest.0 in omega arith),
        λ m d. elim (first-or-later y ys m d) [ inl e ↦ inr (subst (λ k. Contains (y ∷ rest.0) k) e (contains-first y rest.0)) | inr e ↦ elim (rest.2 m e) [ inl p ↦ inl p | inr p ↦ inr (contains-later y m rest.0 p) ] ],
      ))
    ]

-- numbers that stand once and are among others weigh no more
pub among-weigh : (w : ℕ → ℕ) (xs ys : List ℕ) → Once xs → ((m : ℕ) → Contains xs m → Contains ys m) → sum_by w xs ≤ sum_by w ys
among-weigh w [] ys once all = omega arith
among-weigh w (x ∷ xs) ys once all =
    let rest = without-one w x ys (all x (contains-first x xs)) in
    let deeper : sum_by w xs ≤ sum_by w rest.0 =
    among-weigh w xs rest.0 (once-tail x xs once) (λ m c. elim (rest.2 m (all m (contains-later x m xs c))) [ inl e ↦ absurd (once-head x xs once (subst (λ k. Contains xs k) e c)) | inr p ↦ p ]) in
    let whole : sum_by w ys ≡ w x + sum_by w rest.0 = rest.1 in
    let one = sum_by-cons w x xs in
    omega arith

module _ (plan : Plan) (order : List ℕ) (survey : IsSurvey plan order) where
  made : (n : ℕ) (e : IR) → Reached plan n → slice_get plan.nodes n ≡ Some e → tree_of plan n ≡ node n (entry_step (tree_at plan.exprs) e) (plan_trees_of (plan_at plan.nodes plan.exprs) (entry_inputs e))
  made n e reached is = plan_at-is plan.nodes plan.exprs (record { 0 = n }) e (survey.complete n reached) is

  -- a tree weighs what its nodes do
  abbrev Weighs : PlanTree → Type 0
  Weighs t = occurrences t ≡ sum_by (weight plan) (tree_numbers t)

  all-weigh : (ns : List Node) → ((m : Node) → Contains (numbers ns) m.0 → Weighs (plan_at plan.nodes plan.exprs m)) → occurrences_of_all (plan_trees_of (plan_at plan.nodes plan.exprs) ns) ≡ sum_by (weight plan) (trees_numbers (plan_trees_of (plan_at plan.nodes plan.exprs) ns))
  all-weigh [] all = refl
  all-weigh (n ∷ ns) all =
      let t = plan_at plan.nodes plan.exprs n in
      let ts = plan_trees_of (plan_at plan.nodes plan.exprs) ns in
      let one : occurrences t ≡ sum_by (weight plan) (tree_numbers t) = all n (contains-first n.0 (numbers ns)) in
      let others : occurrences_of_all ts ≡ sum_by (weight plan) (trees_numbers ts) = all-weigh ns (λ m c. all m (contains-later n.0 m.0 (numbers ns) c)) in
      let joined : sum_by (weight plan) (tree_numbers t ++ trees_numbers ts) ≡ sum_by (weight plan) (tree_numbers t) + sum_by (weight plan) (trees_numbers ts) = sum_by-append (weight plan) (tree_numbers t) (trees_numbers ts) in
      omega arith

  node-weighs : (n : ℕ) (e : IR) → Reached plan n → slice_get plan.nodes n ≡ Some e → ((m : Node) → Contains (numbers (entry_inputs e)) m.0 → Weighs (plan_at plan.nodes plan.exprs m)) → Weighs (tree_of plan n)
  node-weighs n e reached is all =
      let q = made n e reached is in
      let ts = plan_trees_of (plan_at plan.nodes plan.exprs) (entry_inputs e) in
      let below = all-weigh (entry_inputs e) all in
      let own : weight plan n ≡ suc (all_sizes (step_exprs (entry_step (tree_at plan.exprs) e))) = ap (entry_weight plan) is in
      let sum = sum_by-cons (weight plan) n (trees_numbers ts) in
      let here : occurrences (node n (entry_step (tree_at plan.exprs) e) ts) ≡ sum_by (weight plan) (n ∷ trees_numbers ts) = omega arith in
      subst (λ t. occurrences t ≡ sum_by (weight plan) (tree_numbers t)) (sym q) here

  inputs-contain : (n m : ℕ) (e : IR) → slice_get plan.nodes n ≡ Some e → Contains (numbers (entry_inputs e)) m → Contains (inputs_at plan n) m
  inputs-contain n m e is c = subst (λ (o : Option IR). Contains (named_by entry_inputs o) m) (sym is) c

  pub tree-weighs : (n : ℕ) → Reached plan n → Weighs (tree_of plan n)
  tree-weighs n reached =
      each-acyclic (inputs_at plan) (length plan.nodes) (λ d n. Reached plan n → Weighs (tree_of plan n))
      (λ d n below all way. let x = there plan.nodes n below in node-weighs n x.0 way x.1 (λ m c. let k = inputs-contain n m.0 x.0 x.1 c in all m.0 k (path-then way k)))
      n ((survey.no_circle n reached).nodes) ((survey.in_range n reached).nodes) reached

  -- what a node leads to stands in its tree
  stands-below : (ns : List Node) (m k : ℕ) → Contains (numbers ns) m → Contains (tree_numbers (tree_of plan m)) k → Contains (trees_numbers (plan_trees_of (plan_at plan.nodes plan.exprs) ns)) k
  stands-below [] m k c h = absurd (no-item m c)
  stands-below (n ∷ ns) m k c h =
      let ts = trees_numbers (plan_trees_of (plan_at plan.nodes plan.exprs) ns) in
      elim (first-or-later n.0 (numbers ns) m c) [
        | inl e ↦ Contains-append_left (tree_numbers (tree_of plan n.0)) ts k (subst (λ j. Contains (tree_numbers (tree_of plan j)) k) (sym e) h)
        | inr d ↦ Contains-append_right (tree_numbers (tree_of plan n.0)) ts k (stands-below ns m k d h)
      ]

  pub stands-in : {n k : ℕ} → Path (inputs_at plan) n k → Reached plan n → Contains (tree_numbers (tree_of plan n)) k
  stands-in {n} here reached =
      let x = there plan.nodes n ((survey.in_range n reached).nodes n here) in subst (λ t. Contains (tree_numbers t) n) (sym (made n x.0 reached x.1)) (contains-first n _)
  stands-in {n} {k} (onward {b = b} c way) reached =
      let x = there plan.nodes n ((survey.in_range n reached).nodes n here) in
      let c' : Contains (numbers (entry_inputs x.0)) b = subst (λ (o : Option IR). Contains (named_by entry_inputs o) b) x.1 c in
      subst (λ t. Contains (tree_numbers t) k) (sym (made n x.0 reached x.1)) (contains-later n k _ (stands-below (entry_inputs x.0) b k c' (stands-in way (path-then reached c))))

  pub order-weighs : sum_by (weight plan) order ≤ 65536
  order-weighs =
      let root = plan.root.0 in
      let small : sum_by (weight plan) order ≤ sum_by (weight plan) (tree_numbers (tree_of plan root)) = among-weigh (weight plan) order (tree_numbers (tree_of plan root)) survey.once (λ m c. stands-in (survey.reached m c) here) in
      let whole : occurrences (tree_of plan root) ≡ sum_by (weight plan) (tree_numbers (tree_of plan root)) = tree-weighs root here in
      let limit : occurrences (tree_of plan root) ≤ 65536 = (survey.limits root here).1 in
      omega arith

  -- each node weighs something, so there are no more of them
  each-weighs : (ns : List ℕ) → ((m : ℕ) → Contains ns m → Contains order m) → length ns ≤ sum_by (weight plan) ns
  each-weighs [] all = omega arith
  each-weighs (n ∷ ns) all =
      let reached = survey.reached n (all n (contains-first n ns)) in
      let x = there plan.nodes n ((survey.in_range n reached).nodes n here) in
      let own : weight plan n ≡ suc (all_sizes (step_exprs (entry_step (tree_at plan.exprs) x.0))) = ap (entry_weight plan) x.1 in
      let rest = each-weighs ns (λ m c. all m (contains-later n m ns c)) in
      let sum = sum_by-cons (weight plan) n ns in
      omega arith

  pub order-small : length order ≤ 65536
  order-small = let few = each-weighs order (λ m c. c) in let limit = order-weighs in omega arith
