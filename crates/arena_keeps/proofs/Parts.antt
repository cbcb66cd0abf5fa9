-- The parts of a valid plan's tree are the trees of its reached nodes, and no node stands below itself.
use Rattle.std.proofs.Common.{◌≡◌, ℕ, ◌⊎◌, List, [], ◌∷◌, length, Option, Some, sym, ap, subst, ◌∙◌, inl, inr}
use Rattle.std.specs.Prelude.{Contains, slice_get}
use Rattle.pu_base.specs.declared.arena.Node.{Node}
use Rattle.ps_frame.specs.Functions.{Functions}
use Rattle.ps_frame.specs.Trees.{tree_at}
use Rattle.ps_meaning.specs.PlanTrees.{PlanTree, PlanTrees, node}
use Rattle.ps_meaning.proofs.Containing.{contains-first, contains-later}
use Rattle.ps_plan.specs.Entries.{entry_inputs, entry_step}
use Rattle.ps_plan.specs.Graph.{Path, Reached, here, inputs_at, named_by, onward}
use Rattle.ps_plan.specs.Plans.{Plan, plan_at, plan_trees_of, tree_of}
use Rattle.ps_plan.specs.Refusals.{IsValid}
use Rattle.ps_plan.specs.declared.ir.IR.{IR}
use Rattle.ps_plan.proofs.Acyclic.{each-acyclic}
use Rattle.ps_plan.proofs.Complete.{numbers, there}
use Rattle.ps_plan.proofs.ReachedSteps.{path-then}
use Rattle.ps_plan.proofs.Unfolding.{plan_at-is}
use Rattle.ps_plan.proofs.ValidPlans.{in-range, no-circle, reached-below, reached-complete}
use Rattle.plan_keeps.specs.Kept.{AreNumberedApart, HasNumber, IsNumberedApart, IsPartOf, IsPartOfSome, SomeHasNumber, number_of}

module _ (F : Functions) (plan : Plan) (valid : IsValid F plan) where
  abbrev pub trees_at : List Node → PlanTrees
  trees_at ns = plan_trees_of (plan_at plan.nodes plan.exprs) ns

  -- what a reached node's entry is, and its tree
  pub record Entered (n : ℕ) : Type 0 where
    pub entry : IR
    pub there : slice_get plan.nodes n ≡ Some entry
    pub is : tree_of plan n ≡ node n (entry_step (tree_at plan.exprs) entry) (trees_at (entry_inputs entry))

  pub entered : (n : ℕ) → Reached plan n → Entered n
  entered n reached =
      let e = there plan.nodes n (reached-below F plan valid n reached) in
      record { entry = e.0; there = e.1; is = plan_at-is plan.nodes plan.exprs (record { 0 = n }) e.0 (reached-complete F plan valid n reached) e.1 }

  pub named_inputs : (n : ℕ) (e : IR) → slice_get plan.nodes n ≡ Some e → (m : ℕ) → Contains (numbers (entry_inputs e)) m → Contains (inputs_at plan n) m
  named_inputs n e is m h = subst (λ (o : Option IR). Contains (named_by entry_inputs o) m) (sym is) h

  -- what holds of a reached node where it holds of its inputs holds of each
  pub along : (P : ℕ → Type 0) → ((n : ℕ) → Reached plan n → ((m : ℕ) → Contains (inputs_at plan n) m → P m) → P n) → (n : ℕ) → Reached plan n → P n
  along P step n reached =
      each-acyclic (inputs_at plan) (length plan.nodes) (λ d n. Reached plan n → P n) (λ d n below all way. step n way (λ m c. all m c (path-then way c))) n (no-circle F plan valid n reached).nodes (in-range F plan valid n reached).nodes reached

  -- a part is the tree of a reached node
  pub record IsTreeOf (u : PlanTree) : Type 0 where
    pub number : ℕ
    pub reached : Reached plan number
    pub is : u ≡ tree_of plan number
    pub own : number_of u ≡ number

  module _ (u : PlanTree) where
    some_part : (ns : List Node) → ((m : ℕ) → Contains (numbers ns) m → IsPartOf u (tree_of plan m) → IsTreeOf u) → IsPartOfSome u (trees_at ns) → IsTreeOf u
    some_part [] all h = absurd h
    some_part (n ∷ ns) all (inl h) = all n.0 (contains-first n.0 (numbers ns)) h
    some_part (n ∷ ns) all (inr h) = some_part ns (λ m c k. all m (contains-later n.0 m (numbers ns) c) k) h

    part_step : (n : ℕ) → Reached plan n → ((m : ℕ) → Contains (inputs_at plan n) m → IsPartOf u (tree_of plan m) → IsTreeOf u) → IsPartOf u (tree_of plan n) → IsTreeOf u
    part_step n reached all h = let e = entered n reached in by e (subst (IsPartOf u) e.is h)
      where
        by : (e : Entered n) → (u ≡ node n (entry_step (tree_at plan.exprs) e.entry) (trees_at (entry_inputs e.entry))) ⊎ IsPartOfSome u (trees_at (entry_inputs e.entry)) → IsTreeOf u
        by e (inl q) = record { number = n; reached = reached; is = q ∙ sym e.is; own = ap number_of q }
        by e (inr h) = some_part (entry_inputs e.entry) (λ m c k. all m (named_inputs n e.entry e.there m c) k) h

    pub part_is : (n : ℕ) → Reached plan n → IsPartOf u (tree_of plan n) → IsTreeOf u
    part_is = along (λ n. IsPartOf u (tree_of plan n) → IsTreeOf u) part_step

  -- a number in a tree is that of a node that is reached from there
  module _ (k : ℕ) where
    some_path : (n : ℕ) (ns : List Node) → ((m : ℕ) → Contains (numbers ns) m → HasNumber k (tree_of plan m) → Path (inputs_at plan) n k) → SomeHasNumber k (trees_at ns) → Path (inputs_at plan) n k
    some_path n [] all h = absurd h
    some_path n (m ∷ ns) all (inl h) = all m.0 (contains-first m.0 (numbers ns)) h
    some_path n (m ∷ ns) all (inr h) = some_path n ns (λ o c h. all o (contains-later m.0 o (numbers ns) c) h) h

    path_step : (n : ℕ) → Reached plan n → ((m : ℕ) → Contains (inputs_at plan n) m → HasNumber k (tree_of plan m) → Path (inputs_at plan) m k) → HasNumber k (tree_of plan n) → Path (inputs_at plan) n k
    path_step n reached all h = let e = entered n reached in by e (subst (HasNumber k) e.is h)
      where
        by : (e : Entered n) → (k ≡ n) ⊎ SomeHasNumber k (trees_at (entry_inputs e.entry)) → Path (inputs_at plan) n k
        by e (inl q) = subst (λ (k : ℕ). Path (inputs_at plan) n k) (sym q) here
        by e (inr h) = some_path n (entry_inputs e.entry) (λ m c h. let c' = named_inputs n e.entry e.there m c in onward c' (all m c' h)) h

    pub number_path : (n : ℕ) → Reached plan n → HasNumber k (tree_of plan n) → Path (inputs_at plan) n k
    number_path = along (λ n. HasNumber k (tree_of plan n) → Path (inputs_at plan) n k) path_step

  -- no node stands below one of its own number
  all_apart : (ns : List Node) → ((m : ℕ) → Contains (numbers ns) m → IsNumberedApart (tree_of plan m)) → AreNumberedApart (trees_at ns)
  all_apart [] all = tt
  all_apart (n ∷ ns) all = (all n.0 (contains-first n.0 (numbers ns)), all_apart ns (λ m c. all m (contains-later n.0 m (numbers ns) c)))

  not_below : (n : ℕ) → Reached plan n → (ns : List Node) → ((m : ℕ) → Contains (numbers ns) m → Contains (inputs_at plan n) m) → SomeHasNumber n (trees_at ns) → ⊥
  not_below n reached [] named h = absurd h
  not_below n reached (m ∷ ns) named (inl h) =
      let c = named m.0 (contains-first m.0 (numbers ns)) in
      (no-circle F plan valid n reached).nodes n here (record { first = m.0; is_next = c; way = number_path n m.0 (path-then reached c) h })
  not_below n reached (m ∷ ns) named (inr h) = not_below n reached ns (λ o c. named o (contains-later m.0 o (numbers ns) c)) h

  apart_step : (n : ℕ) → Reached plan n → ((m : ℕ) → Contains (inputs_at plan n) m → IsNumberedApart (tree_of plan m)) → IsNumberedApart (tree_of plan n)
  apart_step n reached all =
      let e = entered n reached in
      let named = named_inputs n e.entry e.there in
      subst IsNumberedApart (sym e.is) (not_below n reached (entry_inputs e.entry) named, all_apart (entry_inputs e.entry) (λ m c. all m (named m c)))

  pub tree_apart : (n : ℕ) → Reached plan n → IsNumberedApart (tree_of plan n)
  tree_apart = along (λ n. IsNumberedApart (tree_of plan n)) apart_step
