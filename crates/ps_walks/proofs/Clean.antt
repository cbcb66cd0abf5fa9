-- Where each node at and below a node is accepted, its tree is clean, and the schemas are those of the trees.
use Rattle.std.proofs.Common.{◌≡◌, ◌⊎◌, inl, inr, ℕ, zero, suc, List, [], ◌∷◌, length, slice_get, refl, sym, subst, ◌∙◌, ap}
use Rattle.std.specs.Prelude.{Option, Some, None, Contains, IfSome, unwrap_or}
use Rattle.pu_base.specs.declared.arena.Node.{Node}
use Rattle.ps_frame.specs.Functions.{Functions}
use Rattle.ps_frame.specs.Tables.{Fields}
use Rattle.ps_frame.specs.Trees.{tree_at}
use Rattle.ps_plan.specs.Graph.{Path, Reached, here, onward, inputs_at, named_by}
use Rattle.ps_meaning.specs.PlanTrees.{AreCompletePlans, IsCompletePlan, PlanTree}
use Rattle.ps_plan.specs.Plans.{Plan, node_tree, plan_trees_of, plan_within, tree_of}
use Rattle.ps_meaning.specs.StepRefusals.{HasOwnNumbers, Refusal, TypingRefused}
use Rattle.ps_plan.specs.Refusals.{AreClean, GraphRefused, IsClean, IsRefused, IsValid, TreeRefused}
use Rattle.ps_meaning.specs.Schemas.{output_schema, tree_schema, tree_schemas}
use Rattle.ps_plan.specs.Entries.{entry_inputs, entry_step}
use Rattle.ps_plan.specs.declared.ir.IR.{IR}
use Rattle.ps_plan.proofs.Complete.{numbers}
use Rattle.ps_meaning.proofs.Containing.{contains-first, contains-later}
use Rattle.ps_plan.proofs.ReachedSteps.{path-then}
use Rattle.ps_plan.proofs.ValidPlans.{path-join}
use Rattle.ps_walks.specs.Fit.{HasSchemas, plan_schemas}
use Rattle.ps_walks.specs.Accepted.{EachBelowAccepted, IsAccepted, IsRefusedAt, IsTypedTo, NodeSchemas, schemas_at}

module _ (F : Functions) (plan : Plan) (S : NodeSchemas) where
  abbrev within : ℕ → Node → PlanTree
  within d n = plan_within d plan.nodes plan.exprs n

  -- a tree is clean, and has the schema
  abbrev IsSettled : PlanTree → Fields → Type 0
  IsSettled t s = IsClean F plan t × (tree_schema F t ≡ s)

  abbrev SettlesWithin : ℕ → Type 0
  SettlesWithin d = (n : Node) → IsCompletePlan (within d n) → ((m : ℕ) → Path (inputs_at plan) n.0 m → IsAccepted F plan S m) → IsSettled (within d n) (S n.0)

  abbrev AcceptsBelow : List ℕ → Type 0
  AcceptsBelow ns = (m : ℕ) → Contains ns m → (k : ℕ) → Path (inputs_at plan) m k → IsAccepted F plan S k

  all-settled : (d : ℕ) → SettlesWithin d → (ns : List Node) → AreCompletePlans (plan_trees_of (within d) ns) → AcceptsBelow (numbers ns) → AreClean F plan (plan_trees_of (within d) ns) × (tree_schemas F (plan_trees_of (within d) ns) ≡ schemas_at S ns)
  all-settled d rec [] complete below = (tt, refl)
  all-settled d rec (n ∷ ns) complete below =
      let first = rec n complete.0 (below n.0 (contains-first n.0 _)) in
      let rest = all-settled d rec ns complete.1 (λ m c. below m (contains-later n.0 m _ c)) in
      ((first.0, rest.0), ap (λ s. s ∷ tree_schemas F (plan_trees_of (within d) ns)) first.1 ∙ ap (λ ss. S n.0 ∷ ss) rest.1)

  entry-settled : (d : ℕ) → SettlesWithin d → (n : Node) (o : Option IR) → IsCompletePlan (node_tree (tree_at plan.exprs) (within d) n o) → ((R : Refusal) → ¬ GraphRefused F plan n.0 R)
      → IfSome o (λ e. IsTypedTo F (entry_step (tree_at plan.exprs) e) (schemas_at S (entry_inputs e)) (S n.0)) → AcceptsBelow (named_by entry_inputs o) → IsSettled (node_tree (tree_at plan.exprs) (within d) n o) (S n.0)
  entry-settled d rec n None complete graph typed below = absurd complete
  entry-settled d rec n (Some e) complete graph typed below =
      let all = all-settled d rec (entry_inputs e) complete.1 below in
      let step = entry_step (tree_at plan.exprs) e in (
        (all.0, graph, λ R. subst (λ ss. ¬ TypingRefused F step ss R) (sym all.1) (typed.rules R)),
        ap (λ ss. unwrap_or (output_schema F step ss) []) all.1 ∙ ap (λ s. unwrap_or s []) typed.schema,
      )

  pub settled-within : (d : ℕ) → SettlesWithin d
  unfolding plan_within
  settled-within zero n complete each = absurd complete
  settled-within (suc d) n complete each =
      entry-settled d (settled-within d) n (slice_get plan.nodes n.0) complete (each n.0 here).graph (each n.0 here).typed (λ m c k way. each k (onward c way))

  -- what refuses a step over clean inputs refuses its node
  entry-refused : (d : ℕ) (n : Node) (o : Option IR) (R : Refusal) → IsCompletePlan (node_tree (tree_at plan.exprs) (within d) n o) → AcceptsBelow (named_by entry_inputs o)
      → IfSome o (λ e. HasOwnNumbers F (entry_step (tree_at plan.exprs) e) × TypingRefused F (entry_step (tree_at plan.exprs) e) (schemas_at S (entry_inputs e)) R) → TreeRefused F plan (node_tree (tree_at plan.exprs) (within d) n o) R
  entry-refused d n None R complete below refused = absurd complete
  entry-refused d n (Some e) R complete below refused =
      let all = all-settled d (settled-within d) (entry_inputs e) complete.1 below in
      (all.0, refused.0, subst (λ ss. TypingRefused F (entry_step (tree_at plan.exprs) e) ss R) (sym all.1) refused.1)

  refused-within : (d : ℕ) (n : Node) (R : Refusal) → IsCompletePlan (within d n) → AcceptsBelow (inputs_at plan n.0) → IsRefusedAt F plan S n.0 R → TreeRefused F plan (within d n) R
  unfolding plan_within
  refused-within zero n R complete below refused = absurd complete
  refused-within (suc d) n R complete below refused = entry-refused d n (slice_get plan.nodes n.0) R complete below refused

  pub steps-refused : (n : ℕ) (R : Refusal) → Reached plan n → IsCompletePlan (tree_of plan n) → EachBelowAccepted F plan S n → IsRefusedAt F plan S n R → IsRefused F plan n R
  steps-refused n R reached complete below refused =
      record { reached = reached; because = inr (refused-within (length plan.nodes) (record { 0 = n }) R complete (λ i c m way. below i m c way) refused) }

  module _ (complete : (n : ℕ) → Reached plan n → IsCompletePlan (tree_of plan n)) (each : (n : ℕ) → Reached plan n → IsAccepted F plan S n) where
    settled : (n : ℕ) → Reached plan n → IsSettled (tree_of plan n) (S n)
    settled n reached = settled-within (length plan.nodes) (record { 0 = n }) (complete n reached) (λ m way. each m (path-join reached way))

    pub schemas-are : (n : ℕ) → Reached plan n → tree_schema F (tree_of plan n) ≡ S n
    schemas-are n reached = (settled n reached).1

    same-schemas : (ns : List Node) → ((m : Node) → Contains (numbers ns) m.0 → Reached plan m.0) → schemas_at (plan_schemas F plan) ns ≡ schemas_at S ns
    same-schemas [] all = refl
    same-schemas (n ∷ ns) all =
        ap (λ s. s ∷ schemas_at (plan_schemas F plan) ns) (schemas-are n.0 (all n (contains-first n.0 _))) ∙ ap (λ ss. S n.0 ∷ ss) (same-schemas ns (λ m c. all m (contains-later n.0 m.0 _ c)))

    pub schemas-typed : HasSchemas F plan
    schemas-typed n e reached is =
        let typed = subst (λ (o : Option IR). IfSome o (λ e. IsTypedTo F (entry_step (tree_at plan.exprs) e) (schemas_at S (entry_inputs e)) (S n))) is (each n reached).typed in
        ap (λ ss. output_schema F (entry_step (tree_at plan.exprs) e) ss) (same-schemas (entry_inputs e) (λ m c. path-then reached (subst (λ (o : Option IR). Contains (named_by entry_inputs o) m.0) (sym is) c)))
        ∙ typed.schema ∙ ap (λ s. Some s) (sym (schemas-are n reached))

    clean-not-refused : (t : PlanTree) (R : Refusal) → IsClean F plan t → ¬ TreeRefused F plan t R
    clean-not-refused (PlanTree.node at step below) R clean refused = clean.2 R refused.2
    clean-not-refused PlanTree.missing R clean refused = refused

    pub plan-valid : IsValid F plan
    plan-valid n R refused = by refused.because
      where
        by : GraphRefused F plan n R ⊎ TreeRefused F plan (tree_of plan n) R → ⊥
        by (inl graph) = (each n refused.reached).graph R graph
        by (inr typing) = clean-not-refused (tree_of plan n) R (settled n refused.reached).0 typing
