-- Nodes that are checked one after another, each after its inputs.
use Rattle.std.proofs.Common.{◌≡◌, ℕ, suc, ◌+◌, ◌*◌, ◌<◌, ◌≤◌, ◌≢◌, List, [], ◌∷◌, ◌++◌, length, slice_get, set, take, drop, refl, sym, subst, ◌∙◌, ap, add-one, arith, inl, inr}
use Rattle.std.specs.Prelude.{Contains, ◌⊎◌, Option, Some, None, replicate, sum_by, unwrap_or}
use Rattle.std.specs.List.{AllByRecursion}
use Rattle.std.proofs.Math.ListN.{length-set}
use Rattle.std.proofs.lemmas.List.{length-replicate}
use Rattle.std.proofs.Math.Seq.{take-length, take-suc}
use Rattle.std.proofs.lemmas.List.Sums.{sum_by-drop_more}
use Rattle.std.proofs.lemmas.Option.{get_or_from_slice_get, slice_get_within}
use Rattle.std.proofs.lemmas.List.Elements.{Contains-append_cases}
use Rattle.pu_base.specs.declared.arena.Node.{Node}
use Rattle.ps_frame.specs.Functions.{Functions}
use Rattle.ps_frame.specs.Tables.{Fields}
use Rattle.ps_frame.specs.Trees.{IsComplete, tree_at}
use Rattle.ps_frame.specs.declared.refusal.PolarsError.{PolarsError}
use Rattle.ps_frame.specs.declared.refusal.PolarsError.TheVariants as error
use Rattle.ps_frame.specs.declared.refusal.Why.{Why}
use Rattle.ps_plan.specs.Graph.{Reached, here, named_by}
use Rattle.ps_meaning.specs.PlanTrees.{PlanTree, PlanTrees, all_sizes, node}
use Rattle.ps_plan.specs.Plans.{Plan, plan_at, plan_trees_of, tree_of}
use Rattle.ps_meaning.specs.StepRefusals.{NamesMissingFunction, Refusal, TypingRefused, column_not_found, duplicate, schema_mismatch, unsupported}
use Rattle.ps_plan.specs.Refusals.{AreClean, IsClean, IsRefused, IsValid, TreeRefused}
use Rattle.ps_meaning.specs.Schemas.{output_schema, tree_schema, tree_schemas}
use Rattle.ps_meaning.specs.Steps.{Step, step_exprs}
use Rattle.ps_plan.specs.Entries.{entry_inputs, entry_step}
use Rattle.ps_plan.specs.declared.ir.IR.{IR}
use Rattle.ps_plan.proofs.Complete.{numbers, there}
use Rattle.ps_meaning.proofs.Containing.{contains-first, contains-later}
use Rattle.ps_plan.proofs.Unfolding.{complete-is, plan_at-is}
use Rattle.ps_survey.proofs.Lists.{from-at, same-or-not, slice_get-set_other, slice_get-set_same}
use Rattle.ps_survey.specs.Flaws.{Flaw}
use Rattle.valid_plans.specs.Surveys.{IsSurvey}
use Rattle.ps_walks.specs.Accepted.{schemas_at}
use Rattle.ps_walks.specs.Fit.{HasSchemas, plan_schemas}
use Rattle.ps_validate.proofs.LeftOuts.{first-or-later, no-item}
use Rattle.ps_validate.proofs.Unrefused.{StandsFor, entry-error, part-error, place-error, unrefused}
use Rattle.ps_validate.proofs.Weights.{entry_weight, order-weighs, weight}
use Rattle.ps_validate.specs.Checks.{IsCheckError}
use Rattle.ps_validate.specs.Fit.{HaveOneInput, IsWellFormed, IsPlaced}
use Rattle.valid_plans.specs.Known.{AreKnown, Known, schemas_in}
use Rattle.ps_validate.specs.Nodes.{GivesSchema, IsNodeError}
use Rattle.valid_plans.specs.Valid.{HaveSchemas}
use Rattle.ps_validate.specs.Errors.{IsPlanError}

pub take-next : (xs : List ℕ) (i n m : ℕ) → slice_get xs i ≡ Some n → Contains (take (i + 1) xs) m → Contains (take i xs) m ⊎ (n ≡ m)
take-next xs i n m at c =
    let grown : take (i + 1) xs ≡ take i xs ++ n ∷ [] = ap (λ k. take k xs) (add-one i) ∙ take-suc xs i n (slice_get_within xs i n at) ∙ ap (λ x. take i xs ++ x ∷ []) (get_or_from_slice_get xs i n n at) in
    elim (Contains-append_cases (take i xs) (n ∷ []) m (subst (λ ys. Contains ys m) grown c)) [ inl h ↦ inl h | inr h ↦ elim (first-or-later n [] m h) [ inl e ↦ inr e | inr d ↦ absurd (no-item m d) ] ]

sum-drop : (w : ℕ → ℕ) (xs : List ℕ) (i n : ℕ) → slice_get xs i ≡ Some n → sum_by w (drop i xs) ≡ w n + sum_by w (drop (i + 1) xs)
sum-drop w xs i n at = sum_by-drop_more w xs i n (slice_get_within xs i n at) ∙ ap (λ k. w k + sum_by w (drop (i + 1) xs)) (get_or_from_slice_get xs i n n at)

module _ (F : Functions) (plan : Plan) where
  -- a node whose schema is known and of which nothing is refused
  pub record IsDone (known : Known) (n : ℕ) : Type 0 where
    pub schema : slice_get known n ≡ Some (Some (tree_schema F (tree_of plan n)))
    pub clean : IsClean F plan (tree_of plan n)
    pub gives : (e : IR) → slice_get plan.nodes n ≡ Some e → output_schema F (entry_step (tree_at plan.exprs) e) (schemas_at (plan_schemas F plan) (entry_inputs e)) ≡ Some (tree_schema F (tree_of plan n))

  -- the nodes of an order before i are done
  pub record Checking (order : List ℕ) (i : ℕ) (known : Known) (first steps : ℕ) : Type 0 where
    pub size : length known ≡ length plan.nodes
    pub done : (m : ℕ) → Contains (take i order) m → IsDone known m
    pub small : steps + 2 * sum_by (weight plan) (drop i order) ≤ first + 2 * sum_by (weight plan) order

module _ (F : Functions) (plan : Plan) (order : List ℕ) (survey : IsSurvey plan order) (flaws : (n : ℕ) (w : Why) → Reached plan n → Flaw plan n w → ⊥) (caches : HaveOneInput plan.nodes order) where
  abbrev inputs_of : IR → PlanTrees
  inputs_of e = plan_trees_of (plan_at plan.nodes plan.exprs) (entry_inputs e)

  -- the inputs of a node, where these are done
  module _ (known : Known) where
    inputs-known : (ns : List Node) → ((m : ℕ) → Contains (numbers ns) m → IsDone F plan known m) → AreKnown known ns
    inputs-known [] done = tt
    inputs-known (n ∷ ns) done = ((tree_schema F (tree_of plan n.0), (done n.0 (contains-first n.0 (numbers ns))).schema), inputs-known ns (λ m c. done m (contains-later n.0 m (numbers ns) c)))

    inputs-schemas : (ns : List Node) → ((m : ℕ) → Contains (numbers ns) m → IsDone F plan known m) → schemas_in known ns ≡ tree_schemas F (plan_trees_of (plan_at plan.nodes plan.exprs) ns)
    inputs-schemas [] done = refl
    inputs-schemas (n ∷ ns) done =
        ap (λ (o : Option (Option Fields)). unwrap_or (unwrap_or o None) [] ∷ schemas_in known ns) (done n.0 (contains-first n.0 (numbers ns))).schema ∙ ap (λ ss. tree_schema F (tree_of plan n.0) ∷ ss) (inputs-schemas ns (λ m c. done m (contains-later n.0 m (numbers ns) c)))

    inputs-at : (ns : List Node) → ((m : ℕ) → Contains (numbers ns) m → IsDone F plan known m) → schemas_in known ns ≡ schemas_at (plan_schemas F plan) ns
    inputs-at [] done = refl
    inputs-at (n ∷ ns) done =
        ap (λ (o : Option (Option Fields)). unwrap_or (unwrap_or o None) [] ∷ schemas_in known ns) (done n.0 (contains-first n.0 (numbers ns))).schema ∙ ap (λ ss. tree_schema F (tree_of plan n.0) ∷ ss) (inputs-at ns (λ m c. done m (contains-later n.0 m (numbers ns) c)))

    inputs-clean : (ns : List Node) → ((m : ℕ) → Contains (numbers ns) m → IsDone F plan known m) → AreClean F plan (plan_trees_of (plan_at plan.nodes plan.exprs) ns)
    inputs-clean [] done = tt
    inputs-clean (n ∷ ns) done = ((done n.0 (contains-first n.0 (numbers ns))).clean, inputs-clean ns (λ m c. done m (contains-later n.0 m (numbers ns) c)))

  pub place-within : (i n : ℕ) → slice_get order i ≡ Some n → n < length plan.nodes
  place-within i n at = (survey.in_range n (survey.reached n (from-at order i n at))).nodes n here

  -- the node n at place i, with the entry e
  module _ (i : ℕ) (known : Known) (first steps : ℕ) (n : ℕ) (e : IR) (at : slice_get order i ≡ Some n) (is : slice_get plan.nodes n ≡ Some e) (checking : Checking F plan order i known first steps) where
    stands : Contains order n
    stands = from-at order i n at

    reached : Reached plan n
    reached = survey.reached n stands

    done-inputs : (m : ℕ) → Contains (numbers (entry_inputs e)) m → IsDone F plan known m
    done-inputs m c = checking.done m (survey.inputs_first i n m at (subst (λ (o : Option IR). Contains (named_by entry_inputs o) m) (sym is) c))

    pub node-known : AreKnown known (entry_inputs e)
    node-known = inputs-known known (entry_inputs e) done-inputs

    pub node-complete : AllByRecursion IsComplete (step_exprs (entry_step (tree_at plan.exprs) e))
    node-complete = (complete-is plan.nodes plan.exprs (record { 0 = n }) e (survey.complete n reached) is).0

    abbrev step' : Step
    step' = entry_step (tree_at plan.exprs) e

    made : tree_of plan n ≡ node n step' (inputs_of e)
    made = plan_at-is plan.nodes plan.exprs (record { 0 = n }) e (survey.complete n reached) is

    same-schemas : schemas_in known (entry_inputs e) ≡ tree_schemas F (inputs_of e)
    same-schemas = inputs-schemas known (entry_inputs e) done-inputs

    below-clean : AreClean F plan (inputs_of e)
    below-clean = inputs-clean known (entry_inputs e) done-inputs

    -- the node is done
    module _ (s : Fields) (placed : IsPlaced plan.root (record { 0 = n }) step') (fit : IsWellFormed F.count step' (entry_inputs e)) (given : GivesSchema F step' (schemas_in known (entry_inputs e)) s) where
      node-clean : IsClean F plan (tree_of plan n)
      node-clean =
          subst (λ t. IsClean F plan t) (sym made) (
            below-clean,
            unrefused F plan n e is reached (λ w f. flaws n w reached f) order survey.all caches fit placed node-complete given.supported,
            λ R r. given.rules R (subst (λ ss. TypingRefused F step' ss R) (sym same-schemas) r),
          )

      node-schema : tree_schema F (tree_of plan n) ≡ s
      node-schema = ap (tree_schema F) made ∙ ap (λ ss. unwrap_or (output_schema F step' ss) []) (sym same-schemas) ∙ ap (λ o. unwrap_or o []) given.schema

      own-gives : (x : IR) → slice_get plan.nodes n ≡ Some x → output_schema F (entry_step (tree_at plan.exprs) x) (schemas_at (plan_schemas F plan) (entry_inputs x)) ≡ Some (tree_schema F (tree_of plan n))
      own-gives x found =
          let same : e ≡ x = (let q : Some e ≡ Some x = sym is ∙ found in cc) in
          subst (λ x. output_schema F (entry_step (tree_at plan.exprs) x) (schemas_at (plan_schemas F plan) (entry_inputs x)) ≡ Some (tree_schema F (tree_of plan n))) same
          (ap (output_schema F step') (sym (inputs-at known (entry_inputs e) done-inputs)) ∙ given.schema ∙ ap Some (sym node-schema))

      pub node-done : (then : Known) (more : ℕ) → then ≡ set known n (Some s) → n < length known → more ≤ (steps + 1) + 2 * all_sizes (step_exprs step') → Checking F plan order (i + 1) then first more
      node-done then more written within few =
          record {
            size = ap length written ∙ length-set known n (Some s) ∙ checking.size;
            done = done-all;
            small = (let small = checking.small in let own : weight plan n ≡ suc (all_sizes (step_exprs step')) = ap (entry_weight plan) is in let rest = sum-drop (weight plan) order i n at in omega arith);
          }
        where
          own-done : IsDone F plan then n
          own-done = record { schema = ap (λ (k : Known). slice_get k n) written ∙ slice_get-set_same known n (Some s) within ∙ ap (λ s. Some (Some s)) (sym node-schema); clean = node-clean; gives = own-gives }

          other-done : (m : ℕ) → IsDone F plan known m → (m ≡ n) ⊎ (m ≢ n) → IsDone F plan then m
          other-done m d (inl same) = subst (λ (k : ℕ). IsDone F plan then k) (sym same) own-done
          other-done m d (inr ne) = record { schema = ap (λ (k : Known). slice_get k m) written ∙ slice_get-set_other known n m (Some s) ne ∙ d.schema; clean = d.clean; gives = d.gives }

          done-all : (m : ℕ) → Contains (take (i + 1) order) m → IsDone F plan then m
          done-all m c = elim (take-next order i n m at c) [ inl d ↦ other-done m (checking.done m d) (same-or-not m n) | inr same ↦ subst (λ (k : ℕ). IsDone F plan then k) same own-done ]

    -- an error of the node stands for a refusal of the plan
    graph-error : (x : PolarsError) → StandsFor F plan n e is x → IsPlanError F plan x
    graph-error x h = inr (n, h.0, h.1, record { reached = reached; because = inl h.2 })

    rule-error : (R : Refusal) → (NamesMissingFunction F.count step' → ⊥) → TypingRefused F step' (schemas_in known (entry_inputs e)) R → IsRefused F plan n R
    rule-error R function r =
        record {
          reached = reached;
          because = inr (subst (λ (t : PlanTree). TreeRefused F plan t R) (sym made) (below-clean, (node-complete, function), subst (λ ss. TypingRefused F step' ss R) same-schemas r));
        }

    typing-error : (x : PolarsError) → (NamesMissingFunction F.count step' → ⊥) → IsNodeError F (record { 0 = n }) step' (schemas_in known (entry_inputs e)) x → IsPlanError F plan x
    typing-error (error.ColumnNotFound k name) function h = inr (n, column_not_found name, ap (λ m. error.ColumnNotFound m name) h.0, rule-error (column_not_found name) function h.1)
    typing-error (error.Duplicate k name) function h = inr (n, duplicate name, ap (λ m. error.Duplicate m name) h.0, rule-error (duplicate name) function h.1)
    typing-error (error.SchemaMismatch k) function h = inr (n, schema_mismatch, ap (λ m. error.SchemaMismatch m) h.0, rule-error schema_mismatch function h.1)
    typing-error (error.Unsupported k w) function h =
        elim h.1 [ inl r ↦ inr (n, unsupported w, ap (λ m. error.Unsupported m w) h.0, rule-error (unsupported w) function r) | inr p ↦ graph-error (error.Unsupported k w) (part-error F plan n e is k w h.0 p) ]
    typing-error error.OutOfMemory function h = inl refl
    typing-error (error.InvalidPlan k w) function h = absurd h
    typing-error (error.ComputeError k w) function h = absurd h
    typing-error (error.ShapeMismatch k) function h = absurd h
    typing-error (error.OutOfBounds k w) function h = absurd h

    pub node-error : (x : PolarsError) → IsCheckError F plan.root (record { 0 = n }) step' (entry_inputs e) (schemas_in known (entry_inputs e)) x → IsPlanError F plan x
    node-error x (inl h) = graph-error x (place-error F plan n e is x h)
    node-error x (inr (inl h)) = graph-error x (entry-error F plan n e is x h)
    node-error x (inr (inr h)) = typing-error x h.0 h.1

    pub node-steps : (more : ℕ) → more ≤ (steps + 1) + 2 * all_sizes (step_exprs step') → more ≤ first + 2 * 65536
    node-steps more few =
        let small = checking.small in
        let own : weight plan n ≡ suc (all_sizes (step_exprs step')) = ap (entry_weight plan) is in
        let rest = sum-drop (weight plan) order i n at in
        let limit = order-weighs plan order survey in
        omega arith

  pub checking-first : (known : Known) (steps : ℕ) → known ≡ replicate (length plan.nodes) None → Checking F plan order 0 known steps steps
  checking-first known steps empty = record { size = ap length empty ∙ length-replicate (length plan.nodes) None; done = λ m c. absurd (no-item m c); small = omega arith }

  -- all nodes are done
  module _ (known : Known) (first steps : ℕ) (checking : Checking F plan order (length order) known first steps) where
    all-done : (n : ℕ) → Reached plan n → IsDone F plan known n
    all-done n reached = checking.done n (subst (λ ns. Contains ns n) (sym (take-length order)) (survey.all n reached))

    pub checked-schemas : HaveSchemas F plan known
    checked-schemas n reached = (all-done n reached).schema

    pub checked-typed : HasSchemas F plan
    checked-typed n e reached is = (all-done n reached).gives e is

    pub checked-valid : IsValid F plan
    checked-valid n R refused =
        let found = there plan.nodes n ((survey.in_range n refused.reached).nodes n here) in
        let made' = plan_at-is plan.nodes plan.exprs (record { 0 = n }) found.0 (survey.complete n refused.reached) found.1 in
        let clean = subst (λ (t : PlanTree). IsClean F plan t) made' (all-done n refused.reached).clean in
        elim refused.because [
          | inl g ↦ clean.1 R g
          | inr t ↦ clean.2 R (subst (λ (t : PlanTree). TreeRefused F plan t R) made' t).2
        ]

    pub checked-steps : steps ≤ first + 2 * 65536
    checked-steps = let small = checking.small in let limit = order-weighs plan order survey in omega arith
