-- A valid plan stays valid where entries are added to the arena of expressions.
use Rattle.std.proofs.Common.{◌≡◌, ℕ, ◌<◌, List, [], ◌∷◌, ◌++◌, length, slice_get, Option, Some, refl, sym, subst, ◌∙◌, ap, arith, inl, inr, length-append}
use Rattle.std.specs.Prelude.{Contains, IsSomeAnd, map}
use Rattle.pu_base.specs.declared.arena.Node.{Node}
use Rattle.ps_frame.specs.Functions.{Functions}
use Rattle.ps_frame.specs.Trees.{tree_at}
use Rattle.ps_frame.specs.declared.expr.AExpr.{AExpr}
use Rattle.ps_frame.specs.declared.expr.What.{What}
use Rattle.ps_frame.specs.declared.expr.What.TheVariants as what
use Rattle.ps_frame.specs.declared.refusal.Why.TheVariants as why
use Rattle.ps_plan.specs.Graph.{Leads, Names, Path, Reached, here, named_by, onward, operands, operands_at}
use Rattle.ps_meaning.specs.PlanTrees.{PlanTree, depth, occurrences}
use Rattle.ps_plan.specs.Plans.{Plan, tree_of}
use Rattle.ps_meaning.specs.StepRefusals.{HasBadKeys, HasNoKey, IsFileSink, IsSinkStep, IsValidated, NamesMissingFunction, NeedsInput, Refusal, column_not_found, duplicate, invalid_plan, no_key, schema_mismatch, unsupported}
use Rattle.ps_plan.specs.Refusals.{GraphRefused, HasUnsupported, IsClean, IsLeftOut, IsMisshapen, IsPastLimits, IsValid, StepIs, TreeRefused, expr_in_circle, expr_left_out, expr_missing, function_missing, in_circle, input_missing, no_input, node_left_out, root_missing, sink_below, too_deep, too_large, two_inputs}
use Rattle.ps_meaning.specs.Schemas.{output_schema, tree_schema}
use Rattle.ps_meaning.specs.Steps.{Step}
use Rattle.ps_plan.specs.Entries.{entry_inputs, entry_step}
use Rattle.ps_plan.specs.declared.ir.IR.{IR}
use Rattle.ps_plan.proofs.CleanPlans.{own-complete, reached-clean, reached-is}
use Rattle.ps_plan.proofs.Complete.{there}
use Rattle.ps_meaning.proofs.Containing.{contains-first, contains-later}
use Rattle.ps_plan.proofs.ReachedSteps.{path-then}
use Rattle.ps_plan.proofs.ValidPlans.{in-range, no-circle, path-join, reached-complete}
use Rattle.ps_walks.specs.Accepted.{schemas_at}
use Rattle.ps_walks.specs.Fit.{HasSchemas, plan_schemas}
use Rattle.valid_plans.proofs.Growing.{entry_step-kept, plan-kept, slice_get-left}
use Rattle.valid_plans.specs.Surveys.{IsSurvey, IsWithinLimits}
use Rattle.valid_plans.specs.Valid.{HaveSchemas, IsValidWith, ValidNodes, plan_with}

module _ (F : Functions) (v : ValidNodes) (exprs more : List AExpr) (valid : IsValid F (plan_with v exprs)) where
  abbrev old : Plan
  old = plan_with v exprs

  abbrev new : Plan
  new = plan_with v (exprs ++ more)

  pub tree-stays : (n : ℕ) → Reached old n → tree_of new n ≡ tree_of old n
  tree-stays n reached = plan-kept exprs more v.nodes (record { 0 = n }) (reached-complete F old valid n reached)

  -- ways through the arena lead nowhere new
  way-back : {a b : ℕ} → Path (operands_at new) a b → ((m : ℕ) → Path (operands_at old) a m → m < length exprs) → Path (operands_at old) a b
  way-back here range = here
  way-back {a} {b} (onward {b = c} k way) range =
      let k' : Contains (operands_at old a) c = subst (λ (o : Option AExpr). Contains (named_by operands o) c) (slice_get-left exprs more a (range a here)) k in onward k' (way-back way (λ m w. range m (onward k' w)))

  -- a reached node with its entry
  module _ (n : ℕ) (e : IR) (reached : Reached old n) (is : slice_get v.nodes n ≡ Some e) where
    step-stays : entry_step (tree_at (exprs ++ more)) e ≡ entry_step (tree_at exprs) e
    step-stays = entry_step-kept exprs more e (own-complete F old valid n e reached is)

    at-step : (P : Step → Type 0) → StepIs new n P → StepIs old n P
    at-step P h = subst (λ (o : Option IR). IsSomeAnd o (λ e. P (entry_step (tree_at exprs) e))) (sym is) (subst P step-stays (subst (λ (o : Option IR). IsSomeAnd o (λ e. P (entry_step (tree_at (exprs ++ more)) e))) is h))

    named-back : (x : ℕ) → Names new n x → Names old n x
    named-back x names =
        record { from = names.from; is_own = names.is_own; way = way-back names.way (λ m w. (in-range F old valid n reached).exprs n m here (record { from = names.from; is_own = names.is_own; way = w })) }

    within : (x : ℕ) → Names new n x → x < length exprs
    within x names = (in-range F old valid n reached).exprs n x here (named-back x names)

    leads-back : (x : ℕ) → Names new n x → Leads (operands_at new) x x → Leads (operands_at old) x x
    leads-back x names leads =
        let old-names = named-back x names in
        let first : Contains (operands_at old x) leads.first = subst (λ (o : Option AExpr). Contains (named_by operands o) leads.first) (slice_get-left exprs more x (within x names)) leads.is_next in
        let from-old : (m : ℕ) → Path (operands_at old) leads.first m → m < length exprs = λ m w. (in-range F old valid n reached).exprs n m here (record { from = old-names.from; is_own = old-names.is_own; way = path-join old-names.way (onward first w) }) in
        record { first = leads.first; is_next = first; way = way-back leads.way from-old }

    shape-back : IsMisshapen F new n → IsMisshapen F old n
    shape-back (root_missing same out) = root_missing same out
    shape-back (input_missing m c out) = input_missing m c out
    shape-back (expr_missing x names out) = absurd (let few = within x names in omega (arith, length-append exprs more))
    shape-back (function_missing h) = function_missing (at-step (NamesMissingFunction F.count) h)
    shape-back (in_circle leads) = in_circle leads
    shape-back (expr_in_circle x names leads) = expr_in_circle x (named-back x names) (leads-back x names leads)
    shape-back (sink_below other h) = sink_below other (at-step IsSinkStep h)
    shape-back (no_input needs none) = no_input (at-step NeedsInput needs) none

    limits-back : IsPastLimits new n → IsPastLimits old n
    limits-back (too_deep clear deep) = too_deep (no-circle F old valid n reached) (subst (λ t. 256 < depth t) (tree-stays n reached) deep)
    limits-back (too_large clear large) = too_large (no-circle F old valid n reached) (subst (λ t. 65536 < occurrences t) (tree-stays n reached) large)
    limits-back (two_inputs other id a b way one two ne) = two_inputs other id a b way one two ne

    unsupported-back : (w : What) → HasUnsupported new n w → HasUnsupported old n w
    unsupported-back what.Validation h = at-step IsValidated h
    unsupported-back what.RootNotSink h = (h.0, at-step (λ s. ¬ IsSinkStep s) h.1)
    unsupported-back what.FileSink h = at-step IsFileSink h
    unsupported-back _ h = absurd h

    left-out-back : (w : What) → IsLeftOut new n w → IsLeftOut old n w
    left-out-back w (node_left_out h) = node_left_out h
    left-out-back w (expr_left_out x names h) = expr_left_out x (named-back x names) (sym (slice_get-left exprs more x (within x names)) ∙ h)

    graph-back : (R : Refusal) → GraphRefused F new n R → GraphRefused F old n R
    graph-back (invalid_plan why.Shape) h = shape-back h
    graph-back (invalid_plan why.Keys) h = at-step HasBadKeys h
    graph-back (invalid_plan why.Limits) h = limits-back h
    graph-back no_key h = at-step HasNoKey h
    graph-back (unsupported w) (inl h) = inl (unsupported-back w h)
    graph-back (unsupported w) (inr h) = inr (left-out-back w h)
    graph-back (column_not_found name) h = absurd h
    graph-back (duplicate name) h = absurd h
    graph-back schema_mismatch h = absurd h

    -- a rule on names or kinds holds at a clean node
    rules-hold : (R : Refusal) → TreeRefused F new (tree_of new n) R → ⊥
    rules-hold R h =
        let made = reached-is F old valid n e reached is in
        let clean = subst (λ (t : PlanTree). IsClean F old t) made (reached-clean F old valid n reached) in
        clean.2 R (subst (λ (t : PlanTree). TreeRefused F new t R) (tree-stays n reached ∙ made) h).2

  pub stays-valid : IsValid F new
  stays-valid n R refused =
      let reached : Reached old n = refused.reached in
      let x = there v.nodes n ((in-range F old valid n reached).nodes n here) in
      elim refused.because [ inl g ↦ valid n R (record { reached = reached; because = inl (graph-back n x.0 reached x.1 R g) }) | inr t ↦ rules-hold n x.0 reached x.1 R t ]

  inputs-stay : (ns : List Node) → ((m : ℕ) → Contains (map (λ (n : Node). n.0) ns) m → Reached old m) → schemas_at (plan_schemas F new) ns ≡ schemas_at (plan_schemas F old) ns
  inputs-stay [] all = refl
  inputs-stay (n ∷ ns) all =
      ap (λ t. tree_schema F t ∷ schemas_at (plan_schemas F new) ns) (tree-stays n.0 (all n.0 (contains-first n.0 _))) ∙ ap (λ ss. tree_schema F (tree_of old n.0) ∷ ss) (inputs-stay ns (λ m c. all m (contains-later n.0 m _ c)))

  pub stays-known : HaveSchemas F old v.schemas → HaveSchemas F new v.schemas
  stays-known known n reached = known n reached ∙ ap (λ t. Some (Some (tree_schema F t))) (sym (tree-stays n reached))

  pub stays-typed : HasSchemas F old → HasSchemas F new
  stays-typed typed n e reached is =
      let inputs : schemas_at (plan_schemas F new) (entry_inputs e) ≡ schemas_at (plan_schemas F old) (entry_inputs e) = inputs-stay (entry_inputs e) (λ m c. path-then reached (subst (λ (o : Option IR). Contains (named_by entry_inputs o) m) (sym is) c)) in
      ap (λ s. output_schema F s (schemas_at (plan_schemas F new) (entry_inputs e))) (step-stays n e reached is) ∙ ap (output_schema F (entry_step (tree_at exprs) e)) inputs ∙ typed n e reached is ∙ ap (λ t. Some (tree_schema F t)) (sym (tree-stays n reached))

  pub stays-surveyed : IsSurvey old v.order → IsSurvey new v.order
  stays-surveyed survey = record {
    all = survey.all;
    reached = survey.reached;
    once = survey.once;
    inputs_first = survey.inputs_first;
    complete = λ n reached. reached-complete F new stays-valid n reached;
    no_circle = λ n reached. no-circle F new stays-valid n reached;
    in_range = λ n reached. in-range F new stays-valid n reached;
    limits = λ n reached. subst (λ t. IsWithinLimits (depth t) (occurrences t)) (sym (tree-stays n reached)) (survey.limits n reached);
  }

pub stays-with : (F : Functions) (v : ValidNodes) (exprs more : List AExpr) → IsValidWith F v exprs → IsValidWith F v (exprs ++ more)
stays-with F v exprs more h = record {
  valid = stays-valid F v exprs more h.valid;
  schemas = stays-known F v exprs more h.valid h.schemas;
  typed = stays-typed F v exprs more h.valid h.typed;
  survey = stays-surveyed F v exprs more h.valid h.survey;
}
