-- When no refusal that the arenas decide holds at a reached node, and which errors stand for one.
use Rattle.std.proofs.Common.{◌≡◌, ℕ, List, [], ◌∷◌, refl, sym, subst, ◌∙◌, ap, inl, inr}
use Rattle.std.specs.Prelude.{Contains, ◌⊎◌, IsSomeAnd, Option, Some, map, slice_get}
use Rattle.std.specs.List.{AllByRecursion}
use Rattle.pu_base.specs.declared.arena.Node.{Node}
use Rattle.ps_frame.specs.Functions.{Functions}
use Rattle.ps_frame.specs.Trees.{IsComplete, Tree, tree_at}
use Rattle.ps_frame.specs.declared.expr.What.{What}
use Rattle.ps_frame.specs.declared.expr.What.TheVariants as what
use Rattle.ps_frame.specs.declared.refusal.Compute.{Compute}
use Rattle.ps_frame.specs.declared.refusal.Compute.TheVariants as compute
use Rattle.ps_frame.specs.declared.refusal.PolarsError.{PolarsError}
use Rattle.ps_frame.specs.declared.refusal.PolarsError.TheVariants as error
use Rattle.ps_frame.specs.declared.refusal.Why.{Why}
use Rattle.ps_frame.specs.declared.refusal.Why.TheVariants as why
use Rattle.ps_meaning.specs.Errors.{refusal_error}
use Rattle.ps_plan.specs.Graph.{Reached, inputs_at, named_by}
use Rattle.ps_meaning.specs.Laws.{IsBuilt}
use Rattle.ps_plan.specs.Plans.{Plan}
use Rattle.ps_meaning.specs.StepRefusals.{HasBadKeys, HasNoKey, IsFileSink, IsSinkStep, IsValidated, NamesMissingFunction, NeedsInput, Refusal, column_not_found, duplicate, invalid_plan, no_key, schema_mismatch, unsupported}
use Rattle.ps_plan.specs.Refusals.{EntryIs, GraphRefused, HasUnsupported, IsLeftOut, IsMisshapen, IsPastLimits, StepIs, expr_in_circle, expr_left_out, expr_missing, function_missing, in_circle, input_missing, no_input, node_left_out, root_missing, sink_below, too_deep, too_large, two_inputs}
use Rattle.ps_meaning.specs.Steps.{Step, left_out, step_exprs}
use Rattle.ps_plan.specs.Entries.{entry_exprs, entry_inputs, entry_step}
use Rattle.ps_plan.specs.declared.ir.IR.{IR}
use Rattle.ps_plan.specs.declared.ir.IR.TheVariants as entry
use Rattle.ps_survey.specs.Flaws.{Flaw, root_missing as root_flaw, input_missing as input_flaw, expr_missing as expr_flaw, in_circle as circle_flaw, expr_in_circle as expr_circle_flaw, too_deep as depth_flaw, too_large as size_flaw}
use Rattle.ps_validate.proofs.LeftOuts.{held-above, tree-holds}
use Rattle.ps_validate.proofs.StepParts.{only-left_out, own-part, part-owner}
use Rattle.ps_validate.specs.Entries.{IsUnsupportedStep}
use Rattle.ps_validate.specs.Fit.{HaveOneInput, IsEntryError, IsWellFormed, IsPlaceError, IsPlaced}
use Rattle.ps_validate.specs.Nodes.{HoldsLeftOut}

-- a node of a plan, with its entry
module _ (F : Functions) (plan : Plan) (n : ℕ) (e : IR) (is : slice_get plan.nodes n ≡ Some e) where
  abbrev pub step : Step
  step = entry_step (tree_at plan.exprs) e

  at-entry : (P : IR → Type 0) → EntryIs plan n P → P e
  at-entry P h = subst (λ (o : Option IR). IsSomeAnd o P) is h

  as-entry : (P : IR → Type 0) → P e → EntryIs plan n P
  as-entry P h = subst (λ (o : Option IR). IsSomeAnd o P) (sym is) h

  as-step : (P : Step → Type 0) → P step → StepIs plan n P
  as-step P h = as-entry (λ e. P (entry_step (tree_at plan.exprs) e)) h

  at-step : (P : Step → Type 0) → StepIs plan n P → P step
  at-step P h = at-entry (λ e. P (entry_step (tree_at plan.exprs) e)) h

  no-inputs : inputs_at plan n ≡ [] → entry_inputs e ≡ []
  no-inputs h = none (entry_inputs e) (sym (ap (named_by entry_inputs) is) ∙ h)
    where
      none : (ns : List Node) → map (λ (n : Node). n.0) ns ≡ [] → ns ≡ []
      none [] q = refl
      none (m ∷ ns) q = cc

  inputs-none : entry_inputs e ≡ [] → inputs_at plan n ≡ []
  inputs-none h = ap (named_by entry_inputs) is ∙ ap (λ ns. map (λ (n : Node). n.0) ns) h

  -- nothing of the arenas is refused at the node
  module _ (reached : Reached plan n) (flaws : (w : Why) → Flaw plan n w → ⊥) (order : List ℕ) (stands : (m : ℕ) → Reached plan m → Contains order m) (caches : HaveOneInput plan.nodes order) (fit : IsWellFormed F.count step (entry_inputs e)) (placed : IsPlaced plan.root (record { 0 = n }) step) (complete : AllByRecursion IsComplete (step_exprs step)) (supported : (w : What) → HoldsLeftOut step w → ⊥) where
    in-shape : IsMisshapen F plan n → ⊥
    in-shape (root_missing same out) = flaws why.Shape (root_flaw same out)
    in-shape (input_missing m c out) = flaws why.Shape (input_flaw m c out)
    in-shape (expr_missing x names out) = flaws why.Shape (expr_flaw x names out)
    in-shape (function_missing h) = fit.function (at-step (NamesMissingFunction F.count) h)
    in-shape (in_circle leads) = flaws why.Shape (circle_flaw leads)
    in-shape (expr_in_circle x names leads) = flaws why.Shape (expr_circle_flaw x names leads)
    in-shape (sink_below other h) = placed.others_dont other (at-step IsSinkStep h)
    in-shape (no_input needs none) = fit.input (at-step NeedsInput needs) (no-inputs none)

    in-limits : IsPastLimits plan n → ⊥
    in-limits (too_deep clear deep) = flaws why.Limits (depth_flaw clear deep)
    in-limits (too_large clear large) = flaws why.Limits (size_flaw clear large)
    in-limits (two_inputs other id a b way here there ne) = ne (caches n other id a b (stands n reached) (stands other way) here there)

    is-supported : (w : What) → HasUnsupported plan n w → ⊥
    is-supported what.Validation h = fit.validation (at-step IsValidated h)
    is-supported what.RootNotSink h = at-step (λ s. ¬ IsSinkStep s) h.1 (placed.root_sinks h.0)
    is-supported what.FileSink h = fit.file (at-step IsFileSink h)
    is-supported _ h = h

    is-built : (w : What) → slice_get plan.nodes n ≡ Some (entry.LeftOut w) → ⊥
    is-built w h = let same : e ≡ entry.LeftOut w = (let q : Some e ≡ Some (entry.LeftOut w) = sym is ∙ h in cc) in subst (λ e. IsBuilt (entry_step (tree_at plan.exprs) e)) same fit.built

    none-left-out : (w : What) → IsLeftOut plan n w → ⊥
    none-left-out w (node_left_out h) = is-built w h
    none-left-out w (expr_left_out x names h) =
        let own : Contains (map (λ (m : Node). m.0) (entry_exprs e)) names.from = subst (λ (o : Option IR). Contains (named_by entry_exprs o) names.from) is names.is_own in
        let part = own-part (tree_at plan.exprs) e names.from own in
        supported w (part.1 (Tree.left_out w) (held-above plan w names.way (part.0 complete) h))

    pub unrefused : (R : Refusal) → GraphRefused F plan n R → ⊥
    unrefused (invalid_plan why.Shape) h = in-shape h
    unrefused (invalid_plan why.Keys) h = fit.keys (at-step HasBadKeys h)
    unrefused (invalid_plan why.Limits) h = in-limits h
    unrefused no_key h = fit.key (at-step HasNoKey h)
    unrefused (unsupported w) (inl h) = is-supported w h
    unrefused (unsupported w) (inr h) = none-left-out w h
    unrefused (column_not_found name) h = h
    unrefused (duplicate name) h = h
    unrefused schema_mismatch h = h

  -- an error stands for a refusal here
  abbrev pub StandsFor : PolarsError → Type 0
  StandsFor x = (R : Refusal) × (x ≡ refusal_error n R) × GraphRefused F plan n R

  abbrev pub here : Node
  here = record { 0 = n }

  shape-error : (node : Node) → node ≡ here → IsMisshapen F plan n → StandsFor (error.InvalidPlan node why.Shape)
  shape-error node same h = (invalid_plan why.Shape, ap (λ k. error.InvalidPlan k why.Shape) same, h)

  unsupported-error : (node : Node) (w : What) → node ≡ here → HasUnsupported plan n w ⊎ IsLeftOut plan n w → StandsFor (error.Unsupported node w)
  unsupported-error node w same h = (unsupported w, ap (λ k. error.Unsupported k w) same, h)

  pub place-error : (x : PolarsError) → IsPlaceError plan.root here step x → StandsFor x
  place-error (error.InvalidPlan node w) h = by w h
    where
      by : (w : Why) → IsPlaceError plan.root here step (error.InvalidPlan node w) → StandsFor (error.InvalidPlan node w)
      by why.Shape h = shape-error node h.0 (sink_below h.1 (as-step IsSinkStep h.2))
      by _ h = absurd h
  place-error (error.Unsupported node w) h = by w h
    where
      by : (w : What) → IsPlaceError plan.root here step (error.Unsupported node w) → StandsFor (error.Unsupported node w)
      by what.RootNotSink h = unsupported-error node what.RootNotSink h.0 (inl (h.1, as-step (λ s. ¬ IsSinkStep s) h.2))
      by _ h = absurd h
  place-error (error.ColumnNotFound node name) h = absurd h
  place-error (error.Duplicate node name) h = absurd h
  place-error (error.SchemaMismatch node) h = absurd h
  place-error (error.ComputeError node w) h = absurd h
  place-error (error.ShapeMismatch node) h = absurd h
  place-error (error.OutOfBounds node w) h = absurd h
  place-error error.OutOfMemory h = absurd h

  unsupported-step : (w : What) → IsUnsupportedStep step w → HasUnsupported plan n w
  unsupported-step what.Validation h = as-step IsValidated h
  unsupported-step what.FileSink h = as-step IsFileSink h
  unsupported-step _ h = absurd h

  is-left-out : (w : What) → step ≡ left_out w → slice_get plan.nodes n ≡ Some (entry.LeftOut w)
  is-left-out w h = is ∙ ap Some (only-left_out (tree_at plan.exprs) e w h)

  pub entry-error : (x : PolarsError) → IsEntryError F.count here step (entry_inputs e) x → StandsFor x
  entry-error (error.InvalidPlan node w) h = by w h
    where
      by : (w : Why) → IsEntryError F.count here step (entry_inputs e) (error.InvalidPlan node w) → StandsFor (error.InvalidPlan node w)
      by why.Shape h = elim h.1 [ inl g ↦ shape-error node h.0 (function_missing (as-step (NamesMissingFunction F.count) g)) | inr g ↦ shape-error node h.0 (no_input (as-step NeedsInput g.0) (inputs-none g.1)) ]
      by why.Keys h = (invalid_plan why.Keys, ap (λ k. error.InvalidPlan k why.Keys) h.0, as-step HasBadKeys h.1)
      by why.Limits h = absurd h
  entry-error (error.Unsupported node w) h = elim h.1 [ inl g ↦ unsupported-error node w h.0 (inl (unsupported-step w g)) | inr g ↦ unsupported-error node w h.0 (inr (node_left_out (is-left-out w g))) ]
  entry-error (error.ComputeError node w) h = by w h
    where
      by : (w : Compute) → IsEntryError F.count here step (entry_inputs e) (error.ComputeError node w) → StandsFor (error.ComputeError node w)
      by compute.NoKey h = (no_key, ap (λ k. error.ComputeError k compute.NoKey) h.0, as-step HasNoKey h.1)
      by _ h = absurd h
  entry-error (error.ColumnNotFound node name) h = absurd h
  entry-error (error.Duplicate node name) h = absurd h
  entry-error (error.SchemaMismatch node) h = absurd h
  entry-error (error.ShapeMismatch node) h = absurd h
  entry-error (error.OutOfBounds node w) h = absurd h
  entry-error error.OutOfMemory h = absurd h

  -- a part of an expression that is left out
  pub part-error : (node : Node) (w : What) → node ≡ here → HoldsLeftOut step w → StandsFor (error.Unsupported node w)
  part-error node w same h =
      let owner = part-owner (tree_at plan.exprs) e (Tree.left_out w) h in
      let found = tree-holds plan w owner.0 owner.2 in
      unsupported-error node w same (inr (expr_left_out found.0 (record { from = owner.0.0; is_own = subst (λ (o : Option IR). Contains (named_by entry_exprs o) owner.0.0) (sym is) owner.1; way = found.1 }) found.2))
