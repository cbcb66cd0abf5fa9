-- What no refusal at a reached node tells of its step.
use Rattle.std.proofs.Common.{◌≡◌, ◌≢◌, ℕ, List, [], ◌∷◌, slice_get, inl, inr, refl, sym, subst, ◌∙◌, ap}
use Rattle.std.specs.Prelude.{Option, Some, None, map, Contains, IsSomeAnd}
use Rattle.std.specs.List.{AllByRecursion}
use Rattle.pu_base.specs.declared.arena.Node.{Node}
use Rattle.ps_frame.specs.Functions.{Functions}
use Rattle.ps_frame.specs.Trees.{tree_at}
use Rattle.ps_frame.specs.declared.expr.What.TheVariants as what
use Rattle.ps_frame.specs.declared.refusal.Why.TheVariants as why
use Rattle.ps_plan.specs.Graph.{Reached, inputs_at, named_by}
use Rattle.ps_meaning.specs.Laws.{IsBuilt}
use Rattle.ps_plan.specs.Plans.{Plan, plan_at, plan_trees_of}
use Rattle.ps_meaning.specs.StepRefusals.{HasBadKeys, HasNoKey, IsFileSink, IsValidated, NamesMissingFunction, NeedsInput, Refusal, invalid_plan, no_key, unsupported}
use Rattle.ps_plan.specs.Refusals.{GraphRefused, IsClean, IsValid, StepIs, function_missing, no_input, node_left_out}
use Rattle.ps_meaning.specs.Schemas.{output_schema, tree_schema, tree_schemas}
use Rattle.ps_meaning.specs.Steps.{Step, function_step}
use Rattle.ps_plan.specs.Entries.{entry_inputs, entry_step}
use Rattle.ps_meaning.specs.declared.options.FunctionIR.{FunctionIR}
use Rattle.ps_meaning.specs.declared.options.FunctionIR.TheVariants as call
use Rattle.ps_plan.specs.declared.ir.IR.{IR}
use Rattle.ps_plan.specs.declared.ir.IR.TheVariants as entry
use Rattle.ps_plan.proofs.CleanPlans.{own-complete, reached-clean, reached-is}
use Rattle.ps_plan.proofs.Complete.{there}
use Rattle.ps_meaning.proofs.Containing.{contains-first, contains-later}
use Rattle.ps_plan.proofs.ReachedSteps.{path-then}
use Rattle.ps_plan.proofs.ValidPlans.{reached-below}
use Rattle.ps_plan.proofs.ValidTyped.{typed-step}
use Rattle.ps_walks.specs.Accepted.{schemas_at}
use Rattle.ps_walks.specs.Fit.{HasSchemas, IsFit, plan_schemas}

function-built : (g : FunctionIR) → IsBuilt (function_step g)
function-built (call.RowIndex name offset) = tt
function-built (call.User n) = tt

module _ (F : Functions) (plan : Plan) (valid : IsValid F plan) (given : HasSchemas F plan) where
  input-schemas : (ns : List Node) → tree_schemas F (plan_trees_of (plan_at plan.nodes plan.exprs) ns) ≡ schemas_at (plan_schemas F plan) ns
  input-schemas [] = refl
  input-schemas (n ∷ ns) = ap (λ ss. tree_schema F (plan_at plan.nodes plan.exprs n) ∷ ss) (input-schemas ns)

  module _ (n : ℕ) (reached : Reached plan n) where
    not-refused : (R : Refusal) → ¬ GraphRefused F plan n R
    not-refused R g = valid n R (record { reached = reached; because = inl g })

    module _ (e : IR) (is : slice_get plan.nodes n ≡ Some e) where
      abbrev step : Step
      step = entry_step (tree_at plan.exprs) e

      step-is : (P : Step → Type 0) → P step → StepIs plan n P
      step-is P h = subst (λ (o : Option IR). IsSomeAnd o (λ x. P (entry_step (tree_at plan.exprs) x))) (sym is) h

      entry-built : (x : IR) → e ≡ x → IsBuilt (entry_step (tree_at plan.exprs) x)
      entry-built (entry.LeftOut w) q = not-refused (unsupported w) (inr (node_left_out (is ∙ ap (λ y. Some y) q)))
      entry-built (entry.MapFunction input g) q = function-built g
      entry-built (entry.Cache input id hits) q = tt
      entry-built (entry.DataFrameScan df columns) q = tt
      entry-built (entry.SimpleProjection input columns) q = tt
      entry-built (entry.Select input es) q = tt
      entry-built (entry.HStack input es) q = tt
      entry-built (entry.Filter input predicate) q = tt
      entry-built (entry.Slice input offset len) q = tt
      entry-built (entry.Sink input payload) q = tt
      entry-built (entry.Sort input by cut options) q = tt
      entry-built (entry.Union inputs options) q = tt
      entry-built (entry.HConcat inputs) q = tt
      entry-built (entry.GroupBy input keys aggs maintain options) q = tt
      entry-built (entry.Join left right left_on right_on args) q = tt
      entry-built (entry.Distinct input o) q = tt

      no-inputs : (ns : List Node) → schemas_at (plan_schemas F plan) ns ≡ [] → map (λ (m : Node). m.0) ns ≡ []
      no-inputs [] q = refl
      no-inputs (m ∷ ns) q = absurd cc

      inputs-are : inputs_at plan n ≡ map (λ (m : Node). m.0) (entry_inputs e)
      inputs-are = ap (λ o. named_by entry_inputs o) is

      -- an input has a column: a node without one is refused
      has-columns : (m : ℕ) → Reached plan m → plan_schemas F plan m ≢ []
      has-columns m way q = by (slice_get plan.nodes m) refl
        where
          by : (o : Option IR) → slice_get plan.nodes m ≡ o → ⊥
          by None at = let h = reached-below F plan valid m way in let x = there plan.nodes m h in let f : Option.None ≡ Some x.0 = sym at ∙ x.1 in absurd (let g : Option.None ≡ Some x.0 = f in cc)
          by (Some x) at =
              let clean = subst (IsClean F plan) (reached-is F plan valid m x way at) (reached-clean F plan valid m way) in
              clean.2 (unsupported what.NoColumns) (ap (λ ss. output_schema F (entry_step (tree_at plan.exprs) x) ss) (input-schemas (entry_inputs x)) ∙ given m x way at ∙ ap (λ s. Some s) q)

      all-columns : (ns : List Node) → ((m : Node) → Contains (map (λ (k : Node). k.0) ns) m.0 → Reached plan m.0) → AllByRecursion (λ s. s ≢ []) (schemas_at (plan_schemas F plan) ns)
      all-columns [] all = tt
      all-columns (m ∷ ns) all = (has-columns m.0 (all m (contains-first m.0 _)), all-columns ns (λ k c. all k (contains-later m.0 k.0 _ c)))

      inputs-columns : AllByRecursion (λ s. s ≢ []) (schemas_at (plan_schemas F plan) (entry_inputs e))
      inputs-columns = all-columns (entry_inputs e) (λ m c. path-then reached (subst (λ ns. Contains ns m.0) (sym inputs-are) c))

      pub step-fits : IsFit F step (schemas_at (plan_schemas F plan) (entry_inputs e))
      step-fits =
          record {
            complete = own-complete F plan valid n e reached is;
            typed = rw (← input-schemas (entry_inputs e)) (typed-step F plan valid n e reached is (subst (IsClean F plan) (reached-is F plan valid n e reached is) (reached-clean F plan valid n reached)));
            keys = λ h. not-refused (invalid_plan why.Keys) (step-is HasBadKeys h);
            key = λ h. not-refused no_key (step-is HasNoKey h);
            unvalidated = λ h. not-refused (unsupported what.Validation) (inl (step-is IsValidated h));
            in_memory = λ h. not-refused (unsupported what.FileSink) (inl (step-is IsFileSink h));
            known = λ h. not-refused (invalid_plan why.Shape) (function_missing (step-is (NamesMissingFunction F.count) h));
            built = entry-built e refl;
            columns = inputs-columns;
            input = λ h q. not-refused (invalid_plan why.Shape) (no_input (step-is NeedsInput h) (inputs-are ∙ no-inputs (entry_inputs e) q));
          }
