-- What the two orders and the limits say of the plan.
use Rattle.std.proofs.Common.{◌≡◌, ◌⊎◌, inl, inr, ℕ, ◌+◌, ◌<◌, ◌≤◌, List, length, refl, subst, arith}
use Rattle.std.specs.Prelude.{Contains}
use Rattle.ps_frame.specs.declared.refusal.PolarsError.{PolarsError}
use Rattle.ps_frame.specs.declared.refusal.PolarsError.TheVariants as error
use Rattle.ps_frame.specs.declared.refusal.Why.{Why}
use Rattle.ps_frame.specs.declared.refusal.Why.TheVariants as why
use Rattle.ps_frame.specs.Functions.{Functions}
use Rattle.ps_meaning.specs.Errors.{refusal_error}
use Rattle.ps_meaning.specs.StepRefusals.{invalid_plan}
use Rattle.ps_plan.specs.Refusals.{GraphRefused, IsMisshapen, IsPastLimits, IsRefused}
use Rattle.ps_plan.specs.Graph.{HasNoCircle, IsInRange, Reached, here, onward}
use Rattle.ps_meaning.specs.PlanTrees.{depth, occurrences}
use Rattle.ps_plan.specs.Plans.{Plan, tree_of}
use Rattle.valid_plans.specs.Surveys.{IsSurvey, IsWithinLimits}
use Rattle.ps_survey.specs.Flaws.{Flaw, IsFlaw, IsFlawOrMemory, flawed, memory, root_missing, input_missing, expr_missing, in_circle, expr_in_circle, too_deep, too_large}
use Rattle.ps_survey.specs.Orders.{IsExprOrder, IsNodeOrder}
use Rattle.ps_survey.proofs.NoCircles.{has-no-circle, is-in-range, is-plan, nodes-in}

pub is-memory : (plan : Plan) (e : PolarsError) → e ≡ error.OutOfMemory → IsFlawOrMemory plan e
is-memory plan e h = subst (λ x. IsFlawOrMemory plan x) (sym-of h) memory
  where
    sym-of : e ≡ error.OutOfMemory → error.OutOfMemory ≡ e
    sym-of h = cc

pub survey-of : (plan : Plan) (nodes exprs : List ℕ) → IsNodeOrder plan nodes → IsExprOrder plan nodes exprs
    → ((n : ℕ) → Contains nodes n → IsWithinLimits (depth (tree_of plan n)) (occurrences (tree_of plan n))) → IsSurvey plan nodes
survey-of plan nodes exprs ns es limits =
    record {
      all = λ n way. all n way;
      reached = ns.reached;
      once = ns.once;
      inputs_first = ns.first;
      complete = λ n way. is-plan plan nodes exprs ns es n (all n way);
      no_circle = λ n way. has-no-circle plan nodes exprs ns es n (all n way);
      in_range = λ n way. is-in-range plan nodes exprs ns es n (all n way);
      limits = λ n way. limits n (all n way);
    }
  where
    all : (n : ℕ) → Reached plan n → Contains nodes n
    all n way = nodes-in plan nodes exprs ns es plan.root.0 n ns.has_start way

-- a plan that was surveyed has no flaw
module _ (plan : Plan) (order : List ℕ) (s : IsSurvey plan order) where
  pub no-flaw : (n : ℕ) (w : Why) → Reached plan n → ¬ Flaw plan n w
  no-flaw n w way (root_missing e h) = let r = (s.in_range n way).nodes n here in omega (arith, h, r)
  no-flaw n w way (input_missing m c h) = let r = (s.in_range n way).nodes m (onward c here) in omega (arith, h, r)
  no-flaw n w way (expr_missing e names h) = let r = (s.in_range n way).exprs n e here names in omega (arith, h, r)
  no-flaw n w way (in_circle leads) = (s.no_circle n way).nodes n here leads
  no-flaw n w way (expr_in_circle e names leads) = (s.no_circle n way).exprs n e here names leads
  no-flaw n w way (too_deep clear h) = let l = (s.limits n way).0 in omega (arith, h, l)
  no-flaw n w way (too_large clear h) = let l = (s.limits n way).1 in omega (arith, h, l)

pub flaw-refused : (F : Functions) (plan : Plan) (n : ℕ) (w : Why) → Flaw plan n w → GraphRefused F plan n (invalid_plan w)
flaw-refused F plan n w (root_missing e h) = IsMisshapen.root_missing e h
flaw-refused F plan n w (input_missing m c h) = IsMisshapen.input_missing m c h
flaw-refused F plan n w (expr_missing e names h) = IsMisshapen.expr_missing e names h
flaw-refused F plan n w (in_circle leads) = IsMisshapen.in_circle leads
flaw-refused F plan n w (expr_in_circle e names leads) = IsMisshapen.expr_in_circle e names leads
flaw-refused F plan n w (too_deep clear h) = IsPastLimits.too_deep clear h
flaw-refused F plan n w (too_large clear h) = IsPastLimits.too_large clear h

pub is-refused : (F : Functions) (plan : Plan) (n : ℕ) (w : Why) → Reached plan n → Flaw plan n w → IsRefused F plan n (invalid_plan w)
is-refused F plan n w reached flaw = record { reached = reached; because = inl (flaw-refused F plan n w flaw) }

pub refused-or-memory : (plan : Plan) (e : PolarsError) → IsFlawOrMemory plan e → (e ≡ error.OutOfMemory) ⊎ ((n : ℕ) × (w : Why) × (e ≡ refusal_error n (invalid_plan w)) × ((F : Functions) → IsRefused F plan n (invalid_plan w)))
refused-or-memory plan e (flawed f) = inr (f.node, f.reason, f.is, λ F. is-refused F plan f.node f.reason f.reached f.flaw)
refused-or-memory plan e memory = inl refl
