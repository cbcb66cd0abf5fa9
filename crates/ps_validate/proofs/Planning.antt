-- What a survey and the caches of a plan tell of it.
use Rattle.std.proofs.Common.{◌≡◌, ℕ, ◌≤◌, List, refl, sym, subst, inl, inr}
use Rattle.std.specs.Prelude.{Contains, ◌⊎◌, ◌↔◌}
use Rattle.pu_base.specs.declared.arena.Node.{Node}
use Rattle.ps_frame.specs.Functions.{Functions}
use Rattle.ps_frame.specs.declared.expr.AExpr.{AExpr}
use Rattle.ps_frame.specs.declared.refusal.PolarsError.{PolarsError}
use Rattle.ps_frame.specs.declared.refusal.PolarsError.TheVariants as error
use Rattle.ps_frame.specs.declared.refusal.Why.{Why}
use Rattle.ps_frame.specs.declared.refusal.Why.TheVariants as why
use Rattle.ps_meaning.specs.Errors.{refusal_error}
use Rattle.ps_plan.specs.Graph.{HasNoCircle, IsInRange, Reached, inputs_at}
use Rattle.ps_meaning.specs.PlanTrees.{depth, occurrences}
use Rattle.ps_plan.specs.Plans.{IsPlan, Plan, tree_of}
use Rattle.ps_meaning.specs.StepRefusals.{invalid_plan}
use Rattle.ps_plan.specs.Refusals.{IsRefused, IsValid, two_inputs}
use Rattle.ps_plan.specs.declared.ir.IR.{IR}
use Rattle.ps_survey.specs.Flaws.{plan_of}
use Rattle.ps_walks.specs.Fit.{HasSchemas}
use Rattle.valid_plans.specs.Known.{Known}
use Rattle.valid_plans.specs.Valid.{HaveSchemas, IsValidWith, ValidNodes}
use Rattle.valid_plans.specs.Surveys.{IsSurvey, NamedFirst, Once}
use Rattle.ps_validate.specs.Fit.{IsCacheError}
use Rattle.ps_validate.specs.Errors.{IsPlanError}

-- what a survey answers, as one fact
pub survey-of : (plan : Plan) (order : List ℕ) → ((n : ℕ) → Contains order n ↔ Reached plan n) → Once order → NamedFirst (inputs_at plan) order → ((n : ℕ) → Reached plan n → IsPlan plan.nodes plan.exprs (record { 0 = n })) → ((n : ℕ) → Reached plan n → IsInRange plan n) → ((n : ℕ) → Reached plan n → HasNoCircle plan n) → ((n : ℕ) → Reached plan n → depth (tree_of plan n) ≤ 256) → ((n : ℕ) → Reached plan n → occurrences (tree_of plan n) ≤ 65536)
    → IsSurvey plan order
survey-of plan order reached once first complete in_range no_circle deep large = record {
  all = λ n r. (reached n).1 r;
  reached = λ n c. (reached n).0 c;
  once = once;
  inputs_first = first;
  complete = complete;
  no_circle = no_circle;
  in_range = in_range;
  limits = λ n r. (deep n r, large n r);
}

-- what a check and a survey showed is what a valid plan of them holds
pub holds-valid : (F : Functions) (root : Node) (nodes : List IR) (exprs : List AExpr) (known : Known) (order : List ℕ) (v : ValidNodes) → v ≡ record { root = root; nodes = nodes; schemas = known; order = order } → IsValid F (plan_of root nodes exprs) → HaveSchemas F (plan_of root nodes exprs) known → HasSchemas F (plan_of root nodes exprs) → IsSurvey (plan_of root nodes exprs) order
    → IsValidWith F v exprs
holds-valid F root nodes exprs known order v is valid schemas typed survey = subst (λ (w : ValidNodes). IsValidWith F w exprs) (sym is) (record { valid = valid; schemas = schemas; typed = typed; survey = survey })

-- a flaw is a refusal of the plan
pub flaw-error : (F : Functions) (plan : Plan) (e : PolarsError) → (e ≡ error.OutOfMemory) ⊎ ((n : ℕ) × (w : Why) × (e ≡ refusal_error n (invalid_plan w)) × ((F : Functions) → IsRefused F plan n (invalid_plan w))) → IsPlanError F plan e
flaw-error F plan e (inl h) = inl h
flaw-error F plan e (inr (n, w, is, h)) = inr (n, invalid_plan w, is, h F)

-- so is a cache id over two inputs
pub cache-error : (F : Functions) (plan : Plan) (order : List ℕ) (survey : IsSurvey plan order) (e : PolarsError) → IsCacheError plan.nodes order e → IsPlanError F plan e
cache-error F plan order survey (error.InvalidPlan node w) h = by w h
  where
    by : (w : Why) → IsCacheError plan.nodes order (error.InvalidPlan node w) → IsPlanError F plan (error.InvalidPlan node w)
    by why.Limits h =
        inr (node.0, invalid_plan why.Limits, refl, record { reached = survey.reached node.0 h.stands; because = inl (two_inputs h.other h.id h.input h.other_input (survey.reached h.other h.other_stands) h.here h.there h.apart) })
    by _ h = absurd h
cache-error F plan order survey error.OutOfMemory h = inl refl
cache-error F plan order survey (error.ColumnNotFound node name) h = absurd h
cache-error F plan order survey (error.Duplicate node name) h = absurd h
cache-error F plan order survey (error.SchemaMismatch node) h = absurd h
cache-error F plan order survey (error.Unsupported node w) h = absurd h
cache-error F plan order survey (error.ComputeError node w) h = absurd h
cache-error F plan order survey (error.ShapeMismatch node) h = absurd h
cache-error F plan order survey (error.OutOfBounds node w) h = absurd h
