-- What a survey of a valid plan gives the walk, and what the walk's answers mean.
use Rattle.std.proofs.Common.{◌≡◌, ◌⊎◌, inl, inr, ℕ, ◌<◌, List, [], length, get_or, refl, sym}
use Rattle.std.specs.Prelude.{Contains, Err, IfErr, IfOk, Ok, Result}
use Rattle.std.specs.List.{All}
use Rattle.std.proofs.lemmas.List.{append-nil}
use Rattle.std.proofs.lemmas.Option.{slice_get-get_or}
use Rattle.pu_base.specs.declared.arena.Node.{Node}
use Rattle.ps_frame.specs.Functions.{Functions}
use Rattle.ps_frame.specs.Tables.{Frame, whole}
use Rattle.ps_frame.specs.declared.expr.AExpr.{AExpr}
use Rattle.ps_frame.specs.declared.refusal.PolarsError.{PolarsError}
use Rattle.ps_frame.specs.declared.refusal.PolarsError.TheVariants as error
use Rattle.ps_frame.specs.declared.value.DataFault.{DataFault}
use Rattle.ps_meaning.specs.Errors.{fault_error, refusal_error}
use Rattle.ps_plan.specs.Graph.{here, inputs_at, onward}
use Rattle.ps_meaning.specs.Meaning.{IsMeaning}
use Rattle.ps_plan.specs.PlanMeanings.{NodeMayFault}
use Rattle.ps_plan.specs.Plans.{Plan, tree_of}
use Rattle.ps_meaning.specs.StepRefusals.{Refusal}
use Rattle.ps_plan.specs.Refusals.{IsRefused, IsValid}
use Rattle.ps_plan.specs.declared.ir.IR.{IR}
use Rattle.ps_survey.proofs.Lists.{from-at}
use Rattle.ps_survey.specs.Flaws.{plan_of}
use Rattle.valid_plans.specs.Surveys.{IsSurvey}
use Rattle.valid_plans.specs.Valid.{ValidNodes, plan_with}
use Rattle.plain_queries.specs.Queries.{BeginsWith, IsQueryAnswer, IsQueryError, IsRunError}

stands-at : (xs : List ℕ) (k d : ℕ) → k < length xs → Contains xs (get_or xs k d)
stands-at xs k d h = from-at xs k (get_or xs k d) (slice_get-get_or xs k d h)

module _ (plan : Plan) (order : List ℕ) (survey : IsSurvey plan order) where
  pub nodes-within : All (λ n. n < length plan.nodes) order
  nodes-within k d h = let n = get_or order k d in (survey.in_range n (survey.reached n (stands-at order k d h))).nodes n here

  pub inputs-within : All (λ n. All (λ m. m < length plan.nodes) (inputs_at plan n)) order
  inputs-within k d h j e g =
      let n = get_or order k d in
      let m = get_or (inputs_at plan n) j e in
      (survey.in_range n (survey.reached n (stands-at order k d h))).nodes m (onward (stands-at (inputs_at plan n) j e g) here)

  pub root-within : plan.root.0 < length plan.nodes
  root-within = (survey.in_range plan.root.0 here).nodes plan.root.0 here

module _ (F : Functions) (plan : Plan) where
  pub run-error : (n : ℕ) (x : PolarsError) → (x ≡ error.OutOfMemory) ⊎ ((f : DataFault) × (x ≡ fault_error n f) × NodeMayFault F plan n f) → IsRunError F plan x
  run-error n x (inl m) = inl m
  run-error n x (inr (f, is, may)) = inr (record { node = n; fault = f; is = is; may = may })

  pub run-query-error : (x : PolarsError) → IsValid F plan → IsRunError F plan x → IsQueryError F plan x
  run-query-error x valid (inl m) = inl m
  run-query-error x valid (inr f) = inr (inr (valid, f))

  pub refusal-query-error : (x : PolarsError) → (x ≡ error.OutOfMemory) ⊎ ((n : ℕ) × (R : Refusal) × (x ≡ refusal_error n R) × IsRefused F plan n R) → IsQueryError F plan x
  refusal-query-error x (inl m) = inl m
  refusal-query-error x (inr (n, R, is, refused)) = inr (inl (record { node = n; refusal = R; is = is; refused = refused }))

-- the plan of a root, an arena of nodes and one of expressions, once the nodes are those of a valid plan
pub same-plan : (v : ValidNodes) (root : Node) (nodes : List IR) (exprs : List AExpr) → v.root ≡ root → v.nodes ≡ nodes → plan_with v exprs ≡ plan_of root nodes exprs
same-plan v root nodes exprs r n = λ i. record { nodes = n i; exprs = exprs; root = r i }

pub begins-with-itself : (xs : List AExpr) → BeginsWith xs xs
begins-with-itself xs = ([], sym (append-nil xs))

module _ (F : Functions) (plan : Plan) where
  pub run-answer : (r : Result Frame PolarsError) → IsValid F plan → IfOk r (λ f. IsMeaning F (tree_of plan plan.root.0) (whole f)) → IfOk r (IsQueryAnswer F plan)
  run-answer (Ok f) valid means = record { valid = valid; meaning = (means, refl) }
  run-answer (Err e) valid means = tt

  pub run-errors : (r : Result Frame PolarsError) → IsValid F plan → IfErr r (λ e. IsRunError F plan e) → IfErr r (IsQueryError F plan)
  run-errors (Ok f) valid h = tt
  run-errors (Err e) valid h = run-query-error F plan e valid h
