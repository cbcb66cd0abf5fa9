-- A search that stopped has found a flaw.
use Rattle.std.proofs.Common.{◌≡◌, ℕ, ◌≤◌, length, refl}
use Rattle.std.specs.Prelude.{Contains}
use Rattle.ps_frame.specs.declared.refusal.PolarsError.{PolarsError}
use Rattle.ps_frame.specs.declared.refusal.Why.TheVariants as why
use Rattle.ps_meaning.specs.Errors.{refusal_error}
use Rattle.ps_plan.specs.Graph.{Reached, exprs_at, here, inputs_at, operands_at}
use Rattle.ps_plan.specs.Plans.{Plan}
use Rattle.ps_meaning.specs.StepRefusals.{invalid_plan}
use Rattle.ps_survey.specs.Flaws.{Flaw, IsFlawOrMemory, expr_in_circle, expr_missing, flawed, in_circle, input_missing, root_missing}
use Rattle.ps_survey.specs.Search.{HasStopped}
use Rattle.ps_survey.specs.declared.search.Stop.TheVariants as stop
use Rattle.ps_survey.proofs.Steps.{path-then}

module _ (plan : Plan) (e : PolarsError) where
  pub shape : (n : ℕ) → e ≡ refusal_error n (invalid_plan why.Shape) → Reached plan n → Flaw plan n why.Shape → IsFlawOrMemory plan e
  shape n is reached flaw = flawed (record { node = n; reason = why.Shape; is = is; reached = reached; flaw = flaw })

  pub no-root : e ≡ refusal_error plan.root.0 (invalid_plan why.Shape) → length plan.nodes ≤ plan.root.0 → IsFlawOrMemory plan e
  no-root is h = shape plan.root.0 is here (root_missing refl h)

  pub node-missing : (by : ℕ) → e ≡ refusal_error by (invalid_plan why.Shape) → HasStopped (inputs_at plan) (length plan.nodes) plan.root.0 (stop.Missing by) → IsFlawOrMemory plan e
  node-missing by is h = shape by is h.0 (input_missing h.1.0 h.1.1 h.1.2)

  pub node-circle : (n : ℕ) → e ≡ refusal_error n (invalid_plan why.Shape) → HasStopped (inputs_at plan) (length plan.nodes) plan.root.0 (stop.Circle n) → IsFlawOrMemory plan e
  node-circle n is h = shape n is h.0 (in_circle h.1)

  module _ (n expr : ℕ) (is : e ≡ refusal_error n (invalid_plan why.Shape)) (reached : Reached plan n) (own : Contains (exprs_at plan n) expr) where
    pub no-expr : length plan.exprs ≤ expr → IsFlawOrMemory plan e
    no-expr h = shape n is reached (expr_missing expr (record { from = expr; is_own = own; way = here }) h)

    pub expr-gone : (by : ℕ) → HasStopped (operands_at plan) (length plan.exprs) expr (stop.Missing by) → IsFlawOrMemory plan e
    expr-gone by h = shape n is reached (expr_missing h.1.0 (record { from = expr; is_own = own; way = path-then h.0 h.1.1 }) h.1.2)

    pub expr-circle : (x : ℕ) → HasStopped (operands_at plan) (length plan.exprs) expr (stop.Circle x) → IsFlawOrMemory plan e
    expr-circle x h = shape n is reached (expr_in_circle x (record { from = expr; is_own = own; way = h.0 }) h.1)
