-- What no refusal at a reached node tells of it: its numbers are in range, nothing reaches itself, and its tree is complete.
use Rattle.std.proofs.Common.{ℕ, ◌<◌, ◌≤◌, ◌⊎◌, inl, inr, zero, suc, List, length, refl, arith}
use Rattle.ps_frame.specs.Functions.{Functions}
use Rattle.ps_frame.specs.declared.refusal.Why.TheVariants as why
use Rattle.ps_plan.specs.Graph.{HasNoCircle, IsInRange, Path, Reached, here, inputs_at, onward}
use Rattle.ps_meaning.specs.PlanTrees.{IsCompletePlan}
use Rattle.ps_plan.specs.Plans.{Plan, tree_of}
use Rattle.ps_meaning.specs.StepRefusals.{invalid_plan}
use Rattle.ps_plan.specs.Refusals.{IsMisshapen, IsValid, expr_in_circle, expr_missing, in_circle, input_missing, root_missing}
use Rattle.ps_plan.proofs.Complete.{node-is-complete}
use Rattle.ps_plan.proofs.ReachedSteps.{path-then}

pub path-join : {next : ℕ → List ℕ} {a b c : ℕ} → Path next a b → Path next b c → Path next a c
path-join here way = way
path-join (onward k first) way = onward k (path-join first way)

below-or : (m k : ℕ) → (m < k) ⊎ (k ≤ m)
below-or m zero = inr (omega arith)
below-or zero (suc k) = inl (omega arith)
below-or (suc m) (suc k) = by (below-or m k)
  where
    by : (m < k) ⊎ (k ≤ m) → (suc m < suc k) ⊎ (suc k ≤ suc m)
    by (inl h) = inl (omega (arith, h))
    by (inr h) = inr (omega (arith, h))

is-below : (m k : ℕ) → (k ≤ m → ⊥) → m < k
is-below m k never = by (below-or m k)
  where
    by : (m < k) ⊎ (k ≤ m) → m < k
    by (inl h) = h
    by (inr h) = absurd (never h)

module _ (F : Functions) (plan : Plan) (valid : IsValid F plan) where
  pub has-shape : (n : ℕ) → Reached plan n → IsMisshapen F plan n → ⊥
  has-shape n reached h = valid n (invalid_plan why.Shape) (record { reached = reached; because = inl h })

  way-below : {a n : ℕ} → Reached plan a → a < length plan.nodes → Path (inputs_at plan) a n → n < length plan.nodes
  way-below reached h here = h
  way-below {a} reached h (onward {b = b} c way) = way-below (path-then reached c) (is-below b (length plan.nodes) (λ g. has-shape a reached (input_missing b c g))) way

  pub reached-below : (n : ℕ) → Reached plan n → n < length plan.nodes
  reached-below n reached = way-below here (is-below plan.root.0 (length plan.nodes) (λ g. has-shape plan.root.0 here (root_missing refl g))) reached

  pub no-circle : (n : ℕ) → Reached plan n → HasNoCircle plan n
  no-circle n reached = record { nodes = λ m way leads. has-shape m (path-join reached way) (in_circle leads); exprs = λ m e way names leads. has-shape m (path-join reached way) (expr_in_circle e names leads) }

  pub in-range : (n : ℕ) → Reached plan n → IsInRange plan n
  in-range n reached =
      record {
        nodes = λ m way. reached-below m (path-join reached way);
        exprs = λ m e way names. is-below e (length plan.exprs) (λ g. has-shape m (path-join reached way) (expr_missing e names g));
      }

  pub reached-complete : (n : ℕ) → Reached plan n → IsCompletePlan (tree_of plan n)
  reached-complete n reached = node-is-complete plan n (no-circle n reached) (in-range n reached)
