-- A node's extent against the limits.
use Rattle.std.proofs.Common.{◌≡◌, ◌≢◌, ◌⊎◌, inl, inr, ℕ, suc, ◌+◌, ◌<◌, ◌≤◌, min, List, length, get_or, take, ◌++◌, ◌∷◌, [], refl, sym, ◌∙◌, ap, subst, length-append, arith}
use Rattle.std.specs.Prelude.{Contains}
use Rattle.std.proofs.lemmas.List.{take_all, take_more}
use Rattle.std.proofs.lemmas.List.Elements.{Contains-push_cases}
use Rattle.ps_frame.specs.declared.refusal.PolarsError.TheVariants as error
use Rattle.ps_frame.specs.declared.refusal.Why.TheVariants as why
use Rattle.ps_plan.specs.Graph.{HasNoCircle, Reached}
use Rattle.ps_meaning.specs.PlanTrees.{depth, occurrences}
use Rattle.ps_plan.specs.Plans.{Plan, tree_of}
use Rattle.ps_plan.specs.declared.ir.IR.{IR}
use Rattle.ps_survey.specs.Counts.{looks_at}
use Rattle.ps_survey.specs.Extents.{IsExtent}
use Rattle.valid_plans.specs.Surveys.{IsWithinLimits}
use Rattle.ps_survey.specs.Flaws.{Flaw, IsFlawOrMemory, flawed, too_deep, too_large}
use Rattle.ps_survey.specs.Orders.{all_in, exprs_in, inputs_in}
use Rattle.ps_survey.specs.declared.extents.Extent.{Extent}
use Rattle.ps_survey.proofs.Visits.{looks-more, looks-within}

pub past-limits : (plan : Plan) (n : ℕ) (x : Extent) → Reached plan n → HasNoCircle plan n → IsExtent (depth (tree_of plan n)) (occurrences (tree_of plan n)) x → (256 < x.depth) ⊎ (65536 < x.size)
    → IsFlawOrMemory plan (error.InvalidPlan (record { 0 = n }) why.Limits)
past-limits plan n x reached clear is (inl h) =
    let d = is.0 in
    flawed (record { node = n; reason = why.Limits; is = refl; reached = reached; flaw = too_deep clear (omega (arith, h, d)) })
past-limits plan n x reached clear is (inr h) =
    let s = is.1 in
    flawed (record { node = n; reason = why.Limits; is = refl; reached = reached; flaw = too_large clear (omega (arith, h, s)) })

pub within-limits : (d s : ℕ) (x : Extent) → IsExtent d s x → ¬ ((256 < x.depth) ⊎ (65536 < x.size)) → IsWithinLimits d s
within-limits d s x is h = (deep d x.depth is.0 (λ l. h (inl l)), large s x.size is.1 (λ l. h (inr l)))
  where
    deep : (a b : ℕ) → b ≡ min a 257 → ¬ (256 < b) → a ≤ 256
    deep a b e h = omega (arith, e, h)

    large : (a b : ℕ) → b ≡ min a 65537 → ¬ (65536 < b) → a ≤ 65536
    large a b e h = omega (arith, e, h)

pub within-more : (P : ℕ → Type 0) (order : List ℕ) (i : ℕ) → i < length order → P (get_or order i 0) → ((n : ℕ) → Contains (take i order) n → P n) → (n : ℕ) → Contains (take (i + 1) order) n → P n
within-more P order i h here all n c = by (Contains-push_cases (take i order) (get_or order i 0) n (subst (λ ns. Contains ns n) (take_more order i 0 h) c))
  where
    by : Contains (take i order) n ⊎ (get_or order i 0 ≡ n) → P n
    by (inl c) = all n c
    by (inr e) = subst P e here

-- the looks at one more node, its inputs and its expressions
pub node-looks : (nodes : List IR) (order : List ℕ) (i : ℕ) → i < length order
    → looks_at (all_in nodes) (take (i + 1) order) ≡ looks_at (all_in nodes) (take i order) + suc (length (inputs_in nodes (get_or order i 0)) + length (exprs_in nodes (get_or order i 0)))
node-looks nodes order i h = looks-more (all_in nodes) order i h ∙ ap (λ k. looks_at (all_in nodes) (take i order) + suc k) (length-append (inputs_in nodes (get_or order i 0)) (exprs_in nodes (get_or order i 0)))

pub node-looks-within : (nodes : List IR) (order : List ℕ) (i : ℕ) → i < length order
    → looks_at (all_in nodes) (take i order) + suc (length (inputs_in nodes (get_or order i 0)) + length (exprs_in nodes (get_or order i 0))) ≤ looks_at (all_in nodes) order
node-looks-within nodes order i h =
    let a = looks-within (all_in nodes) order i h in
    let b = length-append (inputs_in nodes (get_or order i 0)) (exprs_in nodes (get_or order i 0)) in
    omega (arith, a, b)

pub whole : (order : List ℕ) (i : ℕ) → length order ≤ i → (n : ℕ) → Contains order n → Contains (take i order) n
whole order i h n c = subst (λ ns. Contains ns n) (sym (take_all i order h)) c
