-- What the numbers of the names at the nodes of a survey say of a plan.
use Rattle.std.proofs.Common.{◌≡◌, ◌⊎◌, inl, inr, ℕ, zero, suc, ◌<◌, ◌^◌, true, List, [], ◌∷◌, ◌++◌, length, get_or, refl, sym, ap, subst, ◌∙◌, arith}
use Rattle.std.specs.Prelude.{Contains, None, flat_map, slice_get, unwrap_or}
use Rattle.std.specs.List.{All}
use Rattle.std.specs.List.Sorted.{IsStrictlyIncreasing}
use Rattle.std.specs.Str.{bytes_eq}
use Rattle.std.proofs.lemmas.Bool.{or_cases, or_left, or_right}
use Rattle.std.proofs.lemmas.List.Folds.{list_any-append}
use Rattle.std.proofs.lemmas.List.Elements.{Contains-append_right, Contains-get_or}
use Rattle.ps_frame.specs.Functions.{Functions}
use Rattle.ps_frame.specs.declared.expr.AExpr.{AExpr}
use Rattle.ps_meaning.specs.Schemas.{is_among, names_of, tree_schema}
use Rattle.ps_meaning.specs.Steps.{Name}
use Rattle.ps_plan.specs.Graph.{Reached, here}
use Rattle.ps_plan.specs.Plans.{tree_of}
use Rattle.ps_rules.specs.Names.{Knows, is_taken, temporary}
use Rattle.valid_plans.specs.Surveys.{IsSurvey}
use Rattle.valid_plans.specs.Known.{IsKnown}
use Rattle.valid_plans.specs.Valid.{IsValidWith, ValidNodes, plan_with}
use Rattle.ps_fresh.specs.Collected.{AreNumbersOf}
use Rattle.ps_fresh.specs.InPlans.{IsNameUnder, all_known_names, known_names, names_at, scanned_names}

-- a name at some node of the order, and back
among_some : (f : ℕ → List Name) (name : Name) (order : List ℕ) → is_among name (flat_map f order) ≡ true → (n : ℕ) × Contains order n × (is_among name (f n) ≡ true)
among_some f name [] h = cc
among_some f name (m ∷ order) h =
    elim (or_cases (is_among name (f m)) (is_among name (flat_map f order)) (sym (list_any-append (bytes_eq name) (f m) (flat_map f order)) ∙ h)) [
      | inl a ↦ (m, first, a)
      | inr b ↦ (let rest = among_some f name order b in (rest.0, later rest.0 rest.1, rest.2))
    ]
  where
    first : Contains (m ∷ order) m
    first = (0, omega arith, refl)

    later : (n : ℕ) → Contains order n → Contains (m ∷ order) n
    later n there = Contains-append_right (m ∷ []) order n there

some_among : (f : ℕ → List Name) (name : Name) (order : List ℕ) (k n : ℕ) → k < length order → get_or order k n ≡ n → is_among name (f n) ≡ true → is_among name (flat_map f order) ≡ true
some_among f name [] k n lt e h = absurd (omega arith)
some_among f name (m ∷ order) zero n lt e h =
    list_any-append (bytes_eq name) (f m) (flat_map f order) ∙ or_left (is_among name (f m)) (is_among name (flat_map f order)) (ap (λ i. is_among name (f i)) e ∙ h)
some_among f name (m ∷ order) (suc k) n lt e h =
    list_any-append (bytes_eq name) (f m) (flat_map f order) ∙ or_right (is_among name (f m)) (is_among name (flat_map f order)) (some_among f name order k n (omega arith) e h)

module _ (v : ValidNodes) (exprs : List AExpr) (order : List ℕ) (survey : IsSurvey (plan_with v exprs) order) where
  -- each node of the order has a schema, and is there
  pub have_schemas : (F : Functions) → IsValidWith F v exprs → All (λ (n : ℕ). IsKnown v.schemas (record { 0 = n })) order
  have_schemas F valid k d h =
      let n = get_or order k d in
      (tree_schema F (tree_of (plan_with v exprs) n), valid.schemas n (survey.reached n (Contains-get_or order k d h)))

  pub are_there : All (λ n. n < length v.nodes) order
  are_there k d h = let n = get_or order k d in (survey.in_range n (survey.reached n (Contains-get_or order k d h))).nodes n here

  module _ (F : Functions) (valid : IsValidWith F v exprs) where
    -- the names that are known at a node are those of the plan there
    same_names : (n : ℕ) → Reached (plan_with v exprs) n → known_names v n ≡ names_at F (plan_with v exprs) n
    same_names n reached = ap (λ s. names_of (unwrap_or (unwrap_or s None) []) ++ scanned_names (slice_get v.nodes n)) (valid.schemas n reached)

    -- so the numbers that were found are those of the names under the root
    pub knows : (numbers : List ℕ) → AreNumbersOf numbers (all_known_names v order) → IsStrictlyIncreasing numbers → Knows (record { taken = numbers; next = 0 }) (IsNameUnder F (plan_with v exprs))
    knows numbers found rise =
        record {
          taken = λ k. ((λ is. (found.small k is, under k (found.small k is) is)), (λ h. is_found k h.0 h.1));
          rising = rise;
        }
      where
        under : (k : ℕ) → k < 2 ^ 64 → is_taken k numbers ≡ true → IsNameUnder F (plan_with v exprs) (temporary k)
        under k lt is =
            let some = among_some (known_names v) (temporary k) order (sym (found.taken k lt) ∙ is) in
            let reached = survey.reached some.0 some.1 in
            (some.0, reached, sym (ap (is_among (temporary k)) (same_names some.0 reached)) ∙ some.2)

        is_found : (k : ℕ) → k < 2 ^ 64 → IsNameUnder F (plan_with v exprs) (temporary k) → is_taken k numbers ≡ true
        is_found k lt h =
            let there = survey.all h.0 h.1 in
            found.taken k lt ∙ some_among (known_names v) (temporary k) order there.0 h.0 there.1 there.2 (ap (is_among (temporary k)) (same_names h.0 h.1) ∙ h.2)
