-- The names of the small plan.
use Rattle.std.proofs.Common.{◌≡◌, ℕ, zero, suc, true, false, [], refl, sym, ◌∙◌, arith}
use Rattle.ps_frame.specs.Functions.{Functions}
use Rattle.ps_frame.specs.Trees.{tree_within}
use Rattle.ps_fresh.specs.InPlans.{IsNameUnder, names_at}
use Rattle.ps_meaning.specs.Schemas.{is_among}
use Rattle.ps_plan.specs.Plans.{plan_within}
use Rattle.ps_rules.specs.Names.{Knows, temporary}
use Rattle.ps_rules.specs.Worked.{counter}
use Rattle.physical_plans.specs.Worked.{sum_beside_b}

-- no name of the plan is one that a counter gives
none_temporary : (F : Functions) (n k : ℕ) → is_among (temporary k) (names_at F sum_beside_b n) ≡ false
unfolding plan_within tree_within
none_temporary F zero k = refl
none_temporary F (suc zero) k = refl
none_temporary F (suc (suc zero)) k = refl
none_temporary F (suc (suc (suc n))) k = refl

pub known : (F : Functions) → Knows (counter [] 0) (IsNameUnder F sum_beside_b)
known F =
    record {
      taken = λ k. ((λ is. cc), (λ h. let w : true ≡ false = sym h.1.2 ∙ none_temporary F h.1.0 k in cc));
      rising = λ k lt. absurd (omega arith);
    }
