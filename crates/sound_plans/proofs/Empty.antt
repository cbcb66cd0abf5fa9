-- Lists that are told to be empty by their length.
use Rattle.std.proofs.Common.{◌≡◌, suc, Bool, List, [], ◌∷◌, length, refl, sym, ◌∙◌, arith}
use Rattle.std.specs.Prelude.{◌↔◌, IsTrue, ◌==◌}
use Rattle.std.proofs.lemmas.Bool.{eqb-true}

pub empty-is : {A : Type 0} (xs : List A) (b : Bool) → b ≡ (length xs == 0) → IsTrue b ↔ (xs ≡ [])
empty-is [] b e = (λ h. refl, λ h. e)
empty-is (x ∷ xs) b e = (λ h. absurd (let z : suc (length xs) ≡ 0 = eqb-true (suc (length xs)) 0 (sym e ∙ h) in omega (arith, z)), λ h. absurd (let clash : x ∷ xs ≡ [] = h in cc))
