-- Quotients that are rounded up.
use Rattle.std.proofs.Common.{◌≡◌, ℕ, zero, suc, ◌+◌, ◌-◌, ◌*◌, ◌/◌, ◌%◌, ◌<◌, min, sym, ap, ◌∙◌, arith, div-add-mod'}
use Rattle.std.proofs.lemmas.Nat.{div-mul-add}

-- of q units and a rest
ceiling_of : (q r k : ℕ) → r < k → q + min 1 r ≡ (q * k + r + (k - 1)) / k
ceiling_of q zero k lt =
    let same : q * k + 0 + (k - 1) ≡ q * k + (k - 1) = omega arith in
    let below : k - 1 < k = omega arith in
    let first : q + min 1 0 ≡ q = omega arith in
    first ∙ sym (div-mul-add q k (k - 1) below) ∙ ap (λ m. m / k) (sym same)
ceiling_of q (suc r) k lt =
    let same : q * k + suc r + (k - 1) ≡ (q + 1) * k + r = grind arith in
    let below : r < k = omega arith in
    let first : q + min 1 (suc r) ≡ q + 1 = omega arith in
    first ∙ sym (div-mul-add (q + 1) k r below) ∙ ap (λ m. m / k) (sym same)

pub ceiling : (n k : ℕ) → 0 < k → n / k + min 1 (n % k) ≡ (n + (k - 1)) / k
ceiling n k some = ceiling_of (n / k) (n % k) k (omega arith) ∙ ap (λ m. (m + (k - 1)) / k) (div-add-mod' n k)
