-- What is stored comes back.
use Rattle.std.proofs.Common.{◌≡◌, ℕ, ◌+◌, ◌*◌, ◌/◌, ◌%◌, ◌^◌, ◌<◌, ap, ◌∙◌, arith}
use Rattle.std.proofs.Math.Nat.{mod-eq_of_lt, mul-add-div_right, div-eq_of_lt}
use Rattle.std.proofs.lemmas.Nat.{mod-mul-add}
use Rattle.pu_index.specs.Parts.{joined, chunk_part, row_part}

row_of-joined : (p chunk row : ℕ) → chunk < p → row < 2 ^ 32 → (row * p + chunk) / p % 2 ^ 32 ≡ row
row_of-joined p chunk row small row_small =
    let whole = mul-add-div_right {m = p} (omega arith) row chunk in
    let none = div-eq_of_lt small in
    let quotient : (row * p + chunk) / p ≡ row = omega (arith, whole, none) in
    ap (λ q. q % 2 ^ 32) quotient ∙ mod-eq_of_lt row_small

pub parts-joined : (bits chunk row inner : ℕ) → chunk < 2 ^ bits → row < 2 ^ 32 → inner ≡ joined bits chunk row → (chunk_part bits inner ≡ chunk) × (row_part bits inner ≡ row)
parts-joined bits chunk row inner small row_small e =
    (ap (λ n. n % 2 ^ bits) e ∙ mod-mul-add row (2 ^ bits) chunk small, ap (λ n. n / 2 ^ bits % 2 ^ 32) e ∙ row_of-joined (2 ^ bits) chunk row small row_small)
