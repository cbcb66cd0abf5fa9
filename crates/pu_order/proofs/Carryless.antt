-- Sums of bits without carry: their terms, shifts, and windows that double.
use Rattle.std.proofs.Common.{◌≡◌, ℕ, zero, suc, ◌+◌, ◌-◌, ◌*◌, ◌/◌, ◌%◌, ◌^◌, ◌<◌, ◌≤◌, bit_xor, Bool, true, false, nat_lt, refl, sym, ap, ◌∙◌, arith, add-zero}
use borrow.Author.Tests.{ltb-true, ltb-false}
use Rattle.std.specs.Int.{bit_at}
use Rattle.std.proofs.lemmas.Nat.{pow_pos}
use Rattle.std.proofs.lemmas.Nat.Bits.{bit_at-suc, bit_at-zero, bit_at-lt, bit_at_xor, bit_at_cat_low, bit_at_cat_high}
use Rattle.pu_order.specs.Bits.{xor_below, carryless_bit}

-- ---- sums

pub xor_below-same : (f g : ℕ → ℕ) (n : ℕ) → ((j : ℕ) → j < n → f j ≡ g j) → xor_below f n ≡ xor_below g n
xor_below-same f g zero same = refl
xor_below-same f g (suc n) same =
    let before : xor_below f n ≡ xor_below g n = xor_below-same f g n (λ j h. same j (omega arith)) in
    let last : f n ≡ g n = same n (omega arith) in
    ap (λ k. (k + f n) % 2) before ∙ ap (λ k. (xor_below g n + k) % 2) last

pub xor_below-lt : (f : ℕ → ℕ) (n : ℕ) → xor_below f n < 2
xor_below-lt f zero = omega arith
xor_below-lt f (suc n) = omega arith

-- the first term apart
pub xor_below-first : (f : ℕ → ℕ) (n : ℕ) → xor_below f (suc n) ≡ (f 0 + xor_below (λ j. f (suc j)) n) % 2
xor_below-first f zero = omega arith
xor_below-first f (suc n) =
    let before : xor_below f (suc n) ≡ (f 0 + xor_below (λ j. f (suc j)) n) % 2 = xor_below-first f n in
    omega arith

pub xor_below-zeros : (f : ℕ → ℕ) (n : ℕ) → ((j : ℕ) → j < n → f j ≡ 0) → xor_below f n ≡ 0
xor_below-zeros f zero none = refl
xor_below-zeros f (suc n) none =
    let before : xor_below f n ≡ 0 = xor_below-zeros f n (λ j h. none j (omega arith)) in
    let last : f n ≡ 0 = none n (omega arith) in
    omega arith

-- ---- shifts

bit_at-mod : (n i : ℕ) → i < 64 → bit_at (n % 2 ^ 64) i ≡ bit_at n i
bit_at-mod n i h =
    let parts : n ≡ (n / 2 ^ 64) * 2 ^ 64 + n % 2 ^ 64 = omega arith in
    sym (bit_at_cat_low (n / 2 ^ 64) 64 (n % 2 ^ 64) i h) ∙ ap (λ k. bit_at k i) (sym parts)

pub bit_at-shl_high : (x s i : ℕ) → s ≤ i → i < 64 → bit_at (x * 2 ^ s % 2 ^ 64) i ≡ bit_at x (i - s)
bit_at-shl_high x s i low high =
    bit_at-mod (x * 2 ^ s) i high ∙ ap (λ k. bit_at k i) (sym (add-zero (x * 2 ^ s))) ∙ bit_at_cat_high x s 0 i (pow_pos s) low

pub bit_at-shl_low : (x s i : ℕ) → i < s → i < 64 → bit_at (x * 2 ^ s % 2 ^ 64) i ≡ 0
bit_at-shl_low x s i low high =
    bit_at-mod (x * 2 ^ s) i high ∙ ap (λ k. bit_at k i) (sym (add-zero (x * 2 ^ s))) ∙ bit_at_cat_low x s 0 i low ∙ bit_at-zero i

-- ---- the product

turn_term : (x y i j : ℕ) → j < i → i < 64 → bit_at x (i - suc j) * bit_at y (suc j) ≡ bit_at (x * 2 ^ 1 % 2 ^ 64) (i - j) * bit_at (y / 2) j
turn_term x y i j below h =
    let place : i - j - 1 ≡ i - suc j = omega arith in
    let left : bit_at (x * 2 ^ 1 % 2 ^ 64) (i - j) ≡ bit_at x (i - suc j) =
    bit_at-shl_high x 1 (i - j) (omega arith) (omega arith) ∙ ap (bit_at x) place in
    ap (λ k. bit_at x (i - suc j) * k) (bit_at-suc y j) ∙ ap (λ k. k * bit_at (y / 2) j) (sym left)

-- a turn of the loop: the lowest bit of y decides whether x counts
pub carryless_bit-turn : (x y i : ℕ) → i < 64 → carryless_bit x y i ≡ (bit_at x i * bit_at y 0 + carryless_bit (x * 2 ^ 1 % 2 ^ 64) (y / 2) i) % 2
carryless_bit-turn x y i h =
    let f : ℕ → ℕ = λ j. bit_at x (i - j) * bit_at y j in
    let g : ℕ → ℕ = λ j. bit_at (x * 2 ^ 1 % 2 ^ 64) (i - j) * bit_at (y / 2) j in
    let next : i + 1 ≡ suc i = omega arith in
    let first : xor_below f (suc i) ≡ (f 0 + xor_below (λ j. f (suc j)) i) % 2 = xor_below-first f i in
    let rest : xor_below (λ j. f (suc j)) i ≡ xor_below g i = xor_below-same (λ j. f (suc j)) g i (λ j below. turn_term x y i j below h) in
    let same_place : i - i ≡ 0 = omega arith in
    let last : g i ≡ 0 =
    ap (λ k. bit_at (x * 2 ^ 1 % 2 ^ 64) k * bit_at (y / 2) i) same_place
    ∙ ap (λ k. k * bit_at (y / 2) i) (bit_at-shl_low x 1 0 (omega arith) (omega arith)) ∙ omega arith in
    let small : xor_below g i < 2 = xor_below-lt g i in
    let whole : xor_below g (suc i) ≡ xor_below g i = omega arith in
    let zero_place : i - 0 ≡ i = omega arith in
    ap (xor_below f) next ∙ first
    ∙ ap (λ k. (bit_at x k * bit_at y 0 + xor_below (λ j. f (suc j)) i) % 2) zero_place
    ∙ ap (λ k. (bit_at x i * bit_at y 0 + k) % 2) (rest ∙ sym whole ∙ ap (xor_below g) (sym next))

pub carryless_bit-zero : (x i : ℕ) → carryless_bit x 0 i ≡ 0
carryless_bit-zero x i =
    xor_below-zeros (λ j. bit_at x (i - j) * bit_at 0 j) (i + 1) (λ j h. ap (λ k. bit_at x (i - j) * k) (bit_at-zero j) ∙ omega arith)

-- the two turns of the loop
pub turn_taken : (x y p i t : ℕ) → i < 64 → bit_at y 0 ≡ 1 → t ≡ (bit_at p i + carryless_bit x y i) % 2 → t ≡ (bit_at (bit_xor p x) i + carryless_bit (x * 2 ^ 1 % 2 ^ 64) (y / 2) i) % 2
turn_taken x y p i t h odd e =
    let turn : carryless_bit x y i ≡ (bit_at x i * bit_at y 0 + carryless_bit (x * 2 ^ 1 % 2 ^ 64) (y / 2) i) % 2 = carryless_bit-turn x y i h in
    let one : bit_at x i * bit_at y 0 ≡ bit_at x i = ap (λ k. bit_at x i * k) odd ∙ omega arith in
    let both : bit_at (bit_xor p x) i ≡ (bit_at p i + bit_at x i) % 2 = bit_at_xor p x i in
    omega arith

pub turn_left : (x y p i t : ℕ) → i < 64 → bit_at y 0 ≡ 0 → t ≡ (bit_at p i + carryless_bit x y i) % 2 → t ≡ (bit_at p i + carryless_bit (x * 2 ^ 1 % 2 ^ 64) (y / 2) i) % 2
turn_left x y p i t h even e =
    let turn : carryless_bit x y i ≡ (bit_at x i * bit_at y 0 + carryless_bit (x * 2 ^ 1 % 2 ^ 64) (y / 2) i) % 2 = carryless_bit-turn x y i h in
    let none : bit_at x i * bit_at y 0 ≡ 0 = ap (λ k. bit_at x i * k) even ∙ omega arith in
    omega arith

-- ---- windows

-- each bit of y is the xor of the n bits of x that end there
pub record IsWindow (x y n : ℕ) : Type 0 where
  pub bits : (i : ℕ) → i < 64 → bit_at y i ≡ (xor_below (bit_at x) (i + 1) + xor_below (bit_at x) (i + 1 - n)) % 2

pub IsWindow-one : (x : ℕ) → IsWindow x x 1
IsWindow-one x = record {
  bits = λ i h.
      let next : i + 1 ≡ suc i = omega arith in
      let back : i + 1 - 1 ≡ i = omega arith in
      let one : bit_at x i ≡ (xor_below (bit_at x) (suc i) + xor_below (bit_at x) i) % 2 =
      omega (arith, bit_at-lt x i, xor_below-lt (bit_at x) i) in
      one ∙ ap (λ k. (xor_below (bit_at x) k + xor_below (bit_at x) i) % 2) (sym next)
      ∙ ap (λ k. (xor_below (bit_at x) (i + 1) + xor_below (bit_at x) k) % 2) (sym back);
}

-- a window that lies below the place: what it adds is the part before it
window_far : (x y n i : ℕ) → IsWindow x y n → n ≤ i → i < 64 → bit_at (bit_xor y (y * 2 ^ n % 2 ^ 64)) i ≡ (xor_below (bit_at x) (i + 1) + xor_below (bit_at x) (i + 1 - (n + n))) % 2
window_far x y n i w far h =
    let both : bit_at (bit_xor y (y * 2 ^ n % 2 ^ 64)) i ≡ (bit_at y i + bit_at (y * 2 ^ n % 2 ^ 64) i) % 2 = bit_at_xor y (y * 2 ^ n % 2 ^ 64) i in
    let below : bit_at (y * 2 ^ n % 2 ^ 64) i ≡ bit_at y (i - n) = bit_at-shl_high y n i far h in
    let here : bit_at y i ≡ (xor_below (bit_at x) (i + 1) + xor_below (bit_at x) (i + 1 - n)) % 2 = w.bits i h in
    let there : bit_at y (i - n) ≡ (xor_below (bit_at x) (i - n + 1) + xor_below (bit_at x) (i - n + 1 - n)) % 2 = w.bits (i - n) (omega arith) in
    let meet : xor_below (bit_at x) (i - n + 1) ≡ xor_below (bit_at x) (i + 1 - n) = ap (xor_below (bit_at x)) (omega arith) in
    let end : xor_below (bit_at x) (i - n + 1 - n) ≡ xor_below (bit_at x) (i + 1 - (n + n)) = ap (xor_below (bit_at x)) (omega arith) in
    omega arith

-- a window that reaches the first bit: nothing lies before it
window_near : (x y n i : ℕ) → IsWindow x y n → i < n → i < 64 → bit_at (bit_xor y (y * 2 ^ n % 2 ^ 64)) i ≡ (xor_below (bit_at x) (i + 1) + xor_below (bit_at x) (i + 1 - (n + n))) % 2
window_near x y n i w near h =
    let both : bit_at (bit_xor y (y * 2 ^ n % 2 ^ 64)) i ≡ (bit_at y i + bit_at (y * 2 ^ n % 2 ^ 64) i) % 2 = bit_at_xor y (y * 2 ^ n % 2 ^ 64) i in
    let none : bit_at (y * 2 ^ n % 2 ^ 64) i ≡ 0 = bit_at-shl_low y n i near h in
    let here : bit_at y i ≡ (xor_below (bit_at x) (i + 1) + xor_below (bit_at x) (i + 1 - n)) % 2 = w.bits i h in
    let start : xor_below (bit_at x) (i + 1 - n) ≡ xor_below (bit_at x) (i + 1 - (n + n)) = ap (xor_below (bit_at x)) (omega arith) in
    omega arith

window_twice : (x y n i : ℕ) (b : Bool) → nat_lt i n ≡ b → IsWindow x y n → i < 64 → bit_at (bit_xor y (y * 2 ^ n % 2 ^ 64)) i ≡ (xor_below (bit_at x) (i + 1) + xor_below (bit_at x) (i + 1 - (n + n))) % 2
window_twice x y n i true e w h = window_near x y n i w (ltb-true i n e) h
window_twice x y n i false e w h = window_far x y n i w (ltb-false i n e) h

pub IsWindow-twice : (x y n : ℕ) → IsWindow x y n → IsWindow x (bit_xor y (y * 2 ^ n % 2 ^ 64)) (n + n)
IsWindow-twice x y n w = record { bits = λ i h. window_twice x y n i (nat_lt i n) refl w h }

pub IsWindow-all : (x y : ℕ) → IsWindow x y 64 → (i : ℕ) → i < 64 → bit_at y i ≡ xor_below (bit_at x) (i + 1)
IsWindow-all x y w i h =
    let here : bit_at y i ≡ (xor_below (bit_at x) (i + 1) + xor_below (bit_at x) (i + 1 - 64)) % 2 = w.bits i h in
    let none : i + 1 - 64 ≡ 0 = omega arith in
    let start : xor_below (bit_at x) (i + 1 - 64) ≡ 0 = ap (xor_below (bit_at x)) none in
    let small : xor_below (bit_at x) (i + 1) < 2 = xor_below-lt (bit_at x) (i + 1) in
    omega arith

-- the bits below a place are those up to it, one place higher
pub xor_below-shl : (x i : ℕ) → i < 64 → xor_below (bit_at (x * 2 ^ 1 % 2 ^ 64)) (i + 1) ≡ xor_below (bit_at x) i
xor_below-shl x i h =
    let up : ℕ → ℕ = bit_at (x * 2 ^ 1 % 2 ^ 64) in
    let next : i + 1 ≡ suc i = omega arith in
    let first : xor_below up (suc i) ≡ (up 0 + xor_below (λ j. up (suc j)) i) % 2 = xor_below-first up i in
    let none : up 0 ≡ 0 = bit_at-shl_low x 1 0 (omega arith) (omega arith) in
    let rest : xor_below (λ j. up (suc j)) i ≡ xor_below (bit_at x) i =
    xor_below-same (λ j. up (suc j)) (bit_at x) i (λ j below. bit_at-shl_high x 1 (suc j) (omega arith) (omega arith) ∙ ap (bit_at x) (omega arith)) in
    let small : xor_below (bit_at x) i < 2 = xor_below-lt (bit_at x) i in
    let whole : xor_below up (suc i) ≡ xor_below (bit_at x) i = omega arith in
    ap (xor_below up) next ∙ whole
