-- Numbers that a type has, from 0 up.
use Rattle.std.proofs.Common.{◌≡◌, ℕ, ◌<◌, ◌≤◌, Option, Some, None, refl, arith}
use Rattle.std.specs.Prelude.{ℤ, pos, ◌+ℤ◌, ◌≤ℤ◌, IsSome}
use Rattle.std.proofs.lemmas.Int.{ints}
use Rattle.num_traits.specs.Laws.{Checks}

module _ (fits : ℤ → Type 0) (between : (x y z : ℤ) → fits x → fits z → x ≤ℤ y → y ≤ℤ z → fits y) (zero_fits : fits (pos 0)) where
  -- of n numbers from x on the type has each, and the one behind them
  pub has-number : (x one : ℤ) (n k : ℕ) → (pos 0 ≤ℤ x) × fits (x +ℤ pos n) → k ≤ n → one ≡ pos k → fits (x +ℤ one)
  has-number x one n k has within e = between (pos 0) (x +ℤ one) (x +ℤ pos n) zero_fits has.1 (omega (arith, ints, has.0)) (omega (arith, ints))

  -- how many are left is such a number too
  pub has-count : (x : ℤ) (n k : ℕ) → (pos 0 ≤ℤ x) × fits (x +ℤ pos n) → k ≤ n → fits (pos k)
  has-count x n k has within = between (pos 0) (pos k) (x +ℤ pos n) zero_fits has.1 (omega (arith, ints)) (omega (arith, ints, has.0))

  -- one number further, with less left
  pub has-rest : (x y : ℤ) (n k : ℕ) → (pos 0 ≤ℤ x) × fits (x +ℤ pos n) → k < n → y ≡ x +ℤ pos 1 → (pos 0 ≤ℤ y) × fits (y +ℤ pos k)
  has-rest x y n k has less e = (omega (arith, ints, has.0), between (pos 0) (y +ℤ pos k) (x +ℤ pos n) zero_fits has.1 (omega (arith, ints, has.0)) (omega (arith, ints)))

  -- the same number, with less left
  pub has-fewer : (x : ℤ) (n k : ℕ) → (pos 0 ≤ℤ x) × fits (x +ℤ pos n) → k < n → (pos 0 ≤ℤ x) × fits (x +ℤ pos k)
  has-fewer x n k has less = (has.0, between (pos 0) (x +ℤ pos k) (x +ℤ pos n) zero_fits has.1 (omega (arith, ints, has.0)) (omega (arith, ints)))

-- what is checked to fit is there
pub is-some : {T : Type 0} (value : T → ℤ) (fits : ℤ → Type 0) (n : ℤ) (o : Option T) → Checks value fits n o → fits n → IsSome o
is-some value fits n None c f = absurd (c f)
is-some value fits n (Some y) c f = refl
