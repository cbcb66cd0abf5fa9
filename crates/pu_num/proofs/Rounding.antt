-- From division that rounds toward 0 to division that rounds down, at any width.
use Rattle.std.proofs.Common.{◌≡◌, ℕ, zero, suc, ◌+◌, ◌*◌, ◌/◌, ◌%◌, ◌^◌, ◌<◌, ◌≤◌, ℤ, pos, negsuc, neg_ℤ, ◌+ℤ◌, ◌-ℤ◌, ◌*ℤ◌, ◌<ℤ◌, ◌≤ℤ◌, unsigned_abs, int_div, int_rem, FitsSigned, refl, sym, ap, ◌∙◌, subst, arith}
use Rattle.std.specs.Int.{Width, w8, w16, w32, w64, w128, cast_signed, cast_unsigned, int_rem_euclid, int_wrapping_div}
use Rattle.std.proofs.lemmas.Int.{ints, quot-rem, rem_below, of_z-to_z, to_z-of_z, fits_signed_from_abs}
use Rattle.std.proofs.Math.IntN.{*ℤ_comm, pred_ℤ-*ℤ, -ℤ_one}
use Rattle.std.proofs.Math.Nat.{mod-eq_of_lt, div-le_self, div-mul-le_self, mul-le-mul_left}
use lib.Signed.{nat_abs-le}
use mir.Val.{bits, hbits}
use Rattle.pu_num.specs.Floor.{floor_div, floor_mod, IsFloorRemainder}

-- ---- the quotient

-- where the remainder has the divisor's sign, both ways of rounding agree
pub floor_div-above : (a b : ℤ) → pos 0 <ℤ b → pos 0 ≤ℤ int_rem a b → floor_div a b ≡ int_div a b
floor_div-above (pos n) (pos d) up same = refl
floor_div-above (negsuc n) (pos d) up same = omega (arith, ints)
floor_div-above a (negsuc d) up same = absurd (omega (arith, ints))

pub floor_div-below : (a b : ℤ) → b <ℤ pos 0 → int_rem a b ≤ℤ pos 0 → floor_div a b ≡ int_div a b
floor_div-below a (pos d) up same = absurd (omega (arith, ints))
floor_div-below (pos n) (negsuc d) up same = omega (arith, ints)
floor_div-below (negsuc n) (negsuc d) up same = refl

-- elsewhere rounding down goes one further
pub floor_div-above_down : (a b : ℤ) → pos 0 <ℤ b → int_rem a b <ℤ pos 0 → floor_div a b ≡ int_div a b -ℤ pos 1
floor_div-above_down (pos n) (pos d) up other = absurd (omega (arith, ints))
floor_div-above_down (negsuc n) (pos d) up other = omega (arith, ints)
floor_div-above_down a (negsuc d) up other = absurd (omega (arith, ints))

pub floor_div-below_down : (a b : ℤ) → b <ℤ pos 0 → pos 0 <ℤ int_rem a b → floor_div a b ≡ int_div a b -ℤ pos 1
floor_div-below_down a (pos d) up other = absurd (omega (arith, ints))
floor_div-below_down (pos n) (negsuc d) up other = omega (arith, ints)
floor_div-below_down (negsuc n) (negsuc d) up other = absurd (omega (arith, ints))

-- ---- the remainder

pub floor_mod-same : (a b : ℤ) → floor_div a b ≡ int_div a b → floor_mod a b ≡ int_rem a b
floor_mod-same a b e =
    let parts : int_div a b *ℤ b +ℤ int_rem a b ≡ a = quot-rem a b in
    ap (λ q. a -ℤ (b *ℤ q)) e ∙ ap (λ p. a -ℤ p) (*ℤ_comm b (int_div a b)) ∙ omega (arith, ints)

pub floor_mod-down : (a b : ℤ) → floor_div a b ≡ int_div a b -ℤ pos 1 → floor_mod a b ≡ int_rem a b +ℤ b
floor_mod-down a b e =
    let parts : int_div a b *ℤ b +ℤ int_rem a b ≡ a = quot-rem a b in
    let less : (int_div a b -ℤ pos 1) *ℤ b ≡ int_div a b *ℤ b -ℤ b = ap (λ q. q *ℤ b) (-ℤ_one (int_div a b)) ∙ pred_ℤ-*ℤ (int_div a b) b in
    ap (λ q. a -ℤ (b *ℤ q)) e ∙ ap (λ p. a -ℤ p) (*ℤ_comm b (int_div a b -ℤ pos 1) ∙ less) ∙ omega (arith, ints)

-- ---- where the remainder lies

pub lies-above : (r b : ℤ) → pos 0 <ℤ b → pos 0 ≤ℤ r → unsigned_abs r < unsigned_abs b → IsFloorRemainder r b
lies-above (pos r) (pos b) up same less = record { above = λ _. (omega (arith, ints), omega (arith, ints)); below = λ down. absurd (omega (arith, ints)) }
lies-above (negsuc r) b up same less = absurd (omega (arith, ints))
lies-above r (negsuc b) up same less = absurd (omega (arith, ints))

pub lies-below : (r b : ℤ) → b <ℤ pos 0 → r ≤ℤ pos 0 → unsigned_abs r < unsigned_abs b → IsFloorRemainder r b
lies-below (pos r) (negsuc b) down same less = record { above = λ up. absurd (omega (arith, ints)); below = λ _. (omega (arith, ints), omega (arith, ints)) }
lies-below (negsuc r) (negsuc b) down same less = record { above = λ up. absurd (omega (arith, ints)); below = λ _. (omega (arith, ints), omega (arith, ints)) }
lies-below r (pos b) down same less = absurd (omega (arith, ints))

pub lies-above_down : (r b : ℤ) → pos 0 <ℤ b → r <ℤ pos 0 → unsigned_abs r < unsigned_abs b → IsFloorRemainder (r +ℤ b) b
lies-above_down (negsuc r) (pos b) up other less = record { above = λ _. (omega (arith, ints), omega (arith, ints)); below = λ down. absurd (omega (arith, ints)) }
lies-above_down (pos r) b up other less = absurd (omega (arith, ints))
lies-above_down r (negsuc b) up other less = absurd (omega (arith, ints))

pub lies-below_down : (r b : ℤ) → b <ℤ pos 0 → pos 0 <ℤ r → unsigned_abs r < unsigned_abs b → IsFloorRemainder (r +ℤ b) b
lies-below_down (pos r) (negsuc b) down other less = record { above = λ up. absurd (omega (arith, ints)); below = λ _. (omega (arith, ints), omega (arith, ints)) }
lies-below_down (negsuc r) b down other less = absurd (omega (arith, ints))
lies-below_down r (pos b) down other less = absurd (omega (arith, ints))

-- ---- what the code's numbers are

-- what is left of a whole number at the width
abbrev pub wrapped : Width → ℤ → ℤ
wrapped w z = cast_signed w (unsigned_abs (int_rem_euclid z (pos (2 ^ bits w))))

halves : (w : Width) → 2 ^ bits w ≡ 2 * 2 ^ hbits w
halves w8 = refl
halves w16 = refl
halves w32 = refl
halves w64 = refl
halves w128 = refl

four : (w : Width) → 4 ≤ 2 ^ hbits w
four w8 = omega arith
four w16 = omega arith
four w32 = omega arith
four w64 = omega arith
four w128 = omega arith

pub wrapped-cast : (w : Width) (z : ℤ) → unsigned_abs z ≤ 2 ^ hbits w → cast_signed w (cast_unsigned w z) ≡ wrapped w z
wrapped-cast w (pos n) h =
    let below : n < 2 ^ bits w = omega (arith, halves w, four w) in
    ap (cast_signed w) (sym (mod-eq_of_lt below))
wrapped-cast w (negsuc n) h =
    let below : n < 2 ^ bits w = omega (arith, halves w, four w) in
    let same : n % 2 ^ bits w ≡ n = mod-eq_of_lt below in
    ap (cast_signed w) (omega arith)

-- ---- sizes

abs-neg : (n : ℕ) → unsigned_abs (neg_ℤ (pos n)) ≡ n
abs-neg zero = refl
abs-neg (suc n) = refl

abs-quot : (a b : ℤ) → unsigned_abs (int_div a b) ≡ unsigned_abs a / unsigned_abs b
abs-quot (pos n) (pos d) = refl
abs-quot (pos n) (negsuc d) = abs-neg (n / suc d)
abs-quot (negsuc n) (pos d) = abs-neg (suc n / d)
abs-quot (negsuc n) (negsuc d) = refl

abs-pred : (z : ℤ) → unsigned_abs (z -ℤ pos 1) ≤ unsigned_abs z + 1
abs-pred (pos zero) = omega arith
abs-pred (pos (suc n)) =
    let less : unsigned_abs (pos (suc n) -ℤ pos 1) ≡ n = ap unsigned_abs (-ℤ_one (pos (suc n))) in
    omega arith
abs-pred (negsuc n) = omega arith

abs-lies : (x b : ℤ) → IsFloorRemainder x b → 0 < unsigned_abs b → unsigned_abs x < unsigned_abs b
abs-lies (pos x) (pos b) l some = let p : (pos 0 ≤ℤ pos x) × (pos x <ℤ pos b) = l.above (omega (arith, ints)) in omega (arith, ints, p.1)
abs-lies (negsuc x) (pos b) l some = let p : (pos 0 ≤ℤ negsuc x) × (negsuc x <ℤ pos b) = l.above (omega (arith, ints)) in absurd (omega (arith, ints, p.0))
abs-lies (pos x) (negsuc b) l some = let p : (negsuc b <ℤ pos x) × (pos x ≤ℤ pos 0) = l.below (omega (arith, ints)) in omega (arith, ints, p.1)
abs-lies (negsuc x) (negsuc b) l some = let p : (negsuc b <ℤ negsuc x) × (negsuc x ≤ℤ pos 0) = l.below (omega (arith, ints)) in omega (arith, ints, p.0)

half-le : (n d : ℕ) → 2 ≤ d → 2 * (n / d) ≤ n
half-le n d two = omega (arith, div-mul-le_self n d, mul-le-mul_left (n / d) two)

cast-below : (w : Width) (z : ℤ) → unsigned_abs z ≤ 2 ^ hbits w → cast_unsigned w z < 2 ^ bits w
cast-below w (pos n) h = omega (arith, halves w, four w)
cast-below w (negsuc n) h = omega (arith, halves w, four w)

abs-above : (b : ℤ) → pos 0 <ℤ b → 0 < unsigned_abs b
abs-above (pos b) up = omega (arith, ints)
abs-above (negsuc b) up = omega arith

abs-below : (b : ℤ) → b <ℤ pos 0 → 0 < unsigned_abs b
abs-below (pos b) down = absurd (omega (arith, ints))
abs-below (negsuc b) down = omega arith

-- ---- a division of which both ways of rounding agree

pub record Keeps (a b : ℤ) : Type 0 where
  pub floor : floor_div a b ≡ int_div a b
  pub lies : IsFloorRemainder (int_rem a b) b
  pub some : 0 < unsigned_abs b

pub Keeps-above : (a b r : ℤ) → r ≡ int_rem a b → pos 0 <ℤ b → pos 0 ≤ℤ r → Keeps a b
Keeps-above a b r e up same =
    let some : 0 < unsigned_abs b = abs-above b up in
    let same' : pos 0 ≤ℤ int_rem a b = subst (λ t. pos 0 ≤ℤ t) e same in
    record { floor = floor_div-above a b up same'; lies = lies-above (int_rem a b) b up same' (rem_below a b some); some = some }

pub Keeps-below : (a b r : ℤ) → r ≡ int_rem a b → b <ℤ pos 0 → r ≤ℤ pos 0 → Keeps a b
Keeps-below a b r e down same =
    let some : 0 < unsigned_abs b = abs-below b down in
    let same' : int_rem a b ≤ℤ pos 0 = subst (λ t. t ≤ℤ pos 0) e same in
    record { floor = floor_div-below a b down same'; lies = lies-below (int_rem a b) b down same' (rem_below a b some); some = some }

-- ---- a division of which rounding down goes one further

pub record GoesDown (a b : ℤ) : Type 0 where
  pub floor : floor_div a b ≡ int_div a b -ℤ pos 1
  pub lies : IsFloorRemainder (int_rem a b +ℤ b) b
  pub rest : 0 < unsigned_abs (int_rem a b)
  pub more : unsigned_abs (int_rem a b) < unsigned_abs b

pub GoesDown-above : (a b r : ℤ) → r ≡ int_rem a b → pos 0 <ℤ b → r <ℤ pos 0 → GoesDown a b
GoesDown-above a b r e up other =
    let other' : int_rem a b <ℤ pos 0 = subst (λ t. t <ℤ pos 0) e other in
    let more : unsigned_abs (int_rem a b) < unsigned_abs b = rem_below a b (abs-above b up) in
    record { floor = floor_div-above_down a b up other'; lies = lies-above_down (int_rem a b) b up other' more; rest = abs-below (int_rem a b) other'; more = more }

pub GoesDown-below : (a b r : ℤ) → r ≡ int_rem a b → b <ℤ pos 0 → pos 0 <ℤ r → GoesDown a b
GoesDown-below a b r e down other =
    let other' : pos 0 <ℤ int_rem a b = subst (λ t. pos 0 <ℤ t) e other in
    let more : unsigned_abs (int_rem a b) < unsigned_abs b = rem_below a b (abs-below b down) in
    record { floor = floor_div-below_down a b down other'; lies = lies-below_down (int_rem a b) b down other' more; rest = abs-above (int_rem a b) other'; more = more }

-- ---- the code's answers at the width w, whose numbers q and r are those of its own division

module _ (w : Width) (a b : ℤ) (fa : FitsSigned w a) (fb : FitsSigned w b) where
  -- what the code's division answers, of numbers that it passed as their bits
  pub quot_read : {q : ℤ} → q ≡ int_wrapping_div w (cast_signed w (cast_unsigned w a)) (cast_signed w (cast_unsigned w b)) → q ≡ int_wrapping_div w a b
  quot_read {q} e =
      e ∙ ap (λ t. int_wrapping_div w t (cast_signed w (cast_unsigned w b))) (to_z-of_z w a fa) ∙ ap (λ t. int_wrapping_div w a t) (to_z-of_z w b fb)

  pub rem_read : {r : ℤ} → r ≡ int_rem (cast_signed w (cast_unsigned w a)) (cast_signed w (cast_unsigned w b)) → r ≡ int_rem a b
  rem_read {r} e =
      e ∙ ap (λ t. int_rem t (cast_signed w (cast_unsigned w b))) (to_z-of_z w a fa) ∙ ap (λ t. int_rem a t) (to_z-of_z w b fb)

  size_a : unsigned_abs a ≤ 2 ^ hbits w
  size_a = nat_abs-le a fa.sfits

  size_b : unsigned_abs b ≤ 2 ^ hbits w
  size_b = nat_abs-le b fb.sfits

  quot_size : unsigned_abs (int_div a b) ≤ 2 ^ hbits w
  quot_size = omega (arith, size_a, abs-quot a b, div-le_self (unsigned_abs a) (unsigned_abs b))

  pub kept_quotient : (q : ℤ) → q ≡ int_wrapping_div w a b → Keeps a b → cast_signed w (cast_unsigned w q) ≡ wrapped w (floor_div a b)
  kept_quotient q e k =
      ap (λ t. cast_signed w (cast_unsigned w t)) e
      ∙ ap (cast_signed w) (of_z-to_z w (cast_unsigned w (int_div a b)) (cast-below w (int_div a b) quot_size))
      ∙ wrapped-cast w (int_div a b) quot_size ∙ ap (wrapped w) (sym k.floor)

  rem_fits : 0 < unsigned_abs b → FitsSigned w (int_rem a b)
  rem_fits some = fits_signed_from_abs w (int_rem a b) (omega (arith, size_b, rem_below a b some))

  kept : (r : ℤ) → r ≡ int_rem a b → 0 < unsigned_abs b → cast_signed w (cast_unsigned w r) ≡ int_rem a b
  kept r e some = ap (λ t. cast_signed w (cast_unsigned w t)) e ∙ to_z-of_z w (int_rem a b) (rem_fits some)

  pub kept_remainder : (r : ℤ) → r ≡ int_rem a b → Keeps a b → cast_signed w (cast_unsigned w r) ≡ floor_mod a b
  kept_remainder r e k = kept r e k.some ∙ sym (floor_mod-same a b k.floor)

  pub kept_sign : (r : ℤ) → r ≡ int_rem a b → Keeps a b → IsFloorRemainder (cast_signed w (cast_unsigned w r)) b
  kept_sign r e k = subst (λ t. IsFloorRemainder t b) (sym (kept r e k.some)) k.lies

  half_size : GoesDown a b → 2 * unsigned_abs (int_div a b) ≤ 2 ^ hbits w
  half_size g =
      omega (arith, size_a, abs-quot a b, half-le (unsigned_abs a) (unsigned_abs b) (omega (arith, g.rest, g.more)))

  quot_fits : GoesDown a b → FitsSigned w (int_div a b)
  quot_fits g = fits_signed_from_abs w (int_div a b) (omega (arith, half_size g, four w))

  pred_size : GoesDown a b → unsigned_abs (int_div a b -ℤ pos 1) < 2 ^ hbits w
  pred_size g = omega (arith, half_size g, four w, abs-pred (int_div a b))

  own : (q : ℤ) → q ≡ int_wrapping_div w a b → GoesDown a b → cast_signed w (cast_unsigned w q) ≡ int_div a b
  own q e g =
      ap (λ t. cast_signed w (cast_unsigned w t)) (e ∙ to_z-of_z w (int_div a b) (quot_fits g)) ∙ to_z-of_z w (int_div a b) (quot_fits g)

  pub down_fits : (q : ℤ) → q ≡ int_wrapping_div w a b → GoesDown a b → FitsSigned w (cast_signed w (cast_unsigned w q) -ℤ pos 1)
  down_fits q e g =
      subst (λ t. FitsSigned w (t -ℤ pos 1)) (sym (own q e g)) (fits_signed_from_abs w (int_div a b -ℤ pos 1) (pred_size g))

  pub down_quotient : (q : ℤ) → q ≡ int_wrapping_div w a b → GoesDown a b → cast_signed w (cast_unsigned w (cast_signed w (cast_unsigned w q) -ℤ pos 1)) ≡ wrapped w (floor_div a b)
  down_quotient q e g =
      ap (λ t. cast_signed w (cast_unsigned w (t -ℤ pos 1))) (own q e g)
      ∙ wrapped-cast w (int_div a b -ℤ pos 1) (omega (arith, pred_size g)) ∙ ap (wrapped w) (sym g.floor)

  sum_fits : GoesDown a b → FitsSigned w (int_rem a b +ℤ b)
  sum_fits g = fits_signed_from_abs w (int_rem a b +ℤ b) (omega (arith, size_b, abs-lies (int_rem a b +ℤ b) b g.lies (omega (arith, g.more))))

  summed : (r : ℤ) → r ≡ int_rem a b → GoesDown a b → cast_signed w (cast_unsigned w r) +ℤ cast_signed w (cast_unsigned w b) ≡ int_rem a b +ℤ b
  summed r e g =
      ap (λ t. t +ℤ cast_signed w (cast_unsigned w b)) (kept r e (omega (arith, g.more)))
      ∙ ap (λ t. int_rem a b +ℤ t) (to_z-of_z w b fb)

  pub down_sum_fits : (r : ℤ) → r ≡ int_rem a b → GoesDown a b → FitsSigned w (cast_signed w (cast_unsigned w r) +ℤ cast_signed w (cast_unsigned w b))
  down_sum_fits r e g = subst (FitsSigned w) (sym (summed r e g)) (sum_fits g)

  down : (r : ℤ) → r ≡ int_rem a b → GoesDown a b → cast_signed w (cast_unsigned w (cast_signed w (cast_unsigned w r) +ℤ cast_signed w (cast_unsigned w b))) ≡ int_rem a b +ℤ b
  down r e g = ap (λ t. cast_signed w (cast_unsigned w t)) (summed r e g) ∙ to_z-of_z w (int_rem a b +ℤ b) (sum_fits g)

  pub down_remainder : (r : ℤ) → r ≡ int_rem a b → GoesDown a b → cast_signed w (cast_unsigned w (cast_signed w (cast_unsigned w r) +ℤ cast_signed w (cast_unsigned w b))) ≡ floor_mod a b
  down_remainder r e g = down r e g ∙ sym (floor_mod-down a b g.floor)

  pub down_sign : (r : ℤ) → r ≡ int_rem a b → GoesDown a b → IsFloorRemainder (cast_signed w (cast_unsigned w (cast_signed w (cast_unsigned w r) +ℤ cast_signed w (cast_unsigned w b)))) b
  down_sign r e g = subst (λ t. IsFloorRemainder t b) (sym (down r e g)) g.lies
