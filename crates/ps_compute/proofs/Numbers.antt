-- Division that rounds down, as it is defined here and as it is computed.
use Rattle.std.proofs.Common.{◌≡◌, ◌≢◌, ℕ, suc, ◌/◌, ◌^◌, ℤ, pos, negsuc, neg_ℤ, ◌-ℤ◌, ◌*ℤ◌, unsigned_abs, FitsSigned, refl, sym, ◌∙◌, ap, subst, arith}
use Rattle.std.specs.Int.{cast_signed, cast_unsigned, div_ceil, int_rem_euclid, int_wrap, w64}
use Rattle.std.proofs.lemmas.Int.{SFits-int_wrap, int_wrap_fits, to_z-of_z}
use Rattle.pu_num.specs.Floor.{floor_div as rounded_quotient, floor_mod as rounded_remainder}
use Rattle.ps_frame.specs.Operators.{floor_div, floor_mod}

ceil-suc : (a b : ℕ) → b ≢ 0 → div_ceil (suc a) b ≡ suc (a / b)
ceil-suc a b h = grind arith

-- both definitions of a quotient rounded down agree
same-quotient : (a b : ℤ) → b ≢ pos 0 → rounded_quotient a b ≡ floor_div a b
same-quotient (pos a) (pos b) h = refl
same-quotient (pos a) (negsuc b) h = refl
same-quotient (negsuc a) (pos b) h = ap (λ n. neg_ℤ (pos n)) (ceil-suc a b (λ e. h (ap pos e)))
same-quotient (negsuc a) (negsuc b) h = refl

same-remainder : (a b : ℤ) → b ≢ pos 0 → rounded_remainder a b ≡ floor_mod a b
same-remainder a b h = ap (λ q. a -ℤ (b *ℤ q)) (same-quotient a b h)

-- what the division answers of numbers that were passed as their bits
passed : {A : Type 0} (a b : ℤ) (r : A) (f : ℤ → ℤ → A) → FitsSigned w64 a → FitsSigned w64 b → b ≢ pos 0
    → (cast_signed w64 (cast_unsigned w64 b) ≢ pos 0 → r ≡ f (cast_signed w64 (cast_unsigned w64 a)) (cast_signed w64 (cast_unsigned w64 b)))
    → r ≡ f a b
passed a b r f g h some is =
    let ea = to_z-of_z w64 a g in
    let eb = to_z-of_z w64 b h in
    is (λ e. some (sym eb ∙ e)) ∙ ap (λ x. f x (cast_signed w64 (cast_unsigned w64 b))) ea ∙ ap (f a) eb

pub quotient-is : (a b r : ℤ) → FitsSigned w64 a → FitsSigned w64 b → b ≢ pos 0
    → (cast_signed w64 (cast_unsigned w64 b) ≢ pos 0
    → r ≡ cast_signed w64 (unsigned_abs (int_rem_euclid (rounded_quotient (cast_signed w64 (cast_unsigned w64 a)) (cast_signed w64 (cast_unsigned w64 b))) (pos (2 ^ 64)))))
    → cast_signed w64 (cast_unsigned w64 r) ≡ int_wrap w64 (floor_div a b)
unfolding int_wrap
quotient-is a b r g h some is =
    let e : r ≡ int_wrap w64 (rounded_quotient a b) = passed a b r (λ x y. cast_signed w64 (unsigned_abs (int_rem_euclid (rounded_quotient x y) (pos (2 ^ 64))))) g h some is in
    let fits : FitsSigned w64 r = subst (FitsSigned w64) (sym e) (SFits-int_wrap w64 (rounded_quotient a b)) in
    to_z-of_z w64 r fits ∙ e ∙ ap (int_wrap w64) (same-quotient a b some)

pub remainder-is : (a b r : ℤ) → FitsSigned w64 a → FitsSigned w64 b → FitsSigned w64 r → b ≢ pos 0
    → (cast_signed w64 (cast_unsigned w64 b) ≢ pos 0 → r ≡ rounded_remainder (cast_signed w64 (cast_unsigned w64 a)) (cast_signed w64 (cast_unsigned w64 b)))
    → cast_signed w64 (cast_unsigned w64 r) ≡ int_wrap w64 (floor_mod a b)
remainder-is a b r g h fits some is =
    let e : r ≡ floor_mod a b = passed a b r rounded_remainder g h some is ∙ same-remainder a b some in
    to_z-of_z w64 r fits ∙ sym (int_wrap_fits w64 r fits) ∙ ap (int_wrap w64) e
