use Rattle.std.proofs.Common.{◌≡◌, ◌^◌, ◌<◌, [], ◌∷◌, ℕ, refl, arith, lit<}
use Rattle.std.specs.Prelude.{codes, decimal}
use Rattle.std.specs.Str.Parse.{digits_value}
use Rattle.std.specs.Fmt.{digits}
use Rattle.ps_rules.proofs.Free.{written_so}
use Rattle.ps_rules.proofs.examples.temporary_names.Goals as goal

not_shorter : (x y : ℕ) → x ∷ y ∷ [] ≡ y ∷ [] → ⊥
not_shorter x y w = cc

not_empty : (x : ℕ) → [] ≡ x ∷ [] → ⊥
not_empty x w = cc

pub returns-clause-one_digit : goal.returns-clause-one_digit
unfolding digits
returns-clause-one_digit c = (lit< tt, refl)

pub returns-clause-two_digits : goal.returns-clause-two_digits
unfolding digits
returns-clause-two_digits c = (lit< tt, refl)

pub returns-clause-zero : goal.returns-clause-zero
unfolding digits
returns-clause-zero c = (lit< tt, refl)

-- the digits would be written otherwise, here and in the next one
pub returns-clause-no_leading_zero : goal.returns-clause-no_leading_zero
unfolding digits
returns-clause-no_leading_zero c k t = not_shorter 48 55 (written_so (48 ∷ 55 ∷ []) k t).1

pub returns-clause-no_sign : goal.returns-clause-no_sign
unfolding digits
returns-clause-no_sign c k t = let w : 43 ∷ 55 ∷ [] ≡ decimal (digits_value 10 (43 ∷ 55 ∷ [])) = (written_so (43 ∷ 55 ∷ []) k t).1 in cc

pub returns-clause-some_digit : goal.returns-clause-some_digit
unfolding digits
returns-clause-some_digit c k t = not_empty 48 (written_so [] k t).1

pub returns-clause-greatest : goal.returns-clause-greatest
unfolding digits
returns-clause-greatest c = (lit< tt, refl)

-- the number is too large
pub returns-clause-past_the_counter : goal.returns-clause-past_the_counter
returns-clause-past_the_counter c k t =
    let w : k ≡ 18446744073709551616 = (written_so (codes "18446744073709551616") k t).0 in
    let lt : k < 2 ^ 64 = t.0 in
    absurd (omega arith)
