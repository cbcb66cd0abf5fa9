-- Numbers need no quotes.
use Rattle.std.proofs.Common.{◌≡◌, ℕ, suc, ◌^◌, ◌<◌, ℤ, pos, negsuc, List, [], ◌∷◌, false, decimal, FitsSigned, refl, arith, ne_eqb, w64}
use Rattle.std.proofs.lemmas.Fmt.{decimal_is_IsNumeral}
use Rattle.std.proofs.lemmas.Str.Parse.{digit_from_value}
use Rattle.std.specs.Fmt.{signed_decimal}
use Rattle.std.specs.Str.Parse.{AllDigits}
use Rattle.csv.specs.Writing.{default_writer, needs_quotes}

plain-digits : (ds : List ℕ) → AllDigits 10 ds → needs_quotes default_writer ds ≡ false
plain-digits [] digits = refl
plain-digits (c ∷ cs) digits =
    let r = digit_from_value c digits.0 in
    rw (ne_eqb c 44 (λ e. omega arith), ne_eqb c 34 (λ e. omega arith), ne_eqb c 13 (λ e. omega arith), ne_eqb c 10 (λ e. omega arith), plain-digits cs digits.1)

pub plain-decimal : (n : ℕ) → n < 2 ^ 64 → needs_quotes default_writer (decimal n) ≡ false
plain-decimal n h = plain-digits (decimal n) (decimal_is_IsNumeral n h).0.1

pub plain-signed : (z : ℤ) → FitsSigned w64 z → needs_quotes default_writer (signed_decimal z) ≡ false
plain-signed (pos n) h = plain-decimal n (omega (arith, h.sfits))
plain-signed (negsuc n) h = plain-decimal (suc n) (omega (arith, h.sfits))
