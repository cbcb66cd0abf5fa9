-- Written numbers are digits, and read as the numbers.
use Rattle.std.proofs.Common.{◌≡◌, ℕ, suc, ◌<◌, ◌^◌, ℤ, pos, negsuc, neg_ℤ, FitsSigned, List, [], ◌∷◌, length, sym, ap, arith, rules}
use Rattle.std.specs.Prelude.{IsTrue}
use Rattle.std.specs.Char.{is_ascii_digit}
use Rattle.std.specs.Fmt.{decimal}
use Rattle.std.specs.Int.{w64}
use Rattle.std.specs.List.{list_all}
use Rattle.std.specs.Str.Parse.{digits_value}
use Rattle.std.proofs.lemmas.Bool.{and_parts}
use Rattle.std.proofs.lemmas.Fmt.{decimal_nonempty, digits_decimal, digits_value-decimal}
use Rattle.std.proofs.lemmas.Str.Parse.{IsNumeralModel, numerals_by_value}
use Rattle.text_queries.specs.Grammar.{IsInteger, number}
use Rattle.text_queries.specs.Writing.{integer_tokens}
use Rattle.text_tokens.specs.Runs.{begins}
use Rattle.text_tokens.specs.Tokens.{IsToken}
use Rattle.text_tokens.specs.declared.token.Token.TheVariants as token

numerals : IsNumeralModel (λ ds. IsTrue (list_all is_ascii_digit ds)) (digits_value 10)
numerals = numerals_by_value _ (search rules)

begins_digits : (ds : List ℕ) → 0 < length ds → IsTrue (list_all is_ascii_digit ds) → IsTrue (begins is_ascii_digit ds)
begins_digits [] some all = absurd (omega (arith, some))
begins_digits (d ∷ ds) some all = (and_parts (is_ascii_digit d) (list_all is_ascii_digit ds) all).0

pub decimal_token : (n : ℕ) → n < 2 ^ 64 → IsToken (token.Digits (decimal n))
decimal_token n small =
    let all : IsTrue (list_all is_ascii_digit (decimal n)) = digits_decimal numerals n small in
    (begins_digits (decimal n) (decimal_nonempty n small) all, all)

pub number-decimal : (n : ℕ) → n < 2 ^ 64 → number (decimal n) ≡ n
number-decimal n small = digits_value-decimal numerals n small

pub integer_reads : (n : ℤ) → FitsSigned w64 n → IsInteger (integer_tokens n) n
integer_reads (pos n) fits =
    let below : n < 2 ^ 63 = fits.sfits in
    let back : number (decimal n) ≡ n = number-decimal n (omega arith) in
    (decimal_token n (omega arith), ap pos (sym back), omega arith)
integer_reads (negsuc n) fits =
    let below : n < 2 ^ 63 = fits.sfits in
    let back : number (decimal (suc n)) ≡ suc n = number-decimal (suc n) (omega arith) in
    (decimal_token (suc n) (omega arith), ap (λ m. neg_ℤ (pos m)) (sym back), omega arith)
