-- What `parse` says of a numeral that it refuses.
use Rattle.std.proofs.Common.{ℕ, List, ◌≤◌, ◌^◌, arith, rules}
use Rattle.std.specs.Prelude.{Result, Ok, Err, IsTrue, IfNone}
use Rattle.std.specs.Char.{is_ascii_digit}
use Rattle.std.specs.List.{list_all}
use Rattle.std.specs.Result.{result_ok}
use Rattle.std.specs.Str.Parse.{ParsesUnsigned, digits_value}
use Rattle.std.proofs.lemmas.Str.Parse.{IsNumeralModel, numerals_by_value, parse_digits}
use Rattle.tool_words.specs.Words.{IsNumeral, number_of}

digits : IsNumeralModel (λ ds. IsTrue (list_all is_ascii_digit ds)) (digits_value 10)
digits = numerals_by_value _ (search rules)

pub too-large : {E : Type 0} (word : List ℕ) (r : Result ℕ E) → ParsesUnsigned 64 10 word r → IfNone (result_ok r) (IsNumeral word → 2 ^ 64 ≤ number_of word)
too-large word (Ok n) h = tt
too-large word (Err e) h = λ n. let no = parse_digits digits 64 word (Err e) h n.0 in grind (arith, no, n)
