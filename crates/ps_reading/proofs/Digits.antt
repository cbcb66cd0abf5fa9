-- The number of a text that is digits alone.
use Rattle.std.proofs.Common.{◌≡◌, ◌≢◌, ℕ, ◌+◌, ◌-◌, ◌*◌, ◌^◌, ◌<◌, ◌≤◌, true, false, List, [], ◌++◌, length, take, get_or, Some, refl, sym, ap, subst, ◌∙◌, arith, append-nil, take_all, length-take, lt-ltb, ne_eqb}
use Rattle.std.proofs.lemmas.Int.Digits.{digits_more, digits_value_more}
use Rattle.std.proofs.lemmas.Str.{digit_value_digit}
use Rattle.std.proofs.lemmas.Str.Parse.{digit_at, digit_from_value, digits_value_short, numerals_by_value, tells_digits}
use Rattle.std.specs.Char.{digit_value}
use Rattle.std.specs.Str.Parse.{AllDigits, digits_value}
use Rattle.fast_float.specs.Text.{IsWellFormed, Parts, digits_of, scan}
use Rattle.fast_float.proofs.Writing.{scan-text_of}
use Rattle.serde_json.specs.Data.{unsigned}
use Rattle.serde_json.specs.Read.{is_integer, number_from, number_of}
use Rattle.ps_reading.proofs.Numerals.{number_of-no_minus}

-- the numeral of digits alone
abbrev alone : List ℕ → Parts
alone ds = record { whole = ds; point = false; fraction = []; exponent_negative = false; exponent = []; len = length (ds ++ []) }

scan-digits : (ds : List ℕ) → AllDigits 10 ds → scan ds ≡ alone ds
scan-digits ds digits =
    let formed : IsWellFormed (alone ds) = record { whole_digits = digits; fraction_digits = tt; exponent_digits = tt; no_point = λ _. refl; no_exponent = λ _. refl; len_is = refl } in
    ap scan (sym (append-nil ds)) ∙ scan-text_of (alone ds) formed

number_from-digits : (ds : List ℕ) → 0 < length ds → digits_value 10 ds < 2 ^ 64 → number_from false (alone ds) ≡ Some (unsigned (digits_value 10 ds))
number_from-digits ds some small =
    let whole : is_integer (alone ds) ≡ true = rw (lt-ltb _ _ some) in
    let value : digits_of (alone ds) ≡ digits_value 10 ds = ap (digits_value 10) (append-nil ds) in
    rw (whole, value) (rw (lt-ltb _ _ small))

not_minus : (ds : List ℕ) → AllDigits 10 ds → 0 < length ds → get_or ds 0 0 ≢ 45
not_minus ds digits some e = omega (arith, digit_at ds 0 digits some)

number_of-digits : (ds : List ℕ) → AllDigits 10 ds → 0 < length ds → digits_value 10 ds < 2 ^ 64 → number_of ds ≡ Some (unsigned (digits_value 10 ds))
number_of-digits ds digits some small =
    number_of-no_minus ds (sym (ne_eqb (get_or ds 0 0) 45 (not_minus ds digits some))) ∙ ap (number_from false) (scan-digits ds digits) ∙ number_from-digits ds some small

-- few digits write a small number
pub digits-short : (bs : List ℕ) (i n k : ℕ) → AllDigits 10 (take i bs) → n ≡ digits_value 10 (take i bs) → length (take i bs) ≤ k → n < 10 ^ k
digits-short bs i n k digits is short = omega (arith, digits_value_short (numerals_by_value _ tells_digits) (take i bs) k digits short)

-- one more digit
pub digits-more : (bs : List ℕ) (i n d : ℕ) → i < length bs → AllDigits 10 (take i bs) → n ≡ digits_value 10 (take i bs) → digit_value (get_or bs i 0) < 10 → d ≡ get_or bs i 0 - 48
    → AllDigits 10 (take (i + 1) bs) × (n * 10 + d ≡ digits_value 10 (take (i + 1) bs))
digits-more bs i n d within digits is digit told =
    let byte = digit_value_digit (get_or bs i 0) (digit_from_value (get_or bs i 0) digit) in
    let more = digits_value_more 10 bs i within in
    (digits_more 10 bs i within digits digit, omega arith)

-- after the last of them
pub digits-some : (bs : List ℕ) (i n : ℕ) → 0 < length bs → length bs ≤ 18 → length bs ≤ i → AllDigits 10 (take i bs) → n ≡ digits_value 10 (take i bs) → number_of bs ≡ Some (unsigned n)
digits-some bs i n some short past digits is =
    let all : take i bs ≡ bs = take_all i bs past in
    let every : AllDigits 10 bs = subst (AllDigits 10) all digits in
    let value : n ≡ digits_value 10 bs = is ∙ ap (digits_value 10) all in
    let small = digits-short bs i n 18 digits is (omega (arith, length-take i bs)) in
    number_of-digits bs every some (omega arith) ∙ ap (λ m. Some (unsigned m)) (sym value)
