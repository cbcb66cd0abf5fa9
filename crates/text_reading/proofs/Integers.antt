-- Integers: what `parse` says of digits, and which tokens are an integer.
use Rattle.std.proofs.Common.{◌≡◌, ℕ, ◌<◌, ◌≤◌, ◌^◌, List, [], ◌∷◌, ◌++◌, length, sym, refl, ap, ◌∙◌, subst, arith, rules}
use Rattle.std.specs.Prelude.{ℤ, pos, neg_ℤ, Result, Ok, Err, IsTrue, IfNone, FitsSigned}
use Rattle.std.specs.Char.{is_ascii_digit}
use Rattle.std.specs.List.{list_all}
use Rattle.std.specs.Result.{result_ok}
use Rattle.std.specs.Str.Parse.{ParsesUnsigned, digits_value}
use Rattle.std.proofs.lemmas.Bool.{false≢true}
use Rattle.std.proofs.lemmas.Int.{ints, to_z-of_z}
use Rattle.std.proofs.lemmas.Str.Parse.{IsNumeralModel, numerals_by_value, parse_digits}
use Rattle.text_queries.specs.Grammar.{IsInteger, number}
use Rattle.text_tokens.specs.Runs.{begins}
use Rattle.text_tokens.specs.Tokens.{IsToken}
use Rattle.text_tokens.specs.declared.token.Sign.TheVariants as sign
use Rattle.text_tokens.specs.declared.token.Token.{Token}
use Rattle.text_tokens.specs.declared.token.Token.TheVariants as token
use mir.Syntax.{w64}
use mir.Val.{of_z, to_z}

numerals : IsNumeralModel (λ ds. IsTrue (list_all is_ascii_digit ds)) (digits_value 10)
numerals = numerals_by_value _ (search rules)

begun : (word : List ℕ) → IsTrue (begins is_ascii_digit word) → 0 < length word
begun [] h = absurd (false≢true h)
begun (b ∷ bs) h = omega arith

-- digits that `parse` refuses write a number that is too large
pub too_large : {E : Type 0} (word : List ℕ) (r : Result ℕ E) → ParsesUnsigned 64 10 word r → IfNone (result_ok r) (IsToken (token.Digits word) → 2 ^ 64 ≤ number word)
too_large word (Ok n) h = tt
too_large word (Err e) h = λ is. let refused = parse_digits numerals 64 word (Err e) h is.1 in let some = begun word is.0 in grind (arith, refused, some)

-- the two forms of an integer
pub data IntegerForm (ts : List Token) (n : ℤ) : Type 0 where
  plain : (digits : List ℕ) → ts ≡ token.Digits digits ∷ [] → IsToken (token.Digits digits) → n ≡ pos (number digits) → number digits < 2 ^ 63 → IntegerForm ts n
  minus : (digits : List ℕ) → ts ≡ token.Sign sign.Minus ∷ token.Digits digits ∷ [] → IsToken (token.Digits digits) → n ≡ neg_ℤ (pos (number digits)) → number digits ≤ 2 ^ 63 → IntegerForm ts n

pub integer_form : (ts : List Token) (n : ℤ) → IsInteger ts n → IntegerForm ts n
integer_form (token.Digits digits ∷ []) n h = plain digits refl h.0 h.1 h.2
integer_form (token.Sign sign.Minus ∷ token.Digits digits ∷ []) n h = minus digits refl h.0 h.1 h.2
integer_form _ n h = absurd h

fits_of : (ts : List Token) (n : ℤ) → IntegerForm ts n → FitsSigned w64 n
fits_of ts n (plain digits is well n_is low) = subst (FitsSigned w64) (sym n_is) (let f : FitsSigned w64 (pos (number digits)) = omega (arith, ints) in f)
fits_of ts n (minus digits is well n_is low) = subst (FitsSigned w64) (sym n_is) (let f : FitsSigned w64 (neg_ℤ (pos (number digits))) = omega (arith, ints) in f)

-- 64 bits hold an integer
pub bits_integer : (ts : List Token) (n : ℤ) → IsInteger ts n → to_z w64 (of_z w64 n) ≡ n
bits_integer ts n h = to_z-of_z w64 n (fits_of ts n (integer_form ts n h))

-- where digits begin the tokens
pub plain_only : (tokens : List Token) (text : List ℕ) (rest front after : List Token) (n : ℤ) → tokens ≡ token.Digits text ∷ rest → tokens ≡ front ++ after → IsInteger front n → IsToken (token.Digits text) × (n ≡ pos (number text)) × (number text < 2 ^ 63) × (rest ≡ after)
plain_only tokens text rest front after n begins is h = of (integer_form front n h)
  where
    of : IntegerForm front n → IsToken (token.Digits text) × (n ≡ pos (number text)) × (number text < 2 ^ 63) × (rest ≡ after)
    of (plain own front_is well n_is low) =
        let all : token.Digits text ∷ rest ≡ token.Digits own ∷ after = sym begins ∙ is ∙ ap (λ f. f ++ after) front_is in
        let first : token.Digits text ≡ token.Digits own = cc in
        let same : own ≡ text = cc in
        let behind : rest ≡ after = cc in
        (subst (λ d. IsToken (token.Digits d)) same well, n_is ∙ ap (λ d. pos (number d)) same, subst (λ d. number d < 2 ^ 63) same low, behind)
    of (minus own front_is well n_is low) =
        let all : token.Digits text ∷ rest ≡ token.Sign sign.Minus ∷ token.Digits own ∷ after = sym begins ∙ is ∙ ap (λ f. f ++ after) front_is in
        absurd (let first : token.Digits text ≡ token.Sign sign.Minus = cc in cc)

-- where a minus and digits begin them
pub minus_only : (tokens behind : List Token) (text : List ℕ) (rest front after : List Token) (n : ℤ) → tokens ≡ token.Sign sign.Minus ∷ behind → behind ≡ token.Digits text ∷ rest → tokens ≡ front ++ after → IsInteger front n
    → IsToken (token.Digits text) × (n ≡ neg_ℤ (pos (number text))) × (number text ≤ 2 ^ 63) × (rest ≡ after)
minus_only tokens behind text rest front after n begins goes is h = of (integer_form front n h)
  where
    of : IntegerForm front n → IsToken (token.Digits text) × (n ≡ neg_ℤ (pos (number text))) × (number text ≤ 2 ^ 63) × (rest ≡ after)
    of (plain own front_is well n_is low) =
        let all : token.Sign sign.Minus ∷ behind ≡ token.Digits own ∷ after = sym begins ∙ is ∙ ap (λ f. f ++ after) front_is in
        absurd (let first : token.Sign sign.Minus ≡ token.Digits own = cc in cc)
    of (minus own front_is well n_is low) =
        let all : token.Sign sign.Minus ∷ behind ≡ token.Sign sign.Minus ∷ token.Digits own ∷ after = sym begins ∙ is ∙ ap (λ f. f ++ after) front_is in
        let others : token.Digits text ∷ rest ≡ token.Digits own ∷ after = sym goes ∙ (let tail : behind ≡ token.Digits own ∷ after = cc in tail) in
        let first : token.Digits text ≡ token.Digits own = cc in
        let same : own ≡ text = cc in
        let left : rest ≡ after = cc in
        (subst (λ d. IsToken (token.Digits d)) same well, n_is ∙ ap (λ d. neg_ℤ (pos (number d))) same, subst (λ d. number d ≤ 2 ^ 63) same low, left)

-- what the reader answers where digits begin the tokens
pub plain_found : (tokens : List Token) (digits text : List ℕ) (rest : List Token) (n : ℤ) → tokens ≡ token.Digits digits ∷ rest → text ≡ digits → IsInteger (token.Digits text ∷ []) n → (front : List Token) × (tokens ≡ front ++ rest) × IsInteger front (to_z w64 (of_z w64 n))
plain_found tokens digits text rest n begins same h =
    (token.Digits text ∷ [], begins ∙ ap (λ d. token.Digits d ∷ rest) (sym same), subst (IsInteger (token.Digits text ∷ [])) (sym (bits_integer (token.Digits text ∷ []) n h)) h)

pub plain_reads : (tokens : List Token) (digits text : List ℕ) (rest : List Token) (n : ℤ) → tokens ≡ token.Digits digits ∷ rest → text ≡ digits → IsInteger (token.Digits text ∷ []) n
    → (front after : List Token) (part : ℤ) → tokens ≡ front ++ after → IsInteger front part → (to_z w64 (of_z w64 n) ≡ part) × (rest ≡ after)
plain_reads tokens digits text rest n begins same h front after part is p =
    let only = plain_only tokens text rest front after part (begins ∙ ap (λ d. token.Digits d ∷ rest) (sym same)) is p in
    (bits_integer (token.Digits text ∷ []) n h ∙ h.1 ∙ sym only.1, only.3)

-- and where a minus and digits do
pub minus_found : (tokens behind : List Token) (digits text : List ℕ) (rest : List Token) (n : ℤ) → tokens ≡ token.Sign sign.Minus ∷ behind → behind ≡ token.Digits digits ∷ rest → text ≡ digits → IsToken (token.Digits text) × (n ≡ neg_ℤ (pos (number text))) × (number text ≤ 2 ^ 63)
    → (front : List Token) × (tokens ≡ front ++ rest) × IsInteger front (to_z w64 (of_z w64 n))
minus_found tokens behind digits text rest n begins goes same h =
    let all : List Token = token.Sign sign.Minus ∷ token.Digits text ∷ [] in
    (all, begins ∙ ap (λ ts. token.Sign sign.Minus ∷ ts) (goes ∙ ap (λ d. token.Digits d ∷ rest) (sym same)), subst (IsInteger all) (sym (bits_integer all n h)) h)

pub minus_reads : (tokens behind : List Token) (digits text : List ℕ) (rest : List Token) (n : ℤ) → tokens ≡ token.Sign sign.Minus ∷ behind → behind ≡ token.Digits digits ∷ rest → text ≡ digits → IsToken (token.Digits text) × (n ≡ neg_ℤ (pos (number text))) × (number text ≤ 2 ^ 63)
    → (front after : List Token) (part : ℤ) → tokens ≡ front ++ after → IsInteger front part → (to_z w64 (of_z w64 n) ≡ part) × (rest ≡ after)
minus_reads tokens behind digits text rest n begins goes same h front after part is p =
    let only = minus_only tokens behind text rest front after part begins (goes ∙ ap (λ d. token.Digits d ∷ rest) (sym same)) is p in
    (bits_integer (token.Sign sign.Minus ∷ token.Digits text ∷ []) n h ∙ h.1 ∙ sym only.1, only.3)
