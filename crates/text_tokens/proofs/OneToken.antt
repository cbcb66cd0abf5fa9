-- A text begins with one token.
use Rattle.std.proofs.Common.{◌≡◌, ℕ, ◌<◌, ◌≤◌, ◌+◌, Bool, true, false, cond, ◌||◌, eqb, Option, Some, None, List, [], ◌∷◌, ◌++◌, length, sym, refl, ap, ◌∙◌, ⊎_elim, arith, append_assoc, length-append}
use Rattle.std.specs.Prelude.{◌≢◌, IsTrue}
use Rattle.std.specs.Char.{is_ascii_digit, is_ascii_lowercase}
use Rattle.std.specs.List.{list_all}
use Rattle.std.proofs.lemmas.Bool.{false≢true, cond-true, cond-false, and_parts, or_cases, leb-true, eqb-true, false_from_ne_true}
use Rattle.text_tokens.specs.Runs.{begins, is_blank, is_letter, is_word_byte}
use Rattle.text_tokens.specs.Quotes.{doubled, IsQuoted}
use Rattle.text_tokens.specs.Tokens.{BeginsWith, IsToken, sign_spelling, spelling, goes_on, quoted}
use Rattle.text_tokens.specs.declared.token.Token.{Token}
use Rattle.text_tokens.specs.declared.token.Token.TheVariants.{Word, Digits, Name, Text, Sign}
use Rattle.text_tokens.specs.declared.token.Sign as signs
use Rattle.text_tokens.specs.declared.token.Sign.TheVariants.{Bar, Comma, Is, Equal, NotEqual, AtMost, AtLeast, Below, Above, Plus, Minus, Times, Over, Modulo, Open, Close}
use Rattle.text_tokens.proofs.FrontRuns.{letter_no_digit, run_once}
use Rattle.text_tokens.proofs.Quoting.{quoted_once}
use Rattle.text_tokens.proofs.SignReading.{found_sign, found_at}

-- which kind of token a byte begins
abbrev kind_of : ℕ → ℕ
kind_of b = cond (is_letter b) 0 (cond (is_ascii_digit b) 1 (cond (eqb b 34) 2 (cond (eqb b 39) 3 4)))

abbrev front_kind : List ℕ → ℕ
front_kind [] = 5
front_kind (b ∷ bs) = kind_of b

abbrev kind : Token → ℕ
kind (Word v) = 0
kind (Digits v) = 1
kind (Name v) = 2
kind (Text v) = 3
kind (Sign v) = 4

sign_kind : (sign : signs.Sign) (after : List ℕ) → front_kind (sign_spelling sign ++ after) ≡ 4
sign_kind Bar after = refl
sign_kind Comma after = refl
sign_kind Is after = refl
sign_kind Equal after = refl
sign_kind NotEqual after = refl
sign_kind AtMost after = refl
sign_kind AtLeast after = refl
sign_kind Below after = refl
sign_kind Above after = refl
sign_kind Plus after = refl
sign_kind Minus after = refl
sign_kind Times after = refl
sign_kind Over after = refl
sign_kind Modulo after = refl
sign_kind Open after = refl
sign_kind Close after = refl

kind_is : (token : Token) (after : List ℕ) → IsToken token → front_kind (spelling token ++ after) ≡ kind token
kind_is (Word []) after h = absurd (false≢true h.0)
kind_is (Word (b ∷ bs)) after h = cond-true (is_letter b) 0 _ h.0
kind_is (Digits []) after h = absurd (false≢true h.0)
kind_is (Digits (b ∷ bs)) after h = cond-false (is_letter b) 0 _ (false_from_ne_true _ (letter_no_digit b h.0)) ∙ cond-true (is_ascii_digit b) 1 _ h.0
kind_is (Name v) after h = refl
kind_is (Text v) after h = refl
kind_is (Sign v) after h = sign_kind v after

pub front_is : (text : List ℕ) (token : Token) (after : List ℕ) → BeginsWith text token after → front_kind text ≡ kind token
front_is text token after h = ap front_kind h.text_is ∙ kind_is token after h.is_token

kind_below : (token : Token) → kind token < 5
kind_below (Word v) = omega arith
kind_below (Digits v) = omega arith
kind_below (Name v) = omega arith
kind_below (Text v) = omega arith
kind_below (Sign v) = omega arith

-- a token isn't empty
pub begins_nonempty : (token : Token) (after : List ℕ) → ¬ BeginsWith [] token after
begins_nonempty token after h = let e : 5 ≡ kind token = front_is [] token after h in omega (arith, kind_below token, e)

-- what is behind a token is shorter
pub begins_shorter : (text : List ℕ) (token : Token) (after : List ℕ) → BeginsWith text token after → length after < length text
begins_shorter text token after h = shorter (spelling token) after text h.text_is (λ e. let k : 5 ≡ kind token = (let g = kind_is token [] h.is_token in ap front_kind (sym (empty_append (spelling token) e)) ∙ g) in omega (arith, kind_below token, k))
  where
    empty_append : (s : List ℕ) → s ≡ [] → s ++ [] ≡ []
    empty_append s e = ap (λ x. x ++ []) e

    shorter : (s after text : List ℕ) → text ≡ s ++ after → (s ≡ [] → ⊥) → length after < length text
    shorter [] after text e some = absurd (some refl)
    shorter (b ∷ bs) after text e some = omega (arith, ap length e, length-append bs after)

blank_kind : (b : ℕ) → is_blank b ≡ true → kind_of b ≡ 4
blank_kind b h = ⊎_elim (λ e. ap kind_of (eqb-true b 32 e)) (λ e. ap kind_of (eqb-true b 10 e)) (or_cases (eqb b 32) (eqb b 10) h)

sign_not_blank : (sign : signs.Sign) (after : List ℕ) → begins is_blank (sign_spelling sign ++ after) ≡ false
sign_not_blank Bar after = refl
sign_not_blank Comma after = refl
sign_not_blank Is after = refl
sign_not_blank Equal after = refl
sign_not_blank NotEqual after = refl
sign_not_blank AtMost after = refl
sign_not_blank AtLeast after = refl
sign_not_blank Below after = refl
sign_not_blank Above after = refl
sign_not_blank Plus after = refl
sign_not_blank Minus after = refl
sign_not_blank Times after = refl
sign_not_blank Over after = refl
sign_not_blank Modulo after = refl
sign_not_blank Open after = refl
sign_not_blank Close after = refl

other_not_blank : (text : List ℕ) (n : ℕ) → front_kind text ≡ n → n < 4 → begins is_blank text ≡ false
other_not_blank [] n e small = refl
other_not_blank (b ∷ bs) n e small = false_from_ne_true (is_blank b) (λ blank. let four = blank_kind b blank in omega (arith, four, e))

-- no token begins with a blank
pub begins_not_blank : (text : List ℕ) (token : Token) (after : List ℕ) → BeginsWith text token after → begins is_blank text ≡ false
begins_not_blank text (Sign v) after h = ap (begins is_blank) h.text_is ∙ sign_not_blank v after
begins_not_blank text (Word v) after h = other_not_blank text 0 (front_is text (Word v) after h) (omega arith)
begins_not_blank text (Digits v) after h = other_not_blank text 1 (front_is text (Digits v) after h) (omega arith)
begins_not_blank text (Name v) after h = other_not_blank text 2 (front_is text (Name v) after h) (omega arith)
begins_not_blank text (Text v) after h = other_not_blank text 3 (front_is text (Text v) after h) (omega arith)

-- what stands behind the quote that opens
inner : (quote : ℕ) (v after : List ℕ) → quoted quote v ++ after ≡ quote ∷ (doubled quote v ++ quote ∷ after)
inner quote v after = ap (λ r. quote ∷ r) (append_assoc (doubled quote v) (quote ∷ []) after)

pub opened_name : (text opened : List ℕ) (v after : List ℕ) → text ≡ 34 ∷ opened → BeginsWith text (Name v) after → IsQuoted 34 opened v after
opened_name text opened v after e h = record { text_is = let i : 34 ∷ opened ≡ 34 ∷ (doubled 34 v ++ 34 ∷ after) = sym e ∙ h.text_is ∙ inner 34 v after in cc; closed = h.longest }

pub opened_text : (text opened : List ℕ) (v after : List ℕ) → text ≡ 39 ∷ opened → BeginsWith text (Text v) after → IsQuoted 39 opened v after
opened_text text opened v after e h = record { text_is = let i : 39 ∷ opened ≡ 39 ∷ (doubled 39 v ++ 39 ∷ after) = sym e ∙ h.text_is ∙ inner 39 v after in cc; closed = h.longest }

pub name_begins : (text opened v after : List ℕ) → text ≡ 34 ∷ opened → IsQuoted 34 opened v after → BeginsWith text (Name v) after
name_begins text opened v after e h = record { text_is = e ∙ ap (λ r. 34 ∷ r) h.text_is ∙ sym (inner 34 v after); is_token = tt; longest = h.closed }

pub text_begins : (text opened v after : List ℕ) → text ≡ 39 ∷ opened → IsQuoted 39 opened v after → BeginsWith text (Text v) after
text_begins text opened v after e h = record { text_is = e ∙ ap (λ r. 39 ∷ r) h.text_is ∙ sym (inner 39 v after); is_token = tt; longest = h.closed }

append_cancel : (s a b : List ℕ) → s ++ a ≡ s ++ b → a ≡ b
append_cancel [] a b e = e
append_cancel (x ∷ s) a b e = append_cancel s a b (cc)

-- a text begins with one token, which is as long as it can be
pub begins_once : (text : List ℕ) (t u : Token) (a b : List ℕ) → BeginsWith text t a → BeginsWith text u b → (t ≡ u) × (a ≡ b)
begins_once text (Word v) (Word w) a b h k =
    let same = run_once is_word_byte v w a b h.is_token.1 h.longest k.is_token.1 k.longest (sym h.text_is ∙ k.text_is) in (ap Word same.0, same.1)
begins_once text (Digits v) (Digits w) a b h k =
    let same = run_once is_ascii_digit v w a b h.is_token.1 h.longest k.is_token.1 k.longest (sym h.text_is ∙ k.text_is) in (ap Digits same.0, same.1)
begins_once text (Name v) (Name w) a b h k =
    let e = h.text_is ∙ inner 34 v a in
    let same = quoted_once 34 (doubled 34 v ++ 34 ∷ a) v w a b (opened_name text _ v a e h) (opened_name text _ w b e k) in (ap Name same.0, same.1)
begins_once text (Text v) (Text w) a b h k =
    let e = h.text_is ∙ inner 39 v a in
    let same = quoted_once 39 (doubled 39 v ++ 39 ∷ a) v w a b (opened_text text _ v a e h) (opened_text text _ w b e k) in (ap Text same.0, same.1)
begins_once text (Sign v) (Sign w) a b h k =
    let both : Some v ≡ Some w = sym (found_at text v a h) ∙ found_at text w b k in
    let same : v ≡ w = cc in
    (ap Sign same, append_cancel (sign_spelling v) a b (sym h.text_is ∙ k.text_is ∙ ap (λ s. sign_spelling s ++ b) (sym same)))
begins_once text (Word v) (Digits w) a b h k = absurd (omega (arith, front_is text (Word v) a h, front_is text (Digits w) b k))
begins_once text (Word v) (Name w) a b h k = absurd (omega (arith, front_is text (Word v) a h, front_is text (Name w) b k))
begins_once text (Word v) (Text w) a b h k = absurd (omega (arith, front_is text (Word v) a h, front_is text (Text w) b k))
begins_once text (Word v) (Sign w) a b h k = absurd (omega (arith, front_is text (Word v) a h, front_is text (Sign w) b k))
begins_once text (Digits v) (Word w) a b h k = absurd (omega (arith, front_is text (Digits v) a h, front_is text (Word w) b k))
begins_once text (Digits v) (Name w) a b h k = absurd (omega (arith, front_is text (Digits v) a h, front_is text (Name w) b k))
begins_once text (Digits v) (Text w) a b h k = absurd (omega (arith, front_is text (Digits v) a h, front_is text (Text w) b k))
begins_once text (Digits v) (Sign w) a b h k = absurd (omega (arith, front_is text (Digits v) a h, front_is text (Sign w) b k))
begins_once text (Name v) (Word w) a b h k = absurd (omega (arith, front_is text (Name v) a h, front_is text (Word w) b k))
begins_once text (Name v) (Digits w) a b h k = absurd (omega (arith, front_is text (Name v) a h, front_is text (Digits w) b k))
begins_once text (Name v) (Text w) a b h k = absurd (omega (arith, front_is text (Name v) a h, front_is text (Text w) b k))
begins_once text (Name v) (Sign w) a b h k = absurd (omega (arith, front_is text (Name v) a h, front_is text (Sign w) b k))
begins_once text (Text v) (Word w) a b h k = absurd (omega (arith, front_is text (Text v) a h, front_is text (Word w) b k))
begins_once text (Text v) (Digits w) a b h k = absurd (omega (arith, front_is text (Text v) a h, front_is text (Digits w) b k))
begins_once text (Text v) (Name w) a b h k = absurd (omega (arith, front_is text (Text v) a h, front_is text (Name w) b k))
begins_once text (Text v) (Sign w) a b h k = absurd (omega (arith, front_is text (Text v) a h, front_is text (Sign w) b k))
begins_once text (Sign v) (Word w) a b h k = absurd (omega (arith, front_is text (Sign v) a h, front_is text (Word w) b k))
begins_once text (Sign v) (Digits w) a b h k = absurd (omega (arith, front_is text (Sign v) a h, front_is text (Digits w) b k))
begins_once text (Sign v) (Name w) a b h k = absurd (omega (arith, front_is text (Sign v) a h, front_is text (Name w) b k))
begins_once text (Sign v) (Text w) a b h k = absurd (omega (arith, front_is text (Sign v) a h, front_is text (Text w) b k))

-- what was opened and isn't closed is no token
pub none_name : (text opened : List ℕ) → text ≡ 34 ∷ opened → ((v after : List ℕ) → ¬ IsQuoted 34 opened v after) → (token : Token) (after : List ℕ) → ¬ BeginsWith text token after
none_name text opened e none (Name v) after h = none v after (opened_name text opened v after e h)
none_name text opened e none (Word v) after h = let k : front_kind text ≡ 2 = ap front_kind e in absurd (omega (arith, k, front_is text (Word v) after h))
none_name text opened e none (Digits v) after h = let k : front_kind text ≡ 2 = ap front_kind e in absurd (omega (arith, k, front_is text (Digits v) after h))
none_name text opened e none (Text v) after h = let k : front_kind text ≡ 2 = ap front_kind e in absurd (omega (arith, k, front_is text (Text v) after h))
none_name text opened e none (Sign v) after h = let k : front_kind text ≡ 2 = ap front_kind e in absurd (omega (arith, k, front_is text (Sign v) after h))

-- what was opened and isn't closed is no token
pub none_text : (text opened : List ℕ) → text ≡ 39 ∷ opened → ((v after : List ℕ) → ¬ IsQuoted 39 opened v after) → (token : Token) (after : List ℕ) → ¬ BeginsWith text token after
none_text text opened e none (Text v) after h = none v after (opened_text text opened v after e h)
none_text text opened e none (Word v) after h = let k : front_kind text ≡ 3 = ap front_kind e in absurd (omega (arith, k, front_is text (Word v) after h))
none_text text opened e none (Digits v) after h = let k : front_kind text ≡ 3 = ap front_kind e in absurd (omega (arith, k, front_is text (Digits v) after h))
none_text text opened e none (Name v) after h = let k : front_kind text ≡ 3 = ap front_kind e in absurd (omega (arith, k, front_is text (Name v) after h))
none_text text opened e none (Sign v) after h = let k : front_kind text ≡ 3 = ap front_kind e in absurd (omega (arith, k, front_is text (Sign v) after h))

-- what is no token of any kind
pub none_of_all : (text : List ℕ) → ((v after : List ℕ) → ¬ BeginsWith text (Word v) after) → ((v after : List ℕ) → ¬ BeginsWith text (Digits v) after) → ((rest : List ℕ) → text ≢ 34 ∷ rest) → ((rest : List ℕ) → text ≢ 39 ∷ rest)
    → ((sign : signs.Sign) (after : List ℕ) → ¬ BeginsWith text (Sign sign) after) → (token : Token) (after : List ℕ) → ¬ BeginsWith text token after
none_of_all text word digits name content sign (Word v) after h = word v after h
none_of_all text word digits name content sign (Digits v) after h = digits v after h
none_of_all text word digits name content sign (Name v) after h = name _ (h.text_is ∙ inner 34 v after)
none_of_all text word digits name content sign (Text v) after h = content _ (h.text_is ∙ inner 39 v after)
none_of_all text word digits name content sign (Sign v) after h = sign v after h
