-- Runs of a class at the front of a text.
use Rattle.std.proofs.Common.{◌≡◌, ℕ, suc, zero, ◌+◌, ◌<◌, ◌≤◌, Bool, true, false, ◌&&◌, ◌||◌, eqb, leb, List, [], ◌∷◌, ◌++◌, length, take, get_or, IsUtf8, sym, refl, ap, ◌∙◌, ⊎_elim, arith, get_or-take, add-one, length-take-le}
use Rattle.std.specs.Char.{is_ascii_digit, is_ascii_lowercase}
use Rattle.std.specs.List.{list_all}
use Rattle.std.specs.Str.{IsCharBoundary}
use Rattle.std.proofs.lemmas.Bool.{and_parts, or_cases, leb-true, eqb-true, false≢true, true_from_ne_false}
use Rattle.std.proofs.lemmas.List.Folds.{list_all_at}
use Rattle.std.proofs.lemmas.Str.{IsCharBoundary-start, IsCharBoundary-after_ascii}
use Rattle.text_tokens.specs.Runs.{begins, is_blank, is_letter, is_word_byte, is_in}
use Rattle.text_tokens.specs.declared.run.Class.{Class}
use Rattle.text_tokens.specs.declared.run.Class.TheVariants.{Blank, Digit, Letter, Word}

-- the bytes of each class are ASCII
blank_below : (b : ℕ) → is_blank b ≡ true → b < 128
blank_below b h = ⊎_elim (λ e. let is : b ≡ 32 = eqb-true b 32 e in omega arith) (λ e. let is : b ≡ 10 = eqb-true b 10 e in omega arith) (or_cases (eqb b 32) (eqb b 10) h)

digit_below : (b : ℕ) → is_ascii_digit b ≡ true → b < 128
digit_below b h = let top : b ≤ 57 = leb-true b 57 (and_parts (leb 48 b) (leb b 57) h).1 in omega arith

pub letter_below : (b : ℕ) → is_letter b ≡ true → b < 128
letter_below b h = ⊎_elim (λ e. let top : b ≤ 122 = leb-true b 122 (and_parts (leb 97 b) (leb b 122) e).1 in omega arith) (λ e. let is : b ≡ 95 = eqb-true b 95 e in omega arith) (or_cases (is_ascii_lowercase b) (eqb b 95) h)

in_below : (class : Class) (b : ℕ) → is_in class b ≡ true → b < 128
in_below Blank b h = blank_below b h
in_below Digit b h = digit_below b h
in_below Letter b h = letter_below b h
in_below Word b h = ⊎_elim (letter_below b) (digit_below b) (or_cases (is_letter b) (is_ascii_digit b) h)

-- a letter is no digit
pub letter_no_digit : (b : ℕ) → is_ascii_digit b ≡ true → is_letter b ≡ true → ⊥
letter_no_digit b digit letter =
    let top : b ≤ 57 = leb-true b 57 (and_parts (leb 48 b) (leb b 57) digit).1 in
    ⊎_elim (λ e. let low : 97 ≤ b = leb-true 97 b (and_parts (leb 97 b) (leb b 122) e).0 in omega arith) (λ e. let is : b ≡ 95 = eqb-true b 95 e in omega arith) (or_cases (is_ascii_lowercase b) (eqb b 95) letter)

-- a text may be cut behind a run
pub boundary_after : (class : Class) (bs : List ℕ) (n : ℕ) → IsUtf8 bs → n ≤ length bs → list_all (is_in class) (take n bs) ≡ true → IsCharBoundary bs n
boundary_after class bs zero utf8 within run = IsCharBoundary-start bs utf8
boundary_after class bs (suc m) utf8 within run =
    let below : m < length bs = omega arith in
    let taken : length (take (suc m) bs) ≡ suc m = length-take-le (suc m) bs within in
    let inside : m < length (take (suc m) bs) = omega arith in
    let last : is_in class (get_or (take (suc m) bs) m 0) ≡ true = true_from_ne_false _ (λ f. false≢true (sym (list_all_at (is_in class) (take (suc m) bs) m 0 inside f) ∙ run)) in
    let same : get_or (take (suc m) bs) m 0 ≡ get_or bs m 0 = get_or-take (suc m) bs m 0 (omega arith) in
    let small : get_or bs m 0 < 128 = in_below class _ (ap (is_in class) (sym same) ∙ last) in
    rw (← add-one) (IsCharBoundary-after_ascii bs m utf8 below small)

-- a list has one longest run at its front
pub run_once : (p : ℕ → Bool) (xs ys us vs : List ℕ) → list_all p xs ≡ true → begins p us ≡ false → list_all p ys ≡ true → begins p vs ≡ false → xs ++ us ≡ ys ++ vs → (xs ≡ ys) × (us ≡ vs)
run_once p [] [] us vs run ends other_run other_ends e = (refl, e)
run_once p [] (y ∷ ys) us vs run ends other_run other_ends e = absurd (false≢true (sym ends ∙ ap (begins p) e ∙ (and_parts (p y) (list_all p ys) other_run).0))
run_once p (x ∷ xs) [] us vs run ends other_run other_ends e = absurd (false≢true (sym other_ends ∙ sym (ap (begins p) e) ∙ (and_parts (p x) (list_all p xs) run).0))
run_once p (x ∷ xs) (y ∷ ys) us vs run ends other_run other_ends e =
    let heads : x ≡ y = cc in
    let tails : xs ++ us ≡ ys ++ vs = cc in
    let rest = run_once p xs ys us vs (and_parts (p x) (list_all p xs) run).1 ends (and_parts (p y) (list_all p ys) other_run).1 other_ends tails in
    ((λ i. heads i ∷ rest.0 i), rest.1)

-- where the run at the front doesn't begin as asked, no run does
pub no_run : (p q : ℕ → Bool) (text front behind own after : List ℕ) → text ≡ front ++ behind → list_all p front ≡ true → begins p behind ≡ false → begins q front ≡ false → text ≡ own ++ after → list_all p own ≡ true → begins p after ≡ false → begins q own ≡ true → ⊥
no_run p q text front behind own after split run ends lacks own_split own_run own_ends has =
    let same = run_once p own front after behind own_run own_ends run ends (sym own_split ∙ split) in
    false≢true (sym lacks ∙ sym (ap (begins q) same.0) ∙ has)

begins_at_front : (p : ℕ → Bool) (text : List ℕ) → 0 < length text → begins p text ≡ p (get_or text 0 0)
begins_at_front p [] some = absurd (omega (arith, some))
begins_at_front p (b ∷ bs) some = refl
