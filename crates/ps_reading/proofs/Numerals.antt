-- Which numeral tells the number of a text.
use Rattle.std.proofs.Common.{◌≡◌, ◌-◌, ℕ, ◌==◌, List, length, take, drop, Option, Some, None, true, false, ap, subst, sym, ◌∙◌, slice_index, arith, rules, take_all, length-drop}
use Rattle.std.specs.Prelude.{IfNone, IfSome}
use Rattle.fast_float.specs.Text.{Parts, scan}
use Rattle.serde_json.specs.Data.{Num, unsigned}
use Rattle.serde_json.specs.Read.{number_from, number_of}

number_of-minus : (s : List ℕ) → true ≡ (slice_index s 0 == 45) → number_of s ≡ number_from true (scan (drop 1 s))
unfolding number_of
number_of-minus s e = rw (← e)

pub number_of-no_minus : (s : List ℕ) → false ≡ (slice_index s 0 == 45) → number_of s ≡ number_from false (scan s)
unfolding number_of
number_of-no_minus s e = rw (← e)

-- the numeral after the minus
pub of_minus : (s t : List ℕ) (p : Parts) → s ≡ t → true ≡ (slice_index s 0 == 45) → p ≡ scan (take (length s - 1) (drop 1 s)) → number_of t ≡ number_from true p
of_minus s t p same minus parts =
    rw (← same) (number_of-minus s minus ∙ ap (λ bs. number_from true (scan bs)) (sym (take_all _ (drop 1 s) (omega (arith, length-drop 1 s)))) ∙ ap (number_from true) (sym parts))

-- the numeral of a text with no minus
pub of_no_minus : (s t : List ℕ) (p : Parts) → s ≡ t → false ≡ (slice_index s 0 == 45) → p ≡ scan s → number_of t ≡ number_from false p
of_no_minus s t p same none parts = rw (← same) (number_of-no_minus s none ∙ ap (number_from false) (sym parts))

-- what holds of a numeral's number holds of the text's
pub told : {A : Type 0} (P : A → Option Num → Type 0) (o : Option A) (text numeral : Option Num) → text ≡ numeral → IfSome o (λ n. P n numeral) → IfSome o (λ n. P n text)
told P None text numeral e is = tt
told P (Some n) text numeral e is = subst (P n) (sym e) is

pub untold : {A : Type 0} (P : Option Num → Type 0) (o : Option A) (text numeral : Option Num) → text ≡ numeral → IfNone o (P numeral) → IfNone o (P text)
untold P None text numeral e is = subst P (sym e) is
untold P (Some n) text numeral e is = tt

-- a text with a minus writes no number without a sign
pub minus-signed : (s t : List ℕ) (n : ℕ) → s ≡ t → true ≡ (slice_index s 0 == 45) → number_of t ≡ Some (unsigned n) → ⊥
minus-signed s t n same minus is = signed (scan (drop 1 s)) n (sym (number_of-minus s minus) ∙ ap number_of same ∙ is)
  where
    signed : (p : Parts) (n : ℕ) → number_from true p ≡ Some (unsigned n) → ⊥
    signed p n = search rules
