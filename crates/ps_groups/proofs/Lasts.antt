-- How the last places grow.
use Rattle.std.proofs.Common.{◌≡◌, ℕ, ◌+◌, ◌<◌, List, [], ◌∷◌, ◌++◌, length, get_or, set, take, drop, Bool, true, false, refl, sym, ap, subst, ◌∙◌, arith, inl, inr}
use Rattle.std.specs.Prelude.{◌==◌, ◌||◌, not}
use Rattle.std.specs.List.{list_any}
use Rattle.std.proofs.lemmas.Bool.{cases_eq, eq-eqb, ne_eqb}
use Rattle.std.proofs.lemmas.List.{drop-append-le, get_or_append_left, get_or_push, get_or-set_same, get_or-set_other, length-set, length-take-le, length_push, take_more}
use Rattle.std.proofs.Math.Seq.{drop-length}
use Rattle.std.proofs.lemmas.List.Folds.{list_any-append}
use Rattle.ps_keys.specs.KeyRows.{AreBelow}
use Rattle.ps_groups.specs.KeptRows.{AreLasts, comes_again}

-- one number more
module _ (count : ℕ) (xs lasts : List ℕ) (x : ℕ) (before : AreLasts count xs lasts) (in_count : x < count) where
  abbrev n : ℕ
  n = length xs

  abbrev more : List ℕ
  more = xs ++ x ∷ []

  again-more : (i : ℕ) → i < n → comes_again more i ≡ (comes_again xs i || (x == get_or xs i 0))
  again-more i within =
      ap (λ y. list_any (λ k. k == y) (drop (i + 1) more)) (get_or_append_left xs (x ∷ []) 0 i within)
      ∙ ap (list_any (λ k. k == get_or xs i 0)) (drop-append-le (i + 1) xs (x ∷ []) (omega arith))
      ∙ list_any-append (λ k. k == get_or xs i 0) (drop (i + 1) xs) (x ∷ [])
      ∙ ap (λ t. comes_again xs i || t) (or-false (x == get_or xs i 0))
    where
      or-false : (t : Bool) → (t || false) ≡ t
      or-false true = refl
      or-false false = refl

  at-end : (get_or (set lasts x n) (get_or more n 0) 0 == n) ≡ not (comes_again more n)
  at-end =
      eq-eqb (get_or (set lasts x n) (get_or more n 0) 0) n (ap (λ y. get_or (set lasts x n) y 0) (get_or_push xs x 0 n refl) ∙ get_or-set_same lasts x n 0 (omega (arith, before.long)))
      ∙ sym (ap (λ ys. not (list_any (λ k. k == get_or more n 0) ys)) ((let e : n + 1 ≡ length more = omega (arith, length_push xs x) in ap (λ m. drop m more) e ∙ drop-length more)))

  below-end : (i : ℕ) → i < n → (get_or (set lasts x n) (get_or xs i 0) 0 == i) ≡ not (comes_again xs i || (x == get_or xs i 0))
  below-end i within = elim (cases_eq x (get_or xs i 0)) [
    | inl same ↦
        ne_eqb (get_or (set lasts x n) (get_or xs i 0) 0) i (λ e.
        let read : get_or (set lasts x n) (get_or xs i 0) 0 ≡ n = ap (λ y. get_or (set lasts x n) y 0) (sym same) ∙ get_or-set_same lasts x n 0 (omega (arith, before.long)) in
        absurd (omega arith))
        ∙ sym (ap not (ap (λ t. comes_again xs i || t) (eq-eqb x (get_or xs i 0) same) ∙ or-true (comes_again xs i)))
    | inr other ↦
        ap (λ y. y == i) (get_or-set_other lasts x (get_or xs i 0) n 0 (λ e. other (sym e)))
        ∙ before.at_last i within
        ∙ sym (ap not (ap (λ t. comes_again xs i || t) (ne_eqb x (get_or xs i 0) other) ∙ or-none (comes_again xs i)))
  ]
    where
      or-true : (t : Bool) → (t || true) ≡ true
      or-true true = refl
      or-true false = refl

      or-none : (t : Bool) → (t || false) ≡ t
      or-none true = refl
      or-none false = refl

  at_last-more : (i : ℕ) → i < length more → (get_or (set lasts x n) (get_or more i 0) 0 == i) ≡ not (comes_again more i)
  at_last-more i within = elim (cases_eq n i) [
    | inl same ↦ subst (λ j. (get_or (set lasts x n) (get_or more j 0) 0 == j) ≡ not (comes_again more j)) same at-end
    | inr other ↦
        let below_n : i < n = let h = length_push xs x in omega arith in
        ap (λ y. get_or (set lasts x n) y 0 == i) (get_or_append_left xs (x ∷ []) 0 i below_n)
        ∙ below-end i below_n
        ∙ sym (ap not (again-more i below_n))
  ]

  pub lasts-push : AreLasts count more (set lasts x n)
  lasts-push = record { long = length-set lasts x n ∙ before.long; at_last = at_last-more }

-- the same in a loop
pub lasts-step : (count i : ℕ) (xs lasts : List ℕ) → AreLasts count (take i xs) lasts → AreBelow count xs → i < length xs → AreLasts count (take (i + 1) xs) (set lasts (get_or xs i 0) i)
lasts-step count i xs lasts before inside within =
    let long : length (take i xs) ≡ i = length-take-le i xs (omega arith) in
    subst (λ ys. AreLasts count ys (set lasts (get_or xs i 0) i)) (sym (take_more xs i 0 within))
    (subst (λ n. AreLasts count (take i xs ++ get_or xs i 0 ∷ []) (set lasts (get_or xs i 0) n)) long
    (lasts-push count (take i xs) lasts (get_or xs i 0) before (inside i within)))
