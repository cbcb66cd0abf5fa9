-- What a mask keeps.
use Rattle.std.proofs.Common.{◌≡◌, ℕ, zero, suc, ◌+◌, ◌<◌, ◌≤◌, List, [], ◌∷◌, ◌++◌, length, take, get_or, Bool, true, false, refl, sym, ◌∙◌, ap, arith, add-one, append-nil}
use Rattle.std.specs.Prelude.{count_by, if◌then◌else◌, slice_get, Some}
use Rattle.std.proofs.lemmas.List.Recursion.{is_count_by}
use Rattle.std.proofs.lemmas.List.Sums.{count_by_more_no, count_by_more_yes}
use Rattle.std.proofs.lemmas.Option.{get_or_from_slice_get, slice_get_within}
use Rattle.ps_frame.specs.Frames.{kept}
use Rattle.ps_frame.specs.Values.{is_true}
use Rattle.ps_frame.specs.declared.value.Value.{Value}

-- how many values of a mask are true, by recursion
abbrev pub trues : List Value → ℕ
trues [] = 0
trues (m ∷ ms) = if is_true m then suc (trues ms) else trues ms

trues-cons : (m : Value) (ms : List Value) → trues (m ∷ ms) ≡ (if is_true m then 1 + trues ms else trues ms)
trues-cons m ms = cases (is_true m) (trues ms)
  where
    cases : (t : Bool) (n : ℕ) → (if t then suc n else n) ≡ (if t then 1 + n else n)
    cases true n = omega arith
    cases false n = refl

pub trues-is : (ms : List Value) → trues ms ≡ count_by is_true ms
trues-is ms = is_count_by trues is_true refl trues-cons ms

module _ {A : Type 0} where
  more_if : (b : A) (t : Bool) (whole front last : List A) → whole ≡ front ++ last → (if t then b ∷ whole else whole) ≡ (if t then b ∷ front else front) ++ last
  more_if b true whole front last e = ap (λ zs. b ∷ zs) e
  more_if b false whole front last e = e

  -- one more item
  kept-more : (ms : List Value) (xs : List A) (i : ℕ) (m : Value) (x : A) → i < length ms → i < length xs
      → kept (take (suc i) ms) (take (suc i) xs) ≡ kept (take i ms) (take i xs) ++ (if is_true (get_or ms i m) then get_or xs i x ∷ [] else [])
  kept-more [] xs i m x g h = absurd (omega arith)
  kept-more (a ∷ ms) [] i m x g h = absurd (omega arith)
  kept-more (a ∷ ms) (b ∷ xs) zero m x g h = refl
  kept-more (a ∷ ms) (b ∷ xs) (suc i) m x g h =
      more_if b (is_true a) (kept (take (suc i) ms) (take (suc i) xs)) (kept (take i ms) (take i xs)) (if is_true (get_or ms i m) then get_or xs i x ∷ [] else [])
      (kept-more ms xs i m x (omega arith) (omega arith))

  -- the same of a list that gets the item at its end, or stays
  pub kept-step_true : (ms : List Value) (xs : List A) (i : ℕ) (m : Value) (x : A) (out new : List A) → out ≡ kept (take i ms) (take i xs) → m ≡ get_or ms i m → x ≡ get_or xs i x
      → is_true m ≡ true → new ≡ out ++ x ∷ [] → i < length ms → i < length xs → new ≡ kept (take (i + 1) ms) (take (i + 1) xs)
  kept-step_true ms xs i m x out new before at_m at_x holds grown g h =
      let e = kept-more ms xs i m x g h in
      let f : is_true (get_or ms i m) ≡ true = ap is_true (sym at_m) ∙ holds in
      let last = ap (λ t. if t then get_or xs i x ∷ [] else []) f in
      rw add-one cc

  pub kept-step_false : (ms : List Value) (xs : List A) (i : ℕ) (m : Value) (x : A) (out : List A) → out ≡ kept (take i ms) (take i xs) → m ≡ get_or ms i m
      → is_true m ≡ false → i < length ms → i < length xs → out ≡ kept (take (i + 1) ms) (take (i + 1) xs)
  kept-step_false ms xs i m x out before at_m fails g h =
      let e = kept-more ms xs i m x g h in
      let f : is_true (get_or ms i m) ≡ false = ap is_true (sym at_m) ∙ fails in
      let last = ap (λ t. if t then get_or xs i x ∷ [] else []) f in
      let none = append-nil (kept (take i ms) (take i xs)) in
      rw add-one cc

  length-if : (x : A) (t : Bool) (xs : List A) (n : ℕ) → length xs ≡ n → length (if t then x ∷ xs else xs) ≡ (if t then suc n else n)
  length-if x true xs n e = ap suc e
  length-if x false xs n e = e

  -- as many as the mask has truths
  pub length-kept : (ms : List Value) (xs : List A) → length ms ≡ length xs → length (kept ms xs) ≡ trues ms
  length-kept [] xs e = refl
  length-kept (m ∷ ms) [] e = cc
  length-kept (m ∷ ms) (x ∷ xs) e = length-if x (is_true m) (kept ms xs) (trues ms) (length-kept ms xs (omega arith))

-- no more values are true than there are
pub trues-le-length : (ms : List Value) → trues ms ≤ length ms
trues-le-length [] = omega arith
trues-le-length (m ∷ ms) = one (is_true m) (trues ms) (length ms) (trues-le-length ms)
  where
    one : (t : Bool) (n k : ℕ) → n ≤ k → (if t then suc n else n) ≤ suc k
    one true n k h = omega arith
    one false n k h = omega arith

all-true : (t : Bool) (n k : ℕ) → (if t then suc n else n) ≡ suc k → n ≤ k → (t ≡ true) × (n ≡ k)
all-true true n k e h = (refl, omega arith)
all-true false n k e h = absurd (omega arith)

-- a mask of which each value is true keeps each item
kept-each : {A : Type 0} (ms : List Value) (xs : List A) → trues ms ≡ length ms → length ms ≡ length xs → kept ms xs ≡ xs
kept-each [] [] e h = refl
kept-each [] (x ∷ xs) e h = absurd (omega arith)
kept-each (m ∷ ms) [] e h = absurd (omega arith)
kept-each (m ∷ ms) (x ∷ xs) e h =
    let holds = all-true (is_true m) (trues ms) (length ms) e (trues-le-length ms) in
    ap (λ t. if t then x ∷ kept ms xs else kept ms xs) holds.0 ∙ ap (λ ys. x ∷ ys) (kept-each ms xs holds.1 (omega arith))

pub kept-all : {A : Type 0} (ms : List Value) (xs : List A) → count_by is_true ms ≡ length ms → length ms ≡ length xs → kept ms xs ≡ xs
kept-all ms xs e h = kept-each ms xs (trues-is ms ∙ e) h

-- one more true value, or none
pub count-step_true : (vs : List Value) (i n : ℕ) (v : Value) → n ≡ count_by is_true (take i vs) → slice_get vs i ≡ Some v → is_true v ≡ true → n + 1 ≡ count_by is_true (take (i + 1) vs)
count-step_true vs i n v before here holds =
    let is = get_or_from_slice_get vs i v v here in
    ap (λ k. k + 1) before ∙ sym (count_by_more_yes is_true vs i v (slice_get_within vs i v here) (ap is_true is ∙ holds))

pub count-step_false : (vs : List Value) (i n : ℕ) (v : Value) → n ≡ count_by is_true (take i vs) → slice_get vs i ≡ Some v → is_true v ≡ false → n ≡ count_by is_true (take (i + 1) vs)
count-step_false vs i n v before here fails =
    let is = get_or_from_slice_get vs i v v here in
    before ∙ sym (count_by_more_no is_true vs i v (slice_get_within vs i v here) (ap is_true is ∙ fails))
