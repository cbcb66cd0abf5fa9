-- Things at different places, each of them a free one below a bound, are at most as many as the free places.
use Rattle.std.proofs.Common.{◌≡◌, ℕ, zero, suc, ◌+◌, ◌<◌, ◌≤◌, Bool, true, false, cond, List, [], ◌∷◌, length, Some, refl, sym, ap, subst, ◌∙◌, arith}
use Rattle.std.specs.Prelude.{count_by, nat_eq, nat_lt, slice_get, ◌&&◌}
use Rattle.std.proofs.lemmas.Bool.Decides.{nat_tests}
use Rattle.world_facts.proofs.ClaimedOnce.{count_cons}
use Rattle.world_facts.proofs.CutOff.{both_true}

-- the free places below a bound
abbrev pub free : (ℕ → Bool) → ℕ → ℕ
free test zero = 0
free test (suc m) = free test m + cond (test m) 1 0

none_of : {X : Type 0} (p : X → Bool) (xs : List X) → ((j : ℕ) (y : X) → slice_get xs j ≡ Some y → p y ≡ false) → count_by p xs ≡ 0
none_of p [] h = refl
none_of p (x ∷ xs) h =
    let rest = none_of p xs (λ j y e. h (suc j) y e) in
    let more = count_cons p x xs in
    let here : cond {A = ℕ} (p x) 1 0 ≡ 0 = ap (λ b. cond {A = ℕ} b 1 0) (h 0 x refl) in
    omega (arith, rest, more, here)

pub same_count : {X : Type 0} (p q : X → Bool) (xs : List X) → ((j : ℕ) (y : X) → slice_get xs j ≡ Some y → p y ≡ q y) → count_by p xs ≡ count_by q xs
same_count p q [] h = refl
same_count p q (x ∷ xs) h =
    let rest = same_count p q xs (λ j y e. h (suc j) y e) in
    count_cons p x xs ∙ ap (λ b. cond b 1 0 + count_by p xs) (h 0 x refl) ∙ ap (λ k. cond (q x) 1 0 + k) rest ∙ sym (count_cons q x xs)

pub count_all : {X : Type 0} (xs : List X) → count_by (λ x. true) xs ≡ length xs
count_all [] = refl
count_all (x ∷ xs) =
    let rest = count_all xs in
    let more : count_by (λ y. true) (x ∷ xs) ≡ 1 + count_by (λ y. true) xs = count_cons (λ y. true) x xs in
    omega (arith, rest, more)

pub all_free : (m : ℕ) → free (λ k. true) m ≡ m
all_free zero = refl
all_free (suc m) = let e = all_free m in omega (arith, e)

equal : (m n : ℕ) → nat_eq m n ≡ true → m ≡ n
equal m n e = grind (arith, nat_tests)

no_lower : (h : Bool) (k : ℕ) → (h && nat_lt k 0) ≡ false
no_lower true k = grind (arith, nat_tests)
no_lower false k = refl

split : (h : Bool) (k m : ℕ) → cond (h && nat_lt k (suc m)) 1 0 ≡ cond (h && nat_lt k m) 1 0 + cond (h && nat_eq k m) 1 0
split false k m = refl
split true k m = by (nat_lt k m) (nat_eq k m) (nat_lt k (suc m)) refl refl refl
  where
    by : (a b c : Bool) → nat_lt k m ≡ a → nat_eq k m ≡ b → nat_lt k (suc m) ≡ c → cond c 1 0 ≡ cond a 1 0 + cond b 1 0
    by true false true e f g = refl
    by false true true e f g = refl
    by false false false e f g = refl
    by true true c e f g = absurd (let no : ⊥ = grind (arith, nat_tests) in no)
    by true false false e f g = absurd (let no : ⊥ = grind (arith, nat_tests) in no)
    by false true false e f g = absurd (let no : ⊥ = grind (arith, nat_tests) in no)
    by false false true e f g = absurd (let no : ⊥ = grind (arith, nat_tests) in no)

module _ {X : Type 0} (has : X → Bool) (place : X → ℕ) where
  abbrev pub below : ℕ → X → Bool
  below m x = has x && nat_lt (place x) m

  abbrev pub stands : ℕ → X → Bool
  stands m x = has x && nat_eq (place x) m

  abbrev pub Differ : List X → Type 0
  Differ xs = (i j : ℕ) (x y : X) → slice_get xs i ≡ Some x → slice_get xs j ≡ Some y → has x ≡ true → has y ≡ true → place x ≡ place y → i ≡ j

  later : (x : X) (xs : List X) → Differ (x ∷ xs) → Differ xs
  later x xs d i j y z e f h k s = let q : suc i ≡ suc j = d (suc i) (suc j) y z e f h k s in omega (arith, q)

  one_more : (m : ℕ) (xs : List X) → count_by (below (suc m)) xs ≡ count_by (below m) xs + count_by (stands m) xs
  one_more m [] = refl
  one_more m (x ∷ xs) =
      let a = count_cons (below (suc m)) x xs in
      let b = count_cons (below m) x xs in
      let c = count_cons (stands m) x xs in
      let s = split (has x) (place x) m in
      let rest = one_more m xs in
      omega (arith, a, b, c, s, rest)

  at_most_one : (m : ℕ) (xs : List X) → Differ xs → count_by (stands m) xs ≤ 1
  at_most_one m [] d = omega arith
  at_most_one m (x ∷ xs) d = by (at_most_one m xs (later x xs d)) (stands m x) refl
    where
      by : count_by (stands m) xs ≤ 1 → (b : Bool) → stands m x ≡ b → count_by (stands m) (x ∷ xs) ≤ 1
      by rest false e =
          let is : count_by (stands m) (x ∷ xs) ≡ 0 + count_by (stands m) xs = count_cons (stands m) x xs ∙ ap (λ b. cond b 1 0 + count_by (stands m) xs) e in
          omega (arith, rest, is)
      by rest true e =
          let here = both_true (has x) (nat_eq (place x) m) e in
          let none = none_of (stands m) xs (λ j y f. other here j y f (stands m y) refl) in
          let is : count_by (stands m) (x ∷ xs) ≡ 1 + count_by (stands m) xs = count_cons (stands m) x xs ∙ ap (λ b. cond b 1 0 + count_by (stands m) xs) e in
          omega (arith, none, is)
        where
          other : (has x ≡ true) × (nat_eq (place x) m ≡ true) → (j : ℕ) (y : X) → slice_get xs j ≡ Some y → (b : Bool) → stands m y ≡ b → stands m y ≡ false
          other here j y f false g = g
          other here j y f true g =
              let there = both_true (has y) (nat_eq (place y) m) g in
              let q : 0 ≡ suc j = d 0 (suc j) x y refl f here.0 there.0 (equal (place x) m here.1 ∙ sym (equal (place y) m there.1)) in
              absurd (omega (arith, q))

  module _ (test : ℕ → Bool) (xs : List X) (d : Differ xs) where
    at_place : (m : ℕ) → ((j : ℕ) (y : X) → slice_get xs j ≡ Some y → has y ≡ true → test (place y) ≡ true) → count_by (stands m) xs ≤ cond (test m) 1 0
    at_place m h = by (test m) refl
      where
        by : (b : Bool) → test m ≡ b → count_by (stands m) xs ≤ cond (test m) 1 0
        by true e = subst (λ b. count_by (stands m) xs ≤ cond b 1 0) (sym e) (at_most_one m xs d)
        by false e =
            let none = none_of (stands m) xs (λ j y f. other j y f (stands m y) refl) in
            subst (λ b. count_by (stands m) xs ≤ cond b 1 0) (sym e) (omega (arith, none))
          where
            other : (j : ℕ) (y : X) → slice_get xs j ≡ Some y → (b : Bool) → stands m y ≡ b → stands m y ≡ false
            other j y f false g = g
            other j y f true g =
                let there = both_true (has y) (nat_eq (place y) m) g in
                let no : true ≡ false = sym (h j y f there.0) ∙ ap test (equal (place y) m there.1) ∙ e in
                absurd cc

    up_to : (m : ℕ) → ((j : ℕ) (y : X) → slice_get xs j ≡ Some y → has y ≡ true → test (place y) ≡ true) → count_by (below m) xs ≤ free test m
    up_to zero h = let none = none_of (below 0) xs (λ j y f. no_lower (has y) (place y)) in omega (arith, none)
    up_to (suc m) h =
        let more = one_more m xs in
        let rest = up_to m h in
        let here = at_place m h in
        omega (arith, more, rest, here)

    pub pigeons : (m : ℕ) → ((j : ℕ) (y : X) → slice_get xs j ≡ Some y → has y ≡ true → test (place y) ≡ true) → ((j : ℕ) (y : X) → slice_get xs j ≡ Some y → has y ≡ true → place y < m) → count_by has xs ≤ free test m
    pigeons m h under = subst (λ k. k ≤ free test m) (sym (same_count has (below m) xs (λ j y f. same j y f (has y) refl))) (up_to m h)
      where
        less : (k : ℕ) → k < m → nat_lt k m ≡ true
        less k l = grind (arith, nat_tests)

        same : (j : ℕ) (y : X) → slice_get xs j ≡ Some y → (b : Bool) → has y ≡ b → has y ≡ below m y
        same j y f true e = e ∙ sym (ap (λ b. b && nat_lt (place y) m) e ∙ less (place y) (under j y f e))
        same j y f false e = e ∙ sym (ap (λ b. b && nat_lt (place y) m) e)
