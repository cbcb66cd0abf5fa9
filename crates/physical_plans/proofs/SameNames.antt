-- The names in use are told by which numbers are taken: a list of rising numbers is told by its members.
use Rattle.std.proofs.Common.{◌≡◌, ◌⊎◌, inl, inr, ℕ, suc, ◌+◌, ◌<◌, Bool, true, false, List, [], ◌∷◌, refl, sym, ap, ◌∙◌, subst, arith}
use Rattle.std.specs.Prelude.{◌==◌, ◌||◌, slice_index}
use Rattle.std.specs.List.Sorted.{IsStrictlyIncreasing}
use Rattle.std.proofs.lemmas.Bool.{eq-eqb, eqb-true}
use Rattle.ps_meaning.specs.Steps.{Name}
use Rattle.ps_rules.specs.Names.{Knows, Names, is_taken}

is_first : (k x : ℕ) (xs : List ℕ) → k ≡ x → is_taken k (x ∷ xs) ≡ true
is_first k x xs e = by (x == k) (eq-eqb x k (sym e))
  where
    by : (b : Bool) → b ≡ true → (b || is_taken k xs) ≡ true
    by true q = refl
    by false q = cc

is_later : (k x : ℕ) (xs : List ℕ) → is_taken k xs ≡ true → is_taken k (x ∷ xs) ≡ true
is_later k x xs h = by (x == k)
  where
    by : (b : Bool) → (b || is_taken k xs) ≡ true
    by true = refl
    by false = h

-- it is the first, or one of the others
first_or_later : (k x : ℕ) (xs : List ℕ) → is_taken k (x ∷ xs) ≡ true → (k ≡ x) ⊎ (is_taken k xs ≡ true)
first_or_later k x xs h = by (x == k) refl h
  where
    by : (b : Bool) → (x == k) ≡ b → (b || is_taken k xs) ≡ true → (k ≡ x) ⊎ (is_taken k xs ≡ true)
    by true q rest = inl (sym (eqb-true x k q))
    by false q rest = inr rest

rising_rest : (x : ℕ) (xs : List ℕ) → IsStrictlyIncreasing (x ∷ xs) → IsStrictlyIncreasing xs
rising_rest x xs rise k lt =
    let next : suc k + 1 ≡ suc (k + 1) = omega arith in
    subst (λ j. slice_index (x ∷ xs) (suc k) < slice_index (x ∷ xs) j) next (rise (suc k) (omega arith))

-- the first is below each other one
above_first : (x : ℕ) (xs : List ℕ) → IsStrictlyIncreasing (x ∷ xs) → (k : ℕ) → is_taken k xs ≡ true → x < k
above_first x [] rise k h = cc
above_first x (y ∷ ys) rise k h = by (first_or_later k y ys h) (above_first y ys (rising_rest x (y ∷ ys) rise) k)
  where
    next : x < y
    next = rise 0 (omega arith)

    by : (k ≡ y) ⊎ (is_taken k ys ≡ true) → (is_taken k ys ≡ true → y < k) → x < k
    by (inl e) later = let below : x < y = next in omega arith
    by (inr t) later = let below : x < y = next in let far : y < k = later t in omega arith

abbrev Within : List ℕ → List ℕ → Type 0
Within xs ys = (k : ℕ) → is_taken k xs ≡ true → is_taken k ys ≡ true

-- what is among the others of one list is among the others of a list with the same first
rest_within : (x y : ℕ) (xs ys : List ℕ) → x ≡ y → IsStrictlyIncreasing (x ∷ xs) → Within (x ∷ xs) (y ∷ ys) → Within xs ys
rest_within x y xs ys same rise within k h = by (first_or_later k y ys (within k (is_later k x xs h)))
  where
    far : x < k
    far = above_first x xs rise k h

    by : (k ≡ y) ⊎ (is_taken k ys ≡ true) → is_taken k ys ≡ true
    by (inl e) = let above : x < k = far in absurd (omega arith)
    by (inr t) = t

not_below : (x y : ℕ) (xs ys : List ℕ) → IsStrictlyIncreasing (y ∷ ys) → Within (x ∷ xs) (y ∷ ys) → x < y → ⊥
not_below x y xs ys rise within lt = by (first_or_later x y ys (within x (is_first x x xs refl)))
  where
    by : (x ≡ y) ⊎ (is_taken x ys ≡ true) → ⊥
    by (inl e) = absurd (omega arith)
    by (inr t) = let far : y < x = above_first y ys rise x t in absurd (omega arith)

sides : (x y : ℕ) → (x < y) ⊎ ((y < x) ⊎ (x ≡ y))
sides x y = grind arith

same_rising : (xs ys : List ℕ) → IsStrictlyIncreasing xs → IsStrictlyIncreasing ys → Within xs ys → Within ys xs → xs ≡ ys
same_rising [] [] p q there back = refl
same_rising [] (y ∷ ys) p q there back = let w : false ≡ true = back y (is_first y y ys refl) in cc
same_rising (x ∷ xs) [] p q there back = let w : false ≡ true = there x (is_first x x xs refl) in cc
same_rising (x ∷ xs) (y ∷ ys) p q there back = by (sides x y) (same_rising xs ys (rising_rest x xs p) (rising_rest y ys q))
  where
    by : (x < y) ⊎ ((y < x) ⊎ (x ≡ y)) → (Within xs ys → Within ys xs → xs ≡ ys) → (x ∷ xs) ≡ (y ∷ ys)
    by (inl lt) rest = absurd (not_below x y xs ys q there lt)
    by (inr (inl lt)) rest = absurd (not_below y x ys xs p back lt)
    by (inr (inr same)) rest =
        let others : xs ≡ ys = rest (rest_within x y xs ys same p there) (rest_within y x ys xs (sym same) q back) in
        ap (λ n. n ∷ xs) same ∙ ap (λ ns. y ∷ ns) others

-- names that know the same are the same, but for the counter
pub same_taken : (m n : Names) (InUse : Name → Type 0) → Knows m InUse → Knows n InUse → m.taken ≡ n.taken
same_taken m n InUse p q =
    same_rising m.taken n.taken p.rising q.rising (λ k is. (q.taken k).1 ((p.taken k).0 is)) (λ k is. (p.taken k).1 ((q.taken k).0 is))

pub same_names : (m n : Names) (InUse : Name → Type 0) → Knows m InUse → Knows n InUse → m.next ≡ 0 → n.next ≡ 0 → m ≡ n
same_names m n InUse p q zero_m zero_n =
    ap (λ taken. record { taken = taken; next = m.next }) (same_taken m n InUse p q)
    ∙ ap (λ next. record { taken = n.taken; next = next }) (zero_m ∙ sym zero_n)
