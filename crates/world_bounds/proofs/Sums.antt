-- Sums over pipes: what each is charged with is within its room, and each thing is charged to one of them.
use Rattle.std.proofs.Common.{◌≡◌, ℕ, suc, ◌+◌, ◌*◌, ◌≤◌, ◌⊎◌, Bool, true, false, cond, List, [], ◌∷◌, length, refl, sym, ap, ◌∙◌, inl, inr, arith}
use Rattle.std.specs.Prelude.{Contains}
use Rattle.std.specs.List.{count_by}
use Rattle.std.proofs.Math.Nat.{suc-mul}
use Rattle.world_facts.proofs.ClaimedOnce.{count_cons}
use Rattle.world_laws.proofs.InOrder.{contains_cases, contains_first, contains_later, none_in_nil}

module _ {X : Type 0} where
  abbrev pub total : (X → ℕ) → List X → ℕ
  total f [] = 0
  total f (x ∷ xs) = f x + total f xs

  one_more : (f : X → ℕ) (g : X → ℕ) (r : ℕ) (x : X) (xs : List X) → f x + g x ≤ r → total f xs + total g xs ≤ length xs * r → total f (x ∷ xs) + total g (x ∷ xs) ≤ length (x ∷ xs) * r
  one_more f g r x xs here rest = let more : suc (length xs) * r ≡ length xs * r + r = suc-mul (length xs) r in omega (arith, here, rest, more)

  -- each is charged with no more than r
  pub charged : (f g : X → ℕ) (r : ℕ) (xs : List X) → ((x : X) → Contains xs x → f x + g x ≤ r) → total f xs + total g xs ≤ length xs * r
  charged f g r [] h = omega arith
  charged f g r (x ∷ xs) h = one_more f g r x xs (h x (contains_first x xs)) (charged f g r xs (λ y c. h y (contains_later x y xs c)))

  -- one of them with nothing leaves room for r
  pub one_idle : (f : X → ℕ) (r : ℕ) (xs : List X) (z : X) → ((x : X) → Contains xs x → f x ≤ r) → Contains xs z → f z ≡ 0 → total f xs + r ≤ length xs * r
  one_idle f r [] z h c e = absurd (none_in_nil z c)
  one_idle f r (x ∷ xs) z h c e = by (one_idle f r xs z (λ y d. h y (contains_later x y xs d))) (contains_cases x z xs c)
    where
      more : suc (length xs) * r ≡ length xs * r + r
      more = suc-mul (length xs) r

      none : (ys : List X) → total (λ (y : X). 0) ys ≡ 0
      none [] = refl
      none (y ∷ ys) = let rest = none ys in omega (arith, rest)

      zero_more : (n : ℕ) → n ≤ r → n + 0 ≤ r
      zero_more n l = omega (arith, l)

      by : (Contains xs z → f z ≡ 0 → total f xs + r ≤ length xs * r) → (x ≡ z) ⊎ Contains xs z → total f (x ∷ xs) + r ≤ length (x ∷ xs) * r
      by rest (inl same) =
          let nothing : f x ≡ 0 = ap f same ∙ e in
          let others = charged f (λ (y : X). 0) r xs (λ y d. zero_more (f y) (h y (contains_later x y xs d))) in
          let zero_sum = none xs in
          omega (arith, nothing, others, zero_sum, more)
      by rest (inr later) =
          let here = h x (contains_first x xs) in
          let others = rest later e in
          omega (arith, here, others, more)

  module _ {Q : Type 0} (takes : X → Q → Bool) (xs : List X) where
    abbrev taken_by : List Q → X → ℕ
    taken_by qs x = count_by (takes x) qs

    one_thing : (q : Q) (qs : List Q) (ys : List X) → total (taken_by (q ∷ qs)) ys ≡ total (λ x. cond (takes x q) 1 0) ys + total (taken_by qs) ys
    one_thing q qs [] = refl
    one_thing q qs (y ∷ ys) =
        let rest = one_thing q qs ys in
        let here = count_cons (takes y) q qs in
        omega (arith, rest, here)

    some_take : (q : Q) (ys : List X) (x : X) → Contains ys x → takes x q ≡ true → 1 ≤ total (λ x. cond (takes x q) 1 0) ys
    some_take q [] x c e = absurd (none_in_nil x c)
    some_take q (y ∷ ys) x c e = by (λ later. some_take q ys x later e) (contains_cases y x ys c)
      where
        by : (Contains ys x → 1 ≤ total (λ x. cond (takes x q) 1 0) ys) → (y ≡ x) ⊎ Contains ys x → 1 ≤ total (λ x. cond (takes x q) 1 0) (y ∷ ys)
        by rest (inl same) = let one : cond {A = ℕ} (takes y q) 1 0 ≡ 1 = ap (λ b. cond {A = ℕ} b 1 0) (ap (λ z. takes z q) same ∙ e) in omega (arith, one)
        by rest (inr later) = let others = rest later in omega (arith, others)

    -- each of the things is charged to one
    pub all_charged : (qs : List Q) → ((q : Q) → Contains qs q → (x : X) × Contains xs x × (takes x q ≡ true)) → length qs ≤ total (λ x. count_by (takes x) qs) xs
    all_charged [] h = omega arith
    all_charged (q ∷ qs) h =
        let rest = all_charged qs (λ r c. h r (contains_later q r qs c)) in
        let here = h q (contains_first q qs) in
        let one = some_take q xs here.0 here.1 here.2 in
        let sum = one_thing q qs xs in
        omega (arith, rest, one, sum)

-- all pass a test, or one doesn't
pub all_or_one : {X : Type 0} (t : X → Bool) (xs : List X) → ((x : X) → Contains xs x → t x ≡ true) ⊎ ((x : X) × Contains xs x × (t x ≡ false))
all_or_one t [] = inl (λ x c. absurd (none_in_nil x c))
all_or_one {X = X} t (x ∷ xs) = by (all_or_one t xs) (t x) refl
  where
    by : ((y : X) → Contains xs y → t y ≡ true) ⊎ ((y : X) × Contains xs y × (t y ≡ false)) → (b : Bool) → t x ≡ b → ((y : X) → Contains (x ∷ xs) y → t y ≡ true) ⊎ ((y : X) × Contains (x ∷ xs) y × (t y ≡ false))
    by rest false e = inr (x, contains_first x xs, e)
    by (inr one) true e = inr (one.0, contains_later x one.0 xs one.1, one.2)
    by (inl all) true e = inl (λ y c. of y (contains_cases x y xs c))
      where
        of : (y : X) → (x ≡ y) ⊎ Contains xs y → t y ≡ true
        of y (inl same) = ap t (sym same) ∙ e
        of y (inr later) = all y later

pub some_counted : {X : Type 0} (t : X → Bool) (xs : List X) → 1 ≤ count_by t xs → (x : X) × Contains xs x × (t x ≡ true)
some_counted t [] h = absurd (let no : 1 ≤ 0 = h in omega (arith, no))
some_counted {X = X} t (x ∷ xs) h = by (some_counted t xs) (t x) refl
  where
    by : (1 ≤ count_by t xs → (y : X) × Contains xs y × (t y ≡ true)) → (b : Bool) → t x ≡ b → (y : X) × Contains (x ∷ xs) y × (t y ≡ true)
    by rest true e = (x, contains_first x xs, e)
    by rest false e =
        let more = count_cons t x xs in
        let none : cond {A = ℕ} (t x) 1 0 ≡ 0 = ap (λ b. cond {A = ℕ} b 1 0) e in
        let later = rest (omega (arith, h, more, none)) in
        (later.0, contains_later x later.0 xs later.1, later.2)
