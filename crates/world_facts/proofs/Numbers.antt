-- Items that have the numbers below their count, each once, stand in the order of their numbers at these places.
use Rattle.std.proofs.Common.{◌≡◌, ◌≢◌, ℕ, zero, suc, ◌<◌, ◌+◌, ◌≤◌, Bool, true, false, cond, List, [], ◌∷◌, length, Some, None, refl, ap, ◌∙◌, arith}
use Rattle.std.specs.Prelude.{Contains, nat_eq, nat_le, nat_lt, slice_get, ⊤}
use Rattle.std.specs.List.{count_by}
use Rattle.std.proofs.lemmas.Bool.Decides.{nat_tests}
use Rattle.ps_frame.specs.Sorting.{in_order, insert_in_order}
use Rattle.world_facts.proofs.OpeningFacts.{count_first, counts_one, some_count}
use Rattle.world_laws.proofs.InOrder.{contains_first, contains_later}
use Rattle.world_laws.proofs.PassingPorts.{ordered}

module _ {A : Type 0} (num : A → ℕ) where
  abbrev pub lower : A → A → Bool
  lower p q = nat_lt (num p) (num q)

  -- numbers from a on, each above the one before
  abbrev Rises : ℕ → List A → Type 0
  Rises a [] = ⊤
  Rises a (x ∷ xs) = (a ≤ num x) × Rises (num x + 1) xs

  abbrev Differ : List A → Type 0
  Differ [] = ⊤
  Differ (x ∷ xs) = ((y : A) → Contains xs y → num y ≢ num x) × Differ xs

  insert_rises : (a : ℕ) (x : A) (ys : List A) → Rises a ys → a ≤ num x → ((y : A) → Contains ys y → num y ≢ num x) → Rises a (insert_in_order lower x ys)
  insert_rises a x [] r h apart = (h, tt)
  insert_rises a x (y ∷ ys) r h apart = by (nat_lt (num y) (num x)) refl (λ g. insert_rises (num y + 1) x ys r.1 g (λ z c. apart z (contains_later y z ys c)))
    where
      above : nat_lt (num y) (num x) ≡ true → num y + 1 ≤ num x
      above e = grind (arith, nat_tests)

      below : nat_lt (num y) (num x) ≡ false → num x ≤ num y
      below e = grind (arith, nat_tests)

      by : (b : Bool) → nat_lt (num y) (num x) ≡ b → (num y + 1 ≤ num x → Rises (num y + 1) (insert_in_order lower x ys)) → Rises a (insert_in_order lower x (y ∷ ys))
      by true e rest = rw e (r.0, rest (above e))
      by false e rest =
          let apart_here : num y ≢ num x = apart y (contains_first y ys) in
          let most = below e in
          let least : num x + 1 ≤ num y = omega arith in
          rw e (h, (least, r.1))

  order_rises : (xs : List A) → Differ xs → Rises 0 (in_order lower xs)
  order_rises [] d = tt
  order_rises (x ∷ xs) d = insert_rises 0 x (in_order lower xs) (order_rises xs d.1) (omega arith) (λ y c. d.0 y (ordered lower y xs c))

  insert_length : (x : A) (ys : List A) → length (insert_in_order lower x ys) ≡ suc (length ys)
  insert_length x [] = refl
  insert_length x (y ∷ ys) = by (nat_lt (num y) (num x)) refl (insert_length x ys)
    where
      by : (b : Bool) → nat_lt (num y) (num x) ≡ b → length (insert_in_order lower x ys) ≡ suc (length ys) → length (insert_in_order lower x (y ∷ ys)) ≡ suc (suc (length ys))
      by true e rest = rw e (ap suc rest)
      by false e rest = rw e refl

  pub order_length : (xs : List A) → length (in_order lower xs) ≡ length xs
  order_length [] = refl
  order_length (x ∷ xs) = insert_length x (in_order lower xs) ∙ ap suc (order_length xs)

  -- room below b for what rises from a on
  room : (a b : ℕ) (ys : List A) → a ≤ b → Rises a ys → ((y : A) → Contains ys y → num y < b) → a + length ys ≤ b
  room a b [] h r all = omega arith
  room a b (y ∷ ys) h r all =
      let here = all y (contains_first y ys) in
      let least = r.0 in
      let rest = room (num y + 1) b ys (omega arith) r.1 (λ z c. all z (contains_later y z ys c)) in
      omega arith

  at_least : (a : ℕ) (ys : List A) (j : ℕ) (y : A) → Rises a ys → slice_get ys j ≡ Some y → a + j ≤ num y
  at_least a [] j y r e = absurd (let no : None ≡ Some y = e in cc)
  at_least a (x ∷ xs) zero y r e = let same : x ≡ y = let q : Some x ≡ Some y = e in cc in let least = r.0 in let n = ap num same in omega arith
  at_least a (x ∷ xs) (suc j) y r e = let rest = at_least (num x + 1) xs j y r.1 e in let least = r.0 in omega arith

  at_most : (a b : ℕ) (ys : List A) (j : ℕ) (y : A) → Rises a ys → ((z : A) → Contains ys z → num z < b) → slice_get ys j ≡ Some y → num y + length ys ≤ b + j
  at_most a b [] j y r all e = absurd (let no : None ≡ Some y = e in cc)
  at_most a b (x ∷ xs) zero y r all e =
      let same : x ≡ y = let q : Some x ≡ Some y = e in cc in
      let n = ap num same in
      let here = all x (contains_first x xs) in
      let rest = room (num x + 1) b xs (omega arith) r.1 (λ z c. all z (contains_later x z xs c)) in
      omega arith
  at_most a b (x ∷ xs) (suc j) y r all e = let rest = at_most (num x + 1) b xs j y r.1 (λ z c. all z (contains_later x z xs c)) e in omega arith

  -- each item stands at the place of its number
  pub in_places : (xs : List A) → Differ xs → ((y : A) → Contains xs y → num y < length xs) → (j : ℕ) (y : A) → slice_get (in_order lower xs) j ≡ Some y → num y ≡ j
  in_places xs d all j y e =
      let r = order_rises xs d in
      let least = at_least 0 (in_order lower xs) j y r e in
      let most = at_most 0 (length xs) (in_order lower xs) j y r (λ z c. all z (ordered lower z xs c)) e in
      let same = order_length xs in
      omega arith

  -- at or above a number, and at that number
  abbrev from : ℕ → A → Bool
  from k x = nat_le k (num x)

  abbrev pub at : ℕ → A → Bool
  at k x = nat_eq (num x) k

  split_one : (k n : ℕ) → cond {A = ℕ} (nat_le k n) 1 0 ≡ cond (nat_le (k + 1) n) 1 0 + cond (nat_eq n k) 1 0
  split_one k n = grind (arith, nat_tests)

  split : (k : ℕ) (xs : List A) → count_by (from k) xs ≡ count_by (from (k + 1)) xs + count_by (at k) xs
  split k [] = refl
  split k (x ∷ xs) =
      let a = count_first (λ y. nat_le k (num y)) x xs in
      let b = count_first (λ y. nat_le (k + 1) (num y)) x xs in
      let c = count_first (λ y. nat_eq (num y) k) x xs in
      let one = split_one k (num x) in
      let rest = split k xs in
      omega (arith, a, b, c, one, rest)

  all_from_zero : (xs : List A) → count_by (from 0) xs ≡ length xs
  all_from_zero [] = refl
  all_from_zero (x ∷ xs) = let a = count_first (λ y. nat_le 0 (num y)) x xs in let rest = all_from_zero xs in let one : cond {A = ℕ} (nat_le 0 (num x)) 1 0 ≡ 1 = grind (arith, nat_tests) in omega (arith, a, rest, one)

  above : (m : ℕ) (xs : List A) → ((j : ℕ) → j < m → count_by (at j) xs ≡ 1) → count_by (from m) xs + m ≡ length xs
  above zero xs each = let all = all_from_zero xs in omega (arith, all)
  above (suc m) xs each =
      let rest = above m xs (λ j h. each j (omega arith)) in
      let here = each m (omega arith) in
      let cut = split m xs in
      let next : count_by (from (m + 1)) xs ≡ count_by (from (suc m)) xs = let e : m + 1 ≡ suc m = omega arith in ap (λ k. count_by (from k) xs) e in
      omega (arith, rest, here, cut, next)

  -- where each number below the count stands once, there is none above
  bounded : (xs : List A) → ((j : ℕ) → j < length xs → count_by (at j) xs ≡ 1) → (y : A) → Contains xs y → num y < length xs
  bounded xs each y c = by (nat_le (length xs) (num y)) refl
    where
      none : count_by (from (length xs)) xs ≡ 0
      none = let h = above (length xs) xs each in omega (arith, h)

      less : nat_le (length xs) (num y) ≡ false → num y < length xs
      less e = grind (arith, nat_tests)

      by : (b : Bool) → nat_le (length xs) (num y) ≡ b → num y < length xs
      by false e = less e
      by true e = absurd (let some = some_count (λ z. nat_le (length xs) (num z)) xs y c e in omega (arith, some, none))

  few_differ : (b : ℕ) (xs : List A) → ((y : A) → Contains xs y → num y < b) → ((j : ℕ) → j < b → count_by (at j) xs ≤ 1) → Differ xs
  few_differ b [] all few = tt
  few_differ b (x ∷ xs) all few = (apart, few_differ b xs (λ y c. all y (contains_later x y xs c)) (λ j h. let f = count_first (λ y. nat_eq (num y) j) x xs in let g = few j h in omega (arith, f, g)))
    where
      itself : (n m : ℕ) → n ≡ m → nat_eq n m ≡ true
      itself n m e = grind (arith, nat_tests)

      apart : (y : A) → Contains xs y → num y ≢ num x
      apart y c e =
          let f = count_first (λ z. nat_eq (num z) (num x)) x xs in
          let one = counts_one (nat_eq (num x) (num x)) (itself (num x) (num x) refl) in
          let more = some_count (λ z. nat_eq (num z) (num x)) xs y c (itself (num y) (num x) e) in
          let most = few (num x) (all x (contains_first x xs)) in
          omega (arith, f, one, more, most)

  -- where each number below the count stands once, each item stands in its place
  pub each_in_place : (xs : List A) → ((j : ℕ) → j < length xs → count_by (at j) xs ≡ 1) → (j : ℕ) (y : A) → slice_get (in_order lower xs) j ≡ Some y → num y ≡ j
  each_in_place xs each j y e =
      let all = bounded xs each in
      in_places xs (few_differ (length xs) xs all (λ k h. let one = each k h in omega (arith, one))) all j y e
