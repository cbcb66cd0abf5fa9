-- Slots that all have a value, and the places of those that pass a test.
use Rattle.std.proofs.Common.{◌≡◌, ℕ, suc, zero, ◌+◌, ◌<◌, Bool, true, false, cond, List, [], ◌∷◌, length, Option, Some, None, refl, sym, ap, subst, ◌∙◌, arith}
use Rattle.std.specs.Prelude.{IsTrue, ◌||◌, ◌&&◌, count_by, is_some, nat_eq, slice_get}
use Rattle.std.specs.List.{filter as kept, list_all}
use Rattle.std.proofs.lemmas.List.Sums.{length-filter}
use Rattle.keyed_slots.specs.Slots.{value_at}
use Rattle.ps_frame.specs.Sorting.{in_order, insert_in_order}
use Rattle.ps_ports.specs.Phases.{is_one_of}
use Rattle.ps_settle.proofs.Ends.{is_number, same_number}
use Rattle.ps_graph.specs.Shown.{are_there, places_from, values}

pub value_there : {A : Type 0} (slots : List (Option A)) → IsTrue (are_there slots) → (k : ℕ) → value_at slots k ≡ slice_get (values slots) k
value_there [] e k = refl
value_there (None ∷ xs) e k = absurd (let clash : false ≡ true = e in cc)
value_there (Some x ∷ xs) e zero = refl
value_there (Some x ∷ xs) e (suc k) = value_there xs e k

pub length_there : {A : Type 0} (slots : List (Option A)) → IsTrue (are_there slots) → length (values slots) ≡ length slots
length_there [] e = refl
length_there (None ∷ xs) e = absurd (let clash : false ≡ true = e in cc)
length_there (Some x ∷ xs) e = ap suc (length_there xs e)

-- slots of which each has a value
pub all_there : {A : Type 0} (slots : List (Option A)) → ((k : ℕ) → k < length slots → (x : A) × (value_at slots k ≡ Some x)) → IsTrue (are_there slots)
all_there [] h = refl
all_there (None ∷ xs) h = absurd (let f = h 0 (omega arith) in let clash : None ≡ Some f.0 = f.1 in cc)
all_there (Some x ∷ xs) h = all_there xs (λ k lt. h (suc k) (omega arith))

-- a number of a list of places is the place of an item that passes the test
pub is_place : {A : Type 0} (k0 : ℕ) (test : A → Bool) (xs : List A) (k : ℕ) → IsTrue (is_one_of k (places_from k0 test xs)) → (i : ℕ) × (x : A) × (slice_get xs i ≡ Some x) × (test x ≡ true) × (k ≡ k0 + i)
is_place k0 test [] k e = absurd (let clash : false ≡ true = e in cc)
is_place {A} k0 test (y ∷ ys) k e = by (is_place (k0 + 1) test ys k) (test y) refl
  where
    later : (i : ℕ) × (x : A) × (slice_get ys i ≡ Some x) × (test x ≡ true) × (k ≡ k0 + 1 + i) → (i : ℕ) × (x : A) × (slice_get (y ∷ ys) i ≡ Some x) × (test x ≡ true) × (k ≡ k0 + i)
    later (i, x, at, passes, is) = (suc i, x, at, passes, omega (arith, is))

    first : (b : Bool) → nat_eq k k0 ≡ b → (IsTrue (is_one_of k (places_from (k0 + 1) test ys)) → (i : ℕ) × (x : A) × (slice_get ys i ≡ Some x) × (test x ≡ true) × (k ≡ k0 + 1 + i)) → test y ≡ true
        → IsTrue (b || is_one_of k (places_from (k0 + 1) test ys)) → (i : ℕ) × (x : A) × (slice_get (y ∷ ys) i ≡ Some x) × (test x ≡ true) × (k ≡ k0 + i)
    first true same rest passes d = let is = is_number k k0 same in (0, y, refl, passes, omega (arith, is))
    first false same rest passes d = later (rest d)

    by : (IsTrue (is_one_of k (places_from (k0 + 1) test ys)) → (i : ℕ) × (x : A) × (slice_get ys i ≡ Some x) × (test x ≡ true) × (k ≡ k0 + 1 + i)) → (b : Bool) → test y ≡ b
        → (i : ℕ) × (x : A) × (slice_get (y ∷ ys) i ≡ Some x) × (test x ≡ true) × (k ≡ k0 + i)
    by rest true passes = first (nat_eq k k0) refl rest passes (rw passes at e)
    by rest false passes = later (rest (rw passes at e))

or_right : (a b : Bool) → IsTrue b → IsTrue (a || b)
or_right true b e = refl
or_right false b e = e

pub place_is : {A : Type 0} (k0 : ℕ) (test : A → Bool) (xs : List A) (i : ℕ) (x : A) → slice_get xs i ≡ Some x → test x ≡ true → IsTrue (is_one_of (k0 + i) (places_from k0 test xs))
place_is k0 test [] i x at passes = absurd (let clash : None ≡ Some x = at in cc)
place_is k0 test (y ∷ ys) zero x at passes =
    let same : y ≡ x = (let both : Some y ≡ Some x = at in cc) in
    let t : test y ≡ true = ap test same ∙ passes in
    let is : nat_eq (k0 + 0) k0 ≡ true = same_number (k0 + 0) k0 (omega arith) in
    rw t (ap (λ b. b || is_one_of (k0 + 0) (places_from (k0 + 1) test ys)) is)
place_is k0 test (y ∷ ys) (suc i) x at passes = by (place_is (k0 + 1) test ys i x at passes) (test y) refl
  where
    by : IsTrue (is_one_of (k0 + 1 + i) (places_from (k0 + 1) test ys)) → (b : Bool) → test y ≡ b → IsTrue (is_one_of (k0 + suc i) (places_from k0 test (y ∷ ys)))
    by rest b t =
        let same : k0 + 1 + i ≡ k0 + suc i = omega arith in
        let P : ℕ → Type 0 = λ n. IsTrue (is_one_of n (places_from (k0 + 1) test ys)) in
        let here = subst P same rest in
        here_by b t here
      where
        here_by : (b : Bool) → test y ≡ b → IsTrue (is_one_of (k0 + suc i) (places_from (k0 + 1) test ys)) → IsTrue (is_one_of (k0 + suc i) (places_from k0 test (y ∷ ys)))
        here_by true t h = rw t (or_right (nat_eq (k0 + suc i) k0) (is_one_of (k0 + suc i) (places_from (k0 + 1) test ys)) h)
        here_by false t h = rw t h

-- so whether a number is a place is whether the item there passes
pub place_test : {A : Type 0} (test : A → Bool) (xs : List A) (k : ℕ) (x : A) → slice_get xs k ≡ Some x → is_one_of k (places_from 0 test xs) ≡ test x
place_test {A = A} test xs k x at = by (test x) refl (is_one_of k (places_from 0 test xs)) refl
  where
    same_item : (i : ℕ) (y : A) → slice_get xs i ≡ Some y → k ≡ 0 + i → y ≡ x
    same_item i y there is = let both : Some y ≡ Some x = sym there ∙ ap (slice_get xs) (let j : i ≡ k = omega (arith, is) in j) ∙ at in cc

    by : (b : Bool) → test x ≡ b → (c : Bool) → is_one_of k (places_from 0 test xs) ≡ c → is_one_of k (places_from 0 test xs) ≡ test x
    by true passes c e =
        let here = place_is 0 test xs k x at passes in
        let same : 0 + k ≡ k = omega arith in
        let P : ℕ → Type 0 = λ n. IsTrue (is_one_of n (places_from 0 test xs)) in
        subst P same here ∙ sym passes
    by false fails true e = let p = is_place 0 test xs k e in absurd (let clash : true ≡ false = sym p.3 ∙ ap test (same_item p.0 p.1 p.2 p.4) ∙ fails in cc)
    by false fails false e = e ∙ sym fails

pub length_places : {A : Type 0} (k0 : ℕ) (test : A → Bool) (xs : List A) → length (places_from k0 test xs) ≡ length (kept test xs)
length_places k0 test [] = refl
length_places k0 test (x ∷ xs) = by (length_places (k0 + 1) test xs) (test x)
  where
    by : length (places_from (k0 + 1) test xs) ≡ length (kept test xs) → (b : Bool) → length (cond b (k0 ∷ places_from (k0 + 1) test xs) (places_from (k0 + 1) test xs)) ≡ length (cond b (x ∷ kept test xs) (kept test xs))
    by rest true = ap suc rest
    by rest false = rest

length_insert : {A : Type 0} (less : A → A → Bool) (x : A) (ys : List A) → length (insert_in_order less x ys) ≡ suc (length ys)
length_insert less x [] = refl
length_insert less x (y ∷ ys) = by (length_insert less x ys) (less y x)
  where
    by : length (insert_in_order less x ys) ≡ suc (length ys) → (b : Bool) → length (cond b (y ∷ insert_in_order less x ys) (x ∷ y ∷ ys)) ≡ suc (suc (length ys))
    by rest true = ap suc rest
    by rest false = refl

pub length_in_order : {A : Type 0} (less : A → A → Bool) (xs : List A) → length (in_order less xs) ≡ length xs
length_in_order less [] = refl
length_in_order less (x ∷ xs) = length_insert less x (in_order less xs) ∙ ap suc (length_in_order less xs)

kept_all : {A : Type 0} (p : A → Bool) (xs : List A) → IsTrue (list_all p xs) → kept p xs ≡ xs
kept_all p [] e = refl
kept_all p (x ∷ xs) e = by (p x) refl (kept_all p xs) e
  where
    by : (b : Bool) → p x ≡ b → (IsTrue (list_all p xs) → kept p xs ≡ xs) → IsTrue (b && list_all p xs) → kept p (x ∷ xs) ≡ x ∷ xs
    by true px rest h = rw px (ap (λ l. x ∷ l) (rest h))
    by false px rest h = absurd (let clash : false ≡ true = h in cc)

pub count_there : {A : Type 0} (slots : List (Option A)) → IsTrue (are_there slots) → count_by is_some slots ≡ length slots
count_there slots e = sym (length-filter is_some slots) ∙ ap length (kept_all is_some slots e)
