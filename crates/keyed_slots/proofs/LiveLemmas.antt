-- Lemmas on the keys that have a value: they are found, none is left out, and they rise.
use Rattle.std.proofs.Common.{◌≡◌, ◌≢◌, ℕ, zero, suc, ◌+◌, ◌<◌, List, [], ◌∷◌, map, Option, Some, None, IsSome, All, AllPairs, Contains, refl, ap, subst, zero-add, arith}
use Rattle.std.proofs.lemmas.List.Elements.{All-nil, All-cons, All-map, All-weaker}
use Rattle.std.proofs.lemmas.List.Kept.{AllPairs-cons}
use Rattle.keyed_slots.specs.Slots.{value_at, live_from, live}

module _ {X : Type 0} where
  Contains-later : (x y : X) (xs : List X) → Contains xs y → Contains (x ∷ xs) y
  Contains-later x y xs (k, within, at) = (suc k, omega arith, at)

  AllPairs-nil : (R : X → X → Type 0) → AllPairs R []
  AllPairs-nil R i j d below within = absurd (omega arith)

module _ {K V : Type 0} (number_of : K → ℕ) (key_of : ℕ → K) (number_of_key : (n : ℕ) → number_of (key_of n) ≡ n) where
  -- the pair's value stands in the slot of its key, where the first slot has this number
  abbrev StandsIn : ℕ → List (Option V) → K × V → Type 0
  StandsIn number slots p = (k : ℕ) × (number_of p.0 ≡ number + k) × (value_at slots k ≡ Some p.1)

  stands_behind : (number : ℕ) (slot : Option V) (rest : List (Option V)) (p : K × V) → StandsIn (number + 1) rest p → StandsIn number (slot ∷ rest) p
  stands_behind number slot rest p (k, e, at) = (suc k, omega (arith, e), at)

  live_from-stands : (number : ℕ) (slots : List (Option V)) → All (StandsIn number slots) (live_from key_of number slots)
  live_from-stands number [] = All-nil (StandsIn number [])
  live_from-stands number (None ∷ rest) =
      All-weaker (StandsIn (number + 1) rest) (StandsIn number (None ∷ rest)) (stands_behind number None rest) (live_from key_of (number + 1) rest) (live_from-stands (number + 1) rest)
  live_from-stands number (Some value ∷ rest) =
      All-cons (StandsIn number (Some value ∷ rest)) (key_of number, value) (live_from key_of (number + 1) rest) (0, omega (arith, number_of_key number), refl)
      (All-weaker (StandsIn (number + 1) rest) (StandsIn number (Some value ∷ rest)) (stands_behind number (Some value) rest) (live_from key_of (number + 1) rest) (live_from-stands (number + 1) rest))

  found_at : (slots : List (Option V)) (p : K × V) → StandsIn 0 slots p → value_at slots (number_of p.0) ≡ Some p.1
  found_at slots p (k, e, at) = rw (e, zero-add) at

  -- each key has its value
  pub live-found : (slots : List (Option V)) → All (λ p. value_at slots (number_of p.0) ≡ Some p.1) (live key_of slots)
  live-found slots = All-weaker (StandsIn 0 slots) (λ p. value_at slots (number_of p.0) ≡ Some p.1) (found_at slots) (live key_of slots) (live_from-stands 0 slots)

  pub keys-found : (slots : List (Option V)) → All (λ key. IsSome (value_at slots (number_of key))) (map (λ (p : K × V). p.0) (live key_of slots))
  keys-found slots =
      All-map (λ key. IsSome (value_at slots (number_of key))) (λ (p : K × V). p.0) (live key_of slots)
      (All-weaker (λ p. value_at slots (number_of p.0) ≡ Some p.1) (λ p. IsSome (value_at slots (number_of p.0))) (λ p at. rw at refl) (live key_of slots) (live-found slots))

  -- each pair's number is below those of all later ones
  abbrev IsBefore : K × V → K × V → Type 0
  IsBefore p q = number_of p.0 < number_of q.0

  first_before : (number : ℕ) (value : V) (rest : List (Option V)) (p : K × V) → StandsIn (number + 1) rest p → IsBefore (key_of number, value) p
  first_before number value rest p (k, e, at) = omega (arith, e, number_of_key number)

  first_before_all : (number : ℕ) (value : V) (rest : List (Option V)) → All (IsBefore (key_of number, value)) (live_from key_of (number + 1) rest)
  first_before_all number value rest =
      All-weaker (StandsIn (number + 1) rest) (IsBefore (key_of number, value)) (first_before number value rest) (live_from key_of (number + 1) rest) (live_from-stands (number + 1) rest)

  live_from-rise : (number : ℕ) (slots : List (Option V)) → AllPairs IsBefore (live_from key_of number slots)
  live_from-rise number [] = AllPairs-nil IsBefore
  live_from-rise number (None ∷ rest) = live_from-rise (number + 1) rest
  live_from-rise number (Some value ∷ rest) =
      AllPairs-cons IsBefore (key_of number, value) (live_from key_of (number + 1) rest) (first_before_all number value rest) (live_from-rise (number + 1) rest)

  pub live-rise : (slots : List (Option V)) → AllPairs (λ p q. number_of p.0 < number_of q.0) (live key_of slots)
  live-rise slots = live_from-rise 0 slots

  keys_from-rise : (number : ℕ) (slots : List (Option V)) → AllPairs (λ a b. number_of a < number_of b) (map (λ (p : K × V). p.0) (live_from key_of number slots))
  keys_from-rise number [] = AllPairs-nil (λ a b. number_of a < number_of b)
  keys_from-rise number (None ∷ rest) = keys_from-rise (number + 1) rest
  keys_from-rise number (Some value ∷ rest) =
      AllPairs-cons (λ a b. number_of a < number_of b) (key_of number) (map (λ (p : K × V). p.0) (live_from key_of (number + 1) rest))
      (All-map (λ b. number_of (key_of number) < number_of b) (λ (p : K × V). p.0) (live_from key_of (number + 1) rest) (first_before_all number value rest))
      (keys_from-rise (number + 1) rest)

  pub keys-rise : (slots : List (Option V)) → AllPairs (λ a b. number_of a < number_of b) (map (λ (p : K × V). p.0) (live key_of slots))
  keys-rise slots = keys_from-rise 0 slots

module _ {K V : Type 0} (number_of : K → ℕ) (key_of : ℕ → K) (key_of_number : (key : K) → key_of (number_of key) ≡ key) where
  live_from-complete : (number : ℕ) (slots : List (Option V)) (k : ℕ) (value : V) → value_at slots k ≡ Some value → Contains (live_from key_of number slots) (key_of (number + k), value)
  live_from-complete number [] k value at = cc
  live_from-complete number (None ∷ rest) zero value at = cc
  live_from-complete number (None ∷ rest) (suc k) value at =
      let shift : number + suc k ≡ number + 1 + k = omega arith in
      rw shift (live_from-complete (number + 1) rest k value at)
  live_from-complete number (Some other ∷ rest) zero value at =
      let same : other ≡ value = cc in
      let there : number ≡ number + zero = omega arith in
      let pair : (key_of number, other) ≡ (key_of (number + zero), value) = λ i. (key_of (there i), same i) in
      subst (Contains (live_from key_of number (Some other ∷ rest))) pair (0, omega arith, refl)
  live_from-complete number (Some other ∷ rest) (suc k) value at =
      let shift : number + suc k ≡ number + 1 + k = omega arith in
      rw shift (Contains-later (key_of number, other) (key_of (number + 1 + k), value) (live_from key_of (number + 1) rest) (live_from-complete (number + 1) rest k value at))

  -- no key that has a value is left out
  pub live-complete : (slots : List (Option V)) (key : K) (value : V) → value_at slots (number_of key) ≡ Some value → Contains (live key_of slots) (key, value)
  live-complete slots key value at =
      let whole : key_of (0 + number_of key) ≡ key = rw zero-add (key_of_number key) in
      rw whole at (live_from-complete 0 slots (number_of key) value at)

  Contains-keys : (xs : List (K × V)) (key : K) (value : V) → Contains xs (key, value) → Contains (map (λ (p : K × V). p.0) xs) key
  Contains-keys [] key value (k, within, at) = absurd (omega arith)
  Contains-keys (x ∷ xs) key value (zero, within, at) = (0, omega arith, ap (λ (p : K × V). p.0) at)
  Contains-keys (x ∷ xs) key value (suc k, within, at) = Contains-later x.0 key (map (λ (p : K × V). p.0) xs) (Contains-keys xs key value (k, omega arith, at))

  keys-complete-at : (slots : List (Option V)) (key : K) (held : Option V) → value_at slots (number_of key) ≡ held → IsSome held → Contains (map (λ (p : K × V). p.0) (live key_of slots)) key
  keys-complete-at slots key None at some = cc
  keys-complete-at slots key (Some value) at some = Contains-keys (live key_of slots) key value (live-complete slots key value at)

  pub keys-complete : (slots : List (Option V)) (key : K) → IsSome (value_at slots (number_of key)) → Contains (map (λ (p : K × V). p.0) (live key_of slots)) key
  keys-complete slots key some = keys-complete-at slots key (value_at slots (number_of key)) refl some

module _ {K : Type 0} (number_of : K → ℕ) where
  -- what rises differs
  pub differ-from_rise : (keys : List K) → AllPairs (λ a b. number_of a < number_of b) keys → AllPairs (λ a b. a ≢ b) keys
  differ-from_rise keys rise i j d below within same = omega (arith, rise i j d below within, ap number_of same)
