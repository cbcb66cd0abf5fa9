-- Where lists that lie one after another start.
use Rattle.std.proofs.Common.{◌≡◌, ℕ, zero, suc, ◌<◌, ◌≤◌, ◌-◌, ◌+◌, List, [], ◌∷◌, ◌++◌, length, get_or, take, drop, refl, sym, ◌∙◌, ap, arith, append_assoc, append-nil, length-append}
use Rattle.std.specs.Prelude.{Some, slice_get}
use Rattle.std.specs.List.Sorted.{IsNonDecreasingBy}
use Rattle.std.specs.List.Sorted.{IsPartitionPoint}
use Rattle.std.proofs.Common.{⊎_elim, true, false, subst, leb, leb-true, leb-false}
use Rattle.std.proofs.lemmas.Bool.{cases_lt}
use Rattle.std.proofs.lemmas.List.{take_all, take_more}
use Rattle.std.proofs.lemmas.Option.{get_or_from_slice_get, same_Some}
use Rattle.ps_frame.proofs.Seams.{drop-next, end_to_end-push, slice_get-before, slice_get-behind}
use Rattle.ps_frame.specs.EndToEnd.{end_to_end, starts_from}

-- what a search by halves finds among starts of which the first is not past a place
module _ (xs : List ℕ) (i r : ℕ) (point : IsPartitionPoint (λ y. leb y i ≡ true) (λ y. leb y i ≡ false) xs r) where
  pub point-some : 0 < length xs → get_or xs 0 0 ≤ i → 1 ≤ r
  point-some some begun =
      ⊎_elim
      (λ lt. omega (arith, lt))
      (λ ge. absurd (let above = leb-false (get_or xs 0 0) i (point.1 0 0 ge some) in omega (arith, above, begun)))
      (cases_lt 0 r)

  pub point-begun : 0 < length xs → get_or xs 0 0 ≤ i → get_or xs (r - 1) 0 ≤ i
  point-begun some begun = let one = point-some some begun in leb-true (get_or xs (r - 1) 0) i (point.0 (r - 1) 0 (omega arith) (omega (arith, one)))

  pub point-last : r - 1 + 1 < length xs → i < get_or xs (r - 1 + 1) 0
  point-last within = leb-false (get_or xs (r - 1 + 1) 0) i (point.1 (r - 1 + 1) 0 (omega arith) within)

module _ {A : Type 0} where
  -- a walk over lists, which notes where each starts
  pub noted-later : (xss : List (List A)) (old new : List ℕ) (k next : ℕ) (xs : List A) → slice_get xss k ≡ Some xs → new ≡ old ++ next ∷ []
      → new ++ starts_from (next + length xs) (drop (k + 1) xss) ≡ old ++ starts_from next (drop k xss)
  noted-later xss old new k next xs there pushed =
      ap (λ l. l ++ starts_from (next + length xs) (drop (k + 1) xss)) pushed
      ∙ append_assoc old (next ∷ []) (starts_from (next + length xs) (drop (k + 1) xss))
      ∙ ap (λ l. old ++ starts_from next l) (sym (drop-next xss k xs there))

  pub left-later : (xss : List (List A)) (k next : ℕ) (xs : List A) → slice_get xss k ≡ Some xs
      → (next + length xs) + length (end_to_end (drop (k + 1) xss)) ≡ next + length (end_to_end (drop k xss))
  left-later xss k next xs there =
      let e = ap (λ zss. length (end_to_end zss)) (drop-next xss k xs there) in
      let f = length-append xs (end_to_end (drop (k + 1) xss)) in
      omega (arith, e, f)

  -- each starts behind those in front of it
  start-at : (start : ℕ) (xss : List (List A)) (k d : ℕ) → k < length xss → get_or (starts_from start xss) k d ≡ start + length (end_to_end (take k xss))
  start-at start [] k d h = absurd (omega arith)
  start-at start (xs ∷ xss) zero d h = omega arith
  start-at start (xs ∷ xss) (suc k) d h = start-at (start + length xs) xss k d (omega arith) ∙ (let e = length-append xs (end_to_end (take k xss)) in omega (arith, e))

  starts-count : (start : ℕ) (xss : List (List A)) → length (starts_from start xss) ≡ length xss
  starts-count start [] = refl
  starts-count start (xs ∷ xss) = ap suc (starts-count (start + length xs) xss)

  ends-rise : (xss : List (List A)) (i j : ℕ) → i ≤ j → length (end_to_end (take i xss)) ≤ length (end_to_end (take j xss))
  ends-rise xss zero j h = omega arith
  ends-rise xss (suc i) zero h = absurd (omega arith)
  ends-rise [] (suc i) (suc j) h = omega arith
  ends-rise (xs ∷ xss) (suc i) (suc j) h =
      let e = length-append xs (end_to_end (take i xss)) in
      let f = length-append xs (end_to_end (take j xss)) in
      let rest = ends-rise xss i j (omega arith) in omega (arith, e, f, rest)

  starts-rise : (start : ℕ) (xss : List (List A)) → IsNonDecreasingBy (λ n. n) (starts_from start xss)
  starts-rise start xss i j d h l =
      let count = starts-count start xss in
      let at-i = start-at start xss i d (omega (arith, count)) in
      let at-j = start-at start xss j d (omega (arith, count)) in
      let rise = ends-rise xss i j h in omega (arith, at-i, at-j, rise)

  -- what lies behind the first list lies in one of the rest
  rest-some : (first : List A) (rest : List (List A)) (i : ℕ) → length first ≤ i → i < length (first ++ end_to_end rest) → 0 < length rest
  rest-some first [] i h l = let e = ap length (append-nil first) in absurd (omega (arith, e, h, l))
  rest-some first (xs ∷ rest) i h l = omega arith

  -- the item at a place that lies in the list behind the first k of the rest
  item-found : (first : List A) (rest : List (List A)) (k i j : ℕ) (xs : List A) (x : A) → slice_get rest k ≡ Some xs → i ≡ length first + length (end_to_end (take k rest)) + j
      → j < length xs → slice_get xs j ≡ Some x → slice_get (first ++ end_to_end rest) i ≡ Some x
  item-found first [] k i j xs x there e h is = cc
  item-found first (ys ∷ rest) zero i j xs x there e h is =
      let same : ys ≡ xs = same_Some ys xs there in
      let place : i ≡ length first + 0 + j = e in
      let within : j < length ys = subst (λ (l : List A). j < length l) (sym same) h in
      let behind : i - length first ≡ j = omega (arith, place) in
      slice_get-behind first (ys ++ end_to_end rest) i (omega (arith, place))
      ∙ ap (slice_get (ys ++ end_to_end rest)) behind
      ∙ slice_get-before ys (end_to_end rest) j within
      ∙ ap (λ (l : List A). slice_get l j) same
      ∙ is
  item-found first (ys ∷ rest) (suc k) i j xs x there e h is =
      let f = length-append ys (end_to_end (take k rest)) in
      let g = length-append first ys in
      sym (ap (λ (l : List A). slice_get l i) (append_assoc first ys (end_to_end rest)))
      ∙ item-found (first ++ ys) rest k i j xs x there (omega (arith, e, f, g)) h is

  -- a place of all that lies in front of the next start lies in the list
  item-within : (first : List A) (rest : List (List A)) (k i : ℕ) (xs : List A) → k < length rest → slice_get rest k ≡ Some xs → i < length (first ++ end_to_end rest)
      → (k + 1 < length rest → i < length first + length (end_to_end (take (k + 1) rest))) → i < length first + length (end_to_end (take k rest)) + length xs
  item-within first rest k i xs h is l next =
      let more = ap length (end_to_end-push (take k rest) (take (k + 1) rest) xs (take_more rest k xs h ∙ ap (λ (z : List A). take k rest ++ z ∷ []) (get_or_from_slice_get rest k xs xs is))) in
      let sum = length-append (end_to_end (take k rest)) xs in
      ⊎_elim
      (λ lt. let here = next lt in omega (arith, more, sum, here))
      (λ ge.
      let all = ap (λ (zss : List (List A)). length (end_to_end zss)) (take_all (k + 1) rest ge) in
      let whole = length-append first (end_to_end rest) in omega (arith, more, sum, all, whole, l))
      (cases_lt (k + 1) (length rest))

-- a search for an item that lies behind the first list
module _ {A : Type 0} (first : List A) (rest : List (List A)) (starts : List ℕ) (i : ℕ) (noted : starts ≡ starts_from (length first) rest) (behind : length first ≤ i) (within : i < length (first ++ end_to_end rest)) where
  count : length starts ≡ length rest
  count = ap length noted ∙ starts-count (length first) rest

  start-of : (k : ℕ) → k < length rest → get_or starts k 0 ≡ length first + length (end_to_end (take k rest))
  start-of k h = ap (λ (l : List ℕ). get_or l k 0) noted ∙ start-at (length first) rest k 0 h

  pub search-rise : IsNonDecreasingBy (λ n. n) starts
  search-rise = subst (λ (l : List ℕ). IsNonDecreasingBy (λ n. n) l) (sym noted) (starts-rise (length first) rest)

  filled : 0 < length rest
  filled = rest-some first rest i behind within

  pub search-some : 0 < length starts
  search-some = omega (arith, count, filled)

  pub search-begun : get_or starts 0 0 ≤ i
  search-begun = let e : get_or starts 0 0 ≡ length first + 0 = start-of 0 filled in omega (arith, e, behind)

  module _ (k : ℕ) (there : k < length starts) (begun : get_or starts k 0 ≤ i) (last : k + 1 < length starts → i < get_or starts (k + 1) 0) where
    pub search-there : k < length rest
    search-there = omega (arith, count, there)

    module _ (xs : List A) (is : slice_get rest k ≡ Some xs) where
      run : i < length first + length (end_to_end (take k rest)) + length xs
      run = item-within first rest k i xs search-there is within (λ h. let lt = last (omega (arith, count, h)) in let e = start-of (k + 1) h in omega (arith, lt, e))

      pub search-within : i - get_or starts k 0 < length xs
      search-within = let e = start-of k search-there in omega (arith, e, run, begun)

      pub search-item : (x : A) → slice_get xs (i - get_or starts k 0) ≡ Some x → slice_get (first ++ end_to_end rest) i ≡ Some x
      search-item x e = item-found first rest k i (i - get_or starts k 0) xs x is (let f = start-of k search-there in omega (arith, f, begun)) search-within e
