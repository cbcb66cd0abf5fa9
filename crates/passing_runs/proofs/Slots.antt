-- Lists of places that grow and are filled: what stood stays, and so do answers behind the rows before.
use Rattle.std.proofs.Common.{◌≡◌, ℕ, zero, suc, ◌+◌, ◌<◌, List, [], ◌∷◌, ◌++◌, length, take, Option, Some, None, refl, sym, ap, subst, ◌∙◌, arith, length-append}
use Rattle.std.specs.Prelude.{slice_get, slice_set, ⊤}
use Rattle.ps_frame.specs.Tables.{Row}
use Rattle.ps_world.specs.Booking.{PassesAfter, StandsAt}
use Rattle.ps_world.specs.World.{rows_in_order}

abbrev pub Places : Type 0
Places = List (Option (List Row))

-- what came stays, empty places may be filled, and more may come
abbrev pub Fills : Places → Places → Type 0
Fills [] ys = ⊤
Fills (None ∷ xs) [] = ⊥
Fills (Some a ∷ xs) [] = ⊥
Fills (None ∷ xs) (y ∷ ys) = Fills xs ys
Fills (Some a ∷ xs) (y ∷ ys) = (y ≡ Some a) × Fills xs ys

pub fills_same : (xs : Places) → Fills xs xs
fills_same [] = tt
fills_same (None ∷ xs) = fills_same xs
fills_same (Some a ∷ xs) = (refl, fills_same xs)

pub fills_more : (xs ys : Places) → Fills xs (xs ++ ys)
fills_more [] ys = tt
fills_more (None ∷ xs) ys = fills_more xs ys
fills_more (Some a ∷ xs) ys = (refl, fills_more xs ys)

pub fills_set : (xs : Places) (j : ℕ) (rs : List Row) → slice_get xs j ≡ Some None → Fills xs (slice_set xs j (Some rs))
fills_set [] j rs e = tt
fills_set (None ∷ xs) zero rs e = fills_same xs
fills_set (Some a ∷ xs) zero rs e = absurd (let no : Some (Some a) ≡ Some None = e in let bad : Some a ≡ None = cc in let worse : ⊥ = cc in worse)
fills_set (None ∷ xs) (suc j) rs e = fills_set xs j rs e
fills_set (Some a ∷ xs) (suc j) rs e = (refl, fills_set xs j rs e)

pub stands_on : (is js : Places) (j : ℕ) (front a : List Row) → Fills is js → StandsAt is j front a → StandsAt js j front a
stands_on [] js j front a f s = absurd s
stands_on (None ∷ is) js j front a f s = absurd s
stands_on (Some r ∷ is) [] j front a f s = absurd f
stands_on (Some r ∷ is) (y ∷ js) zero front a f s = subst (λ z. StandsAt (z ∷ js) 0 front a) (sym f.0) s
stands_on (Some r ∷ is) (y ∷ js) (suc j) front a f s = subst (λ z. StandsAt (z ∷ js) (suc j) front a) (sym f.0) (s.0, s.1, stands_on is js j s.0 a f.1 s.2)

-- all before a number came
abbrev pub Came : Places → ℕ → Type 0
Came got j = (i : ℕ) → i < j → (rs : List Row) × (slice_get got i ≡ Some (Some rs))

later : (x : Option (List Row)) (got : Places) (j : ℕ) → Came (x ∷ got) (suc j) → Came got j
later x got j came i l = came (suc i) (omega (arith, l))

filled : (x : Option (List Row)) (got : Places) (j : ℕ) → Came (x ∷ got) (suc j) → (rs : List Row) × (x ≡ Some rs)
filled x got j came = let first = came 0 (omega arith) in (first.0, let e : Some x ≡ Some (Some first.0) = first.1 in cc)

pub taken_stands : (got : Places) (j : ℕ) (a : List Row) → Came got j → slice_get got j ≡ Some (Some a) → StandsAt got j (rows_in_order (take j got)) a
taken_stands [] j a came e = absurd (let no : None ≡ Some (Some a) = e in cc)
taken_stands (x ∷ got) zero a came e = let q : Some x ≡ Some (Some a) = e in let is : x ≡ Some a = cc in subst (λ z. StandsAt (z ∷ got) 0 [] a) (sym is) (refl, refl)
taken_stands (None ∷ got) (suc j) a came e = absurd (let first = filled None got j came in let no : None ≡ Some first.0 = first.1 in cc)
taken_stands (Some rs ∷ got) (suc j) a came e = (rows_in_order (take j got), refl, taken_stands got j a (later (Some rs) got j came) e)

pub taken_more : (got : Places) (j : ℕ) (a : List Row) → Came got j → slice_get got j ≡ Some (Some a) → length (rows_in_order (take (suc j) got)) ≡ length (rows_in_order (take j got)) + length a
taken_more [] j a came e = absurd (let no : None ≡ Some (Some a) = e in cc)
taken_more (None ∷ got) zero a came e = absurd (let no : Some None ≡ Some (Some a) = e in let bad : None ≡ Some a = cc in let worse : ⊥ = cc in worse)
taken_more (Some rs ∷ got) zero a came e =
    let q : Some (Some rs) ≡ Some (Some a) = e in
    let is : rs ≡ a = cc in
    let long : length (rs ++ []) ≡ length rs + 0 = length-append rs [] in
    let same : length rs ≡ length a = ap length is in
    omega (arith, long, same)
taken_more (None ∷ got) (suc j) a came e = absurd (let first = filled None got j came in let no : None ≡ Some first.0 = first.1 in cc)
taken_more (Some rs ∷ got) (suc j) a came e =
    let rest = taken_more got j a (later (Some rs) got j came) e in
    let new = length-append rs (rows_in_order (take (suc j) got)) in
    let old = length-append rs (rows_in_order (take j got)) in
    omega (arith, rest, new, old)

pub taken_same : (got new : Places) (j : ℕ) → Fills got new → Came got j → rows_in_order (take j new) ≡ rows_in_order (take j got)
taken_same got new zero f came = refl
taken_same [] new (suc j) f came = absurd (let first = came 0 (omega arith) in let no : None ≡ Some (Some first.0) = first.1 in cc)
taken_same (None ∷ got) new (suc j) f came = absurd (let first = filled None got j came in let no : None ≡ Some first.0 = first.1 in cc)
taken_same (Some rs ∷ got) [] (suc j) f came = absurd f
taken_same (Some rs ∷ got) (y ∷ new) (suc j) f came = ap (λ z. rows_in_order (z ∷ take j new)) f.0 ∙ ap (λ z. rs ++ z) (taken_same got new j f.1 (later (Some rs) got j came))

module _ (R : (before : ℕ) → List Row → List Row → Type 0) where
  pub passes_on : (k : ℕ) (is js os : Places) → Fills is js → PassesAfter R k is os → PassesAfter R k js os
  passes_on k is js [] f h = tt
  passes_on k [] js (o ∷ os) f h = absurd h
  passes_on k (None ∷ is) js (o ∷ os) f h = absurd h
  passes_on k (Some a ∷ is) [] (o ∷ os) f h = absurd f
  passes_on k (Some a ∷ is) (y ∷ js) (None ∷ os) f h = subst (λ z. PassesAfter R k (z ∷ js) (None ∷ os)) (sym f.0) (passes_on (k + length a) is js os f.1 h)
  passes_on k (Some a ∷ is) (y ∷ js) (Some b ∷ os) f h = subst (λ z. PassesAfter R k (z ∷ js) (Some b ∷ os)) (sym f.0) (h.0, passes_on (k + length a) is js os f.1 h.1)

  -- a place for the answer to the next of them
  pub passes_place : (k : ℕ) (is os : Places) (a : List Row) → PassesAfter R k is os → slice_get is (length os) ≡ Some (Some a) → PassesAfter R k is (os ++ None ∷ [])
  passes_place k [] [] a h e = absurd (let no : None ≡ Some (Some a) = e in cc)
  passes_place k (None ∷ is) [] a h e = absurd (let no : Some None ≡ Some (Some a) = e in let bad : None ≡ Some a = cc in let worse : ⊥ = cc in worse)
  passes_place k (Some b ∷ is) [] a h e = tt
  passes_place k [] (o ∷ os) a h e = absurd h
  passes_place k (None ∷ is) (o ∷ os) a h e = absurd h
  passes_place k (Some b ∷ is) (None ∷ os) a h e = passes_place (k + length b) is os a h e
  passes_place k (Some b ∷ is) (Some c ∷ os) a h e = (h.0, passes_place (k + length b) is os a h.1 e)

  -- an answer in its place
  pub passes_answer : (k : ℕ) (is os : Places) (j : ℕ) (front a b : List Row) → PassesAfter R k is os → StandsAt is j front a → slice_get os j ≡ Some None → R (k + length front) a b → PassesAfter R k is (slice_set os j (Some b))
  passes_answer k is [] j front a b h s e r = absurd (let no : None ≡ Some None = e in cc)
  passes_answer k [] (o ∷ os) j front a b h s e r = absurd h
  passes_answer k (None ∷ is) (o ∷ os) j front a b h s e r = absurd h
  passes_answer k (Some x ∷ is) (Some c ∷ os) zero front a b h s e r = absurd (let no : Some (Some c) ≡ Some None = e in let bad : Some c ≡ None = cc in let worse : ⊥ = cc in worse)
  passes_answer k (Some x ∷ is) (None ∷ os) zero front a b h s e r =
      let none : length front ≡ 0 = ap length s.0 in
      let start : k + length front ≡ k = omega (arith, none) in
      (subst (λ y. R k y b) (sym s.1) (subst (λ j. R j a b) start r), h)
  passes_answer k (Some x ∷ is) (None ∷ os) (suc j) front a b h s e r = passes_answer (k + length x) is os j s.0 a b h s.2 e (subst (λ i. R i a b) (further k x s.0 front s.1) r)
    where
      further : (k : ℕ) (x more front : List Row) → front ≡ x ++ more → k + length front ≡ (k + length x) + length more
      further k x more front q = let long : length front ≡ length x + length more = ap length q ∙ length-append x more in omega (arith, long)
  passes_answer k (Some x ∷ is) (Some c ∷ os) (suc j) front a b h s e r = (h.0, passes_answer (k + length x) is os j s.0 a b h.1 s.2 e (subst (λ i. R i a b) (further k x s.0 front s.1) r))
    where
      further : (k : ℕ) (x more front : List Row) → front ≡ x ++ more → k + length front ≡ (k + length x) + length more
      further k x more front q = let long : length front ≡ length x + length more = ap length q ∙ length-append x more in omega (arith, long)
