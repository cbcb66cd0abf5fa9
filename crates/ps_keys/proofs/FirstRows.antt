-- The rows that come first, and their places, as a list grows at its end.
use Rattle.std.proofs.Common.{◌≡◌, ℕ, zero, suc, ◌<◌, ◌≤◌, List, [], ◌∷◌, ◌++◌, length, get_or, take, map, Bool, true, false, cond, refl, sym, ap, subst, ◌∙◌, arith, append_assoc, inl, inr, ◌⊎◌}
use Rattle.std.specs.Prelude.{not, ◌||◌, filter as kept}
use Rattle.std.specs.List.{list_any}
use Rattle.std.proofs.lemmas.List.{append-nil, get_or_append_left, get_or_push, length_push, map_push, length-map, map-append, take-append-le, take_all}
use Rattle.std.proofs.lemmas.List.Elements.{filter-append}
use Rattle.std.proofs.lemmas.Bool.{cases_lt}
use Rattle.ps_frame.specs.Values.{same_row}
use Rattle.ps_frame.specs.Zip.{below}
use Rattle.ps_frame.specs.declared.value.Value.{Value}
use Rattle.ps_meaning.specs.Distinct.{distinct_rows, first_rows, picked}
use Rattle.ps_keys.specs.Numbering.{first_places}
use Rattle.ps_keys.proofs.SameRows.{same_row-back}

-- what holds of the empty list, and of a list with one more item at its end, holds of each list
pub by_pushes : {A : Type 0} (P : List A → Type 0) → P [] → ((xs : List A) (x : A) → P xs → P (xs ++ x ∷ [])) → (xs : List A) → P xs
by_pushes {A} P none more xs = go [] xs none
  where
    go : (xs ys : List A) → P xs → P (xs ++ ys)
    go xs [] p = subst P (sym (append-nil xs)) p
    go xs (y ∷ ys) p = subst P (append_assoc xs (y ∷ []) ys) (go (xs ++ y ∷ []) ys (more xs y p))

-- the items whose keys are unlike those of all items before
abbrev pub firsts_by : {A : Type 0} → (A → List Value) → List A → List A
firsts_by key [] = []
firsts_by key (x ∷ xs) = x ∷ kept (λ q. not (same_row (key x) (key q))) (firsts_by key xs)

pub firsts_by-rows : (rows : List (List Value)) → distinct_rows rows ≡ firsts_by (λ r. r) rows
firsts_by-rows [] = refl
firsts_by-rows (r ∷ rows) = ap (λ rs. r ∷ kept (λ q. not (same_row r q)) rs) (firsts_by-rows rows)

pub firsts_by-picked : (places : List ℕ) (rows : List (List Value)) → first_rows places rows ≡ firsts_by (picked places) rows
firsts_by-picked places [] = refl
firsts_by-picked places (r ∷ rows) = ap (λ rs. r ∷ kept (λ q. not (same_row (picked places r) (picked places q))) rs) (firsts_by-picked places rows)

-- an item that stays unless it was met
abbrev pub unless : {A : Type 0} → Bool → A → List A
unless met x = cond met [] (x ∷ [])

kept-unless : {A : Type 0} (p : A → Bool) (s : Bool) (met : Bool) (x : A) → p x ≡ not s → kept p (unless met x) ≡ unless (s || met) x
kept-unless p true true x e = refl
kept-unless p false true x e = refl
kept-unless p true false x e = ap (λ t. cond t (x ∷ []) []) e
kept-unless p false false x e = ap (λ t. cond t (x ∷ []) []) e

module _ {A : Type 0} (key : A → List Value) where
  -- whether an item has the key of one of these
  abbrev pub is_met : A → List A → Bool
  is_met x xs = list_any (λ q. same_row (key x) (key q)) xs

  pub firsts_by-push : (xs : List A) (x : A) → firsts_by key (xs ++ x ∷ []) ≡ firsts_by key xs ++ unless (is_met x xs) x
  firsts_by-push [] x = refl
  firsts_by-push (y ∷ xs) x =
      let p : A → Bool = λ q. not (same_row (key y) (key q)) in
      ap (λ zs. y ∷ kept p zs) (firsts_by-push xs x)
      ∙ ap (λ zs. y ∷ zs) (filter-append p (firsts_by key xs) (unless (is_met x xs) x)
      ∙ ap (λ zs. kept p (firsts_by key xs) ++ zs) (kept-unless p (same_row (key x) (key y)) (is_met x xs) x (ap not (same_row-back (key y) (key x)))))

-- tests that agree below a number keep the same numbers below it
pub kept-below : (n : ℕ) (p q : ℕ → Bool) → ((i : ℕ) → i < n → p i ≡ q i) → kept p (below n) ≡ kept q (below n)
kept-below zero p q agree = refl
kept-below (suc n) p q agree =
    filter-append p (below n) (n ∷ [])
    ∙ ap (λ xs. xs ++ kept p (n ∷ [])) (kept-below n p q (λ i within. agree i (omega arith)))
    ∙ ap (λ t. kept q (below n) ++ cond t (n ∷ []) []) (agree n (omega arith))
    ∙ sym (filter-append q (below n) (n ∷ []))

turned : (met : Bool) (n : ℕ) → cond (not met) (n ∷ []) [] ≡ unless met n
turned true n = refl
turned false n = refl

-- the places of first rows, once there is one row more
pub first_places-push : (rows : List (List Value)) (r : List Value) → first_places (rows ++ r ∷ []) ≡ first_places rows ++ unless (list_any (same_row r) rows) (length rows)
first_places-push rows r =
    let n = length rows in
    let more = rows ++ r ∷ [] in
    let p : ℕ → Bool = λ i. not (list_any (same_row (get_or more i [])) (take i more)) in
    let q : ℕ → Bool = λ i. not (list_any (same_row (get_or rows i [])) (take i rows)) in
    let long : length more ≡ suc n = let one = length_push rows r in omega arith in
    let last : p n ≡ not (list_any (same_row r) rows) =
    ap (λ v. not (list_any (same_row v) (take n more))) (get_or_push rows r [] n refl)
    ∙ ap (λ vs. not (list_any (same_row r) vs)) (take-append-le n rows (r ∷ []) (omega arith) ∙ take_all n rows (omega arith)) in
    ap (λ m. kept p (below m)) long
    ∙ filter-append p (below n) (n ∷ [])
    ∙ ap (λ xs. xs ++ kept p (n ∷ [])) (kept-below n p q (λ i within.
    ap (λ v. not (list_any (same_row v) (take i more))) (get_or_append_left rows (r ∷ []) [] i within)
    ∙ ap (λ vs. not (list_any (same_row (get_or rows i [])) vs)) (take-append-le i rows (r ∷ []) (omega arith))))
    ∙ ap (λ t. first_places rows ++ cond t (n ∷ []) []) last
    ∙ ap (λ xs. first_places rows ++ xs) (turned (list_any (same_row r) rows) n)

bounded-step : (xs : List ℕ) (n k : ℕ) (met : Bool) → (k < length xs → get_or xs k 0 < n) → k < length (xs ++ unless met n) → get_or (xs ++ unless met n) k 0 < suc n
bounded-step xs n k met before within = by met (cases_lt k (length xs)) within
  where
    by : (t : Bool) → (k < length xs) ⊎ (length xs ≤ k) → k < length (xs ++ unless t n) → get_or (xs ++ unless t n) k 0 < suc n
    by t (inl inside) _ = subst (λ x. x < suc n) (sym (get_or_append_left xs (unless t n) 0 k inside)) (let h = before inside in omega arith)
    by true (inr past) h = absurd (omega (arith, ap length (append-nil xs)))
    by false (inr past) h =
        let here : length xs ≡ k = omega (arith, length_push xs n) in
        subst (λ x. x < suc n) (sym (get_or_push xs n 0 k here)) (omega arith)

turned-back : (t : Bool) (n : ℕ) → cond t (n ∷ []) [] ≡ unless (not t) n
turned-back true n = refl
turned-back false n = refl

-- the numbers that a test keeps below n are below n
pub kept-bounded : (n : ℕ) (p : ℕ → Bool) (k : ℕ) → k < length (kept p (below n)) → get_or (kept p (below n)) k 0 < n
kept-bounded zero p k within = absurd (omega arith)
kept-bounded (suc n) p k within =
    let e : kept p (below n ++ n ∷ []) ≡ kept p (below n) ++ unless (not (p n)) n = filter-append p (below n) (n ∷ []) ∙ ap (λ xs. kept p (below n) ++ xs) (turned-back (p n) n) in
    subst (λ xs. get_or xs k 0 < suc n) (sym e) (bounded-step (kept p (below n)) n k (not (p n)) (kept-bounded n p k) (subst (λ xs. k < length xs) e within))

pub first_places-below : (rows : List (List Value)) (k : ℕ) → k < length (first_places rows) → get_or (first_places rows) k 0 < length rows
first_places-below rows k within = kept-bounded (length rows) (λ i. not (list_any (same_row (get_or rows i [])) (take i rows))) k within

-- the items at these places
abbrev pub items_at : {A : Type 0} → A → List A → List ℕ → List A
items_at d xs places = map (λ i. get_or xs i d) places

-- what is read at places of the list is read of a longer one too
pub items_at-append : {A : Type 0} (d : A) (xs more : List A) (places : List ℕ) → ((k : ℕ) → k < length places → get_or places k 0 < length xs) → items_at d (xs ++ more) places ≡ items_at d xs places
items_at-append d xs more [] inside = refl
items_at-append d xs more (i ∷ places) inside =
    ap (λ y. y ∷ items_at d (xs ++ more) places) (get_or_append_left xs more d i (inside 0 (omega arith)))
    ∙ ap (λ ys. get_or xs i d ∷ ys) (items_at-append d xs more places (λ k within. inside (suc k) (omega arith)))

list_any-map : {A B : Type 0} (key : A → B) (p : B → Bool) (xs : List A) → list_any p (map key xs) ≡ list_any (λ x. p (key x)) xs
list_any-map key p [] = refl
list_any-map key p (x ∷ xs) = ap (λ t. p (key x) || t) (list_any-map key p xs)

module _ {A : Type 0} (key : A → List Value) (d : A) where
  at-unless : (met : Bool) (xs : List A) (x : A) → items_at d (xs ++ x ∷ []) (unless met (length xs)) ≡ unless met x
  at-unless true xs x = refl
  at-unless false xs x = ap (λ y. y ∷ []) (get_or_push xs x d (length xs) refl)

  -- the items at the places of their first keys are the items that come first
  pub firsts-at : (xs : List A) → items_at d xs (first_places (map key xs)) ≡ firsts_by key xs
  firsts-at xs = by_pushes (λ ys. items_at d ys (first_places (map key ys)) ≡ firsts_by key ys) refl step xs
    where
      step : (ys : List A) (x : A) → items_at d ys (first_places (map key ys)) ≡ firsts_by key ys → items_at d (ys ++ x ∷ []) (first_places (map key (ys ++ x ∷ []))) ≡ firsts_by key (ys ++ x ∷ [])
      step ys x before =
          let rows = map key ys in
          let long : length rows ≡ length ys = length-map ys key in
          let met = list_any-map key (same_row (key x)) ys in
          let more : first_places (map key (ys ++ x ∷ [])) ≡ first_places rows ++ unless (is_met key x ys) (length ys) =
          ap first_places (map_push key ys x) ∙ first_places-push rows (key x) ∙ ap (λ t. first_places rows ++ unless t (length rows)) met ∙ ap (λ n. first_places rows ++ unless (is_met key x ys) n) long in
          ap (items_at d (ys ++ x ∷ [])) more
          ∙ map-append (λ i. get_or (ys ++ x ∷ []) i d) (first_places rows) (unless (is_met key x ys) (length ys))
          ∙ ap (λ zs. zs ++ items_at d (ys ++ x ∷ []) (unless (is_met key x ys) (length ys)))
          (items_at-append d ys (x ∷ []) (first_places rows) (λ k within. omega (arith, first_places-below rows k within)) ∙ before)
          ∙ ap (λ zs. firsts_by key ys ++ zs) (at-unless (is_met key x ys) ys x)
          ∙ sym (firsts_by-push key ys x)

pub length-below : (n : ℕ) → length (below n) ≡ n
length-below zero = refl
length-below (suc n) = let e = length_push (below n) n in let f = length-below n in omega arith

-- what stands at a number in a list of what the numbers give
pub at-below : {A : Type 0} (f : ℕ → A) (n i : ℕ) (d : A) → i < n → get_or (map f (below n)) i d ≡ f i
at-below f zero i d within = absurd (omega arith)
at-below f (suc n) i d within =
    ap (λ xs. get_or xs i d) (map_push f (below n) n)
    ∙ at (cases_lt i n) (at-below f n i d)
  where
    at : (i < n) ⊎ (n ≤ i) → (i < n → get_or (map f (below n)) i d ≡ f i) → get_or (map f (below n) ++ f n ∷ []) i d ≡ f i
    at (inl before) rest = get_or_append_left (map f (below n)) (f n ∷ []) d i (omega (arith, length-map (below n) f, length-below n)) ∙ rest before
    at (inr past) rest =
        let here : n ≡ i = omega arith in
        get_or_push (map f (below n)) (f n) d i (length-map (below n) f ∙ length-below n ∙ here) ∙ ap f here

pub row-below : {A : Type 0} (f : ℕ → List A) (n i : ℕ) → i < n → get_or (map f (below n)) i [] ≡ f i
row-below f n i within = at-below f n i [] within
