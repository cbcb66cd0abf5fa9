-- The places of nodes in an order.
use Rattle.std.proofs.Common.{◌≡◌, ◌≢◌, ℕ, suc, ◌+◌, ◌<◌, ◌≤◌, Bool, true, false, cond, not, List, [], ◌∷◌, ◌++◌, length, get_or, take, ap, length-take, Option, Some, None, refl, sym, subst, ◌∙◌, arith, length-append}
use Rattle.std.proofs.lemmas.Bool.{eqb-false, eqb-true}
use Rattle.std.specs.Prelude.{IsSome, MatchOption, is_some, unwrap_or, ◌==◌}
use Rattle.keyed_slots.specs.Slots.{Updates, value_at}
use Rattle.ps_phys.specs.Placed.{IsPlaced}
use Rattle.ps_phys.specs.Underway.{numbers_in}
use Rattle.ps_phys.specs.Walks.{place_in}
use Rattle.ps_phys.specs.declared.phys.PhysNodeKey.{PhysNodeKey}
use Rattle.std.proofs.lemmas.List.{take_all, take_more}

before-place : (xs : List ℕ) (x n : ℕ) → place_in xs n < length xs → place_in (xs ++ x ∷ []) n ≡ place_in xs n
before-place [] x n h = absurd (omega (arith, h))
before-place (y ∷ ys) x n h = by (y == n) h (λ l. before-place ys x n l)
  where
    by : (b : Bool) → cond (not b) (1 + place_in ys n) 0 < suc (length ys) → (place_in ys n < length ys → place_in (ys ++ x ∷ []) n ≡ place_in ys n) → cond (not b) (1 + place_in (ys ++ x ∷ []) n) 0 ≡ cond (not b) (1 + place_in ys n) 0
    by true l rest = refl
    by false l rest = ap (λ m. 1 + m) (rest (omega (arith, l)))

end-place : (xs : List ℕ) (x n : ℕ) → place_in xs n ≡ length xs → place_in (xs ++ x ∷ []) n ≡ length xs + cond (not (x == n)) 1 0
end-place [] x n h = by (x == n)
  where
    by : (b : Bool) → cond (not b) (1 + 0) 0 ≡ 0 + cond (not b) 1 0
    by true = refl
    by false = refl
end-place (y ∷ ys) x n h = by (y == n) h (λ e. end-place ys x n e)
  where
    by : (b : Bool) → cond (not b) (1 + place_in ys n) 0 ≡ suc (length ys) → (place_in ys n ≡ length ys → place_in (ys ++ x ∷ []) n ≡ length ys + cond (not (x == n)) 1 0)
        → cond (not b) (1 + place_in (ys ++ x ∷ []) n) 0 ≡ suc (length ys) + cond (not (x == n)) 1 0
    by true e rest = absurd (omega (arith, e))
    by false e rest = let k = rest (omega (arith, e)) in omega (arith, k)

pub none-placed : IsPlaced [] []
none-placed n = refl

longer : (xs : List ℕ) (x : ℕ) → length (xs ++ x ∷ []) ≡ length xs + 1
longer xs x = length-append xs (x ∷ [])

kept-place : (xs : List ℕ) (x n p : ℕ) → place_in xs n ≡ p → p < length xs → (place_in (xs ++ x ∷ []) n ≡ p) × (p < length (xs ++ x ∷ []))
kept-place xs x n p is l = let size = longer xs x in (before-place xs x n (omega (arith, is, l)) ∙ is, omega (arith, size, l))

-- one more of another number
other-place : (xs : List ℕ) (x n : ℕ) (o : Option ℕ) → (x == n) ≡ false → MatchOption o (place_in xs n ≡ length xs) (λ p. (place_in xs n ≡ p) × (p < length xs))
    → MatchOption o (place_in (xs ++ x ∷ []) n ≡ length (xs ++ x ∷ [])) (λ p. (place_in (xs ++ x ∷ []) n ≡ p) × (p < length (xs ++ x ∷ [])))
other-place xs x n None e h = end-place xs x n h ∙ ap (λ b. length xs + cond (not b) 1 0) e ∙ sym (longer xs x)
other-place xs x n (Some p) e (is, l) = kept-place xs x n p is l

pub placed-known : (xs : List ℕ) (places : List (Option ℕ)) (x : ℕ) → IsPlaced xs places → IsSome (value_at places x) → IsPlaced (xs ++ x ∷ []) places
placed-known xs places x placed known n = by (x == n) refl
  where
    same : (o : Option ℕ) → is_some o ≡ true → MatchOption o (place_in xs n ≡ length xs) (λ p. (place_in xs n ≡ p) × (p < length xs))
        → MatchOption o (place_in (xs ++ x ∷ []) n ≡ length (xs ++ x ∷ [])) (λ p. (place_in (xs ++ x ∷ []) n ≡ p) × (p < length (xs ++ x ∷ [])))
    same None s h = cc
    same (Some p) s (is, l) = kept-place xs x n p is l

    by : (b : Bool) → x == n ≡ b → MatchOption (value_at places n) (place_in (xs ++ x ∷ []) n ≡ length (xs ++ x ∷ [])) (λ p. (place_in (xs ++ x ∷ []) n ≡ p) × (p < length (xs ++ x ∷ [])))
    by true e = let P : ℕ → Type 0 = λ m. IsSome (value_at places m) in same (value_at places n) (subst P (eqb-true x n e) known) (placed n)
    by false e = other-place xs x n (value_at places n) e (placed n)

pub placed-new : (xs : List ℕ) (places new : List (Option ℕ)) (x k : ℕ) → IsPlaced xs places → (IsSome (value_at places x) → false ≡ true) → k ≡ length xs → Updates places new x (Some k) → IsPlaced (xs ++ x ∷ []) new
placed-new xs places new x k placed unknown size updates n = by (x == n) refl
  where
    free : (o : Option ℕ) → (is_some o ≡ true → false ≡ true) → MatchOption o (place_in xs x ≡ length xs) (λ p. (place_in xs x ≡ p) × (p < length xs)) → place_in xs x ≡ length xs
    free None none h = h
    free (Some p) none h = absurd (let never : false ≡ true = none refl in cc)

    alone : (b : Bool) → x == x ≡ b → place_in (xs ++ x ∷ []) x ≡ length xs
    alone true e = end-place xs x x (free (value_at places x) unknown (placed x)) ∙ ap (λ b. length xs + cond (not b) 1 0) e ∙ (omega arith)
    alone false e = absurd (eqb-false x x e refl)

    here : (place_in (xs ++ x ∷ []) x ≡ k) × (k < length (xs ++ x ∷ []))
    here = let longer' = longer xs x in (alone (x == x) refl ∙ sym size, omega (arith, longer', size))

    by : (b : Bool) → x == n ≡ b → MatchOption (value_at new n) (place_in (xs ++ x ∷ []) n ≡ length (xs ++ x ∷ [])) (λ p. (place_in (xs ++ x ∷ []) n ≡ p) × (p < length (xs ++ x ∷ [])))
    by true e =
        let P : ℕ → Type 0 = λ m. MatchOption (value_at new m) (place_in (xs ++ x ∷ []) m ≡ length (xs ++ x ∷ [])) (λ p. (place_in (xs ++ x ∷ []) m ≡ p) × (p < length (xs ++ x ∷ []))) in
        let Q : Option ℕ → Type 0 = λ o. MatchOption o (place_in (xs ++ x ∷ []) x ≡ length (xs ++ x ∷ [])) (λ p. (place_in (xs ++ x ∷ []) x ≡ p) × (p < length (xs ++ x ∷ []))) in
        subst P (eqb-true x n e) (subst Q (sym updates.changed) here)
    by false e =
        let other : n ≢ x = λ is. eqb-false x n e (sym is) in
        let Q : Option ℕ → Type 0 = λ o. MatchOption o (place_in (xs ++ x ∷ []) n ≡ length (xs ++ x ∷ [])) (λ p. (place_in (xs ++ x ∷ []) n ≡ p) × (p < length (xs ++ x ∷ []))) in
        subst Q (sym (updates.others n other)) (other-place xs x n (value_at places n) e (placed n))

pub placed-done : (xs : List ℕ) (places : List (Option ℕ)) (size : ℕ) → size ≡ length xs → IsPlaced xs places → (n : ℕ) → unwrap_or (value_at places n) size ≡ place_in xs n
placed-done xs places size is placed n = by (value_at places n) (placed n)
  where
    by : (o : Option ℕ) → MatchOption o (place_in xs n ≡ length xs) (λ p. (place_in xs n ≡ p) × (p < length xs)) → unwrap_or o size ≡ place_in xs n
    by None h = is ∙ sym h
    by (Some p) h = sym h.0

numbers-push : (ks : List PhysNodeKey) (k : PhysNodeKey) → numbers_in (ks ++ k ∷ []) ≡ numbers_in ks ++ k.0 ∷ []
numbers-push [] k = refl
numbers-push (x ∷ ks) k = ap (λ ns. x.0 ∷ ns) (numbers-push ks k)

numbers-length : (ks : List PhysNodeKey) → length (numbers_in ks) ≡ length ks
numbers-length [] = refl
numbers-length (k ∷ ks) = let h = numbers-length ks in omega (arith, h)

-- one more node has its place
pub placed-next : (ks : List PhysNodeKey) (k : ℕ) (d : PhysNodeKey) (old new : List (Option ℕ)) → k < length ks
    → ((before : List ℕ) → k ≡ length before → IsPlaced before old → IsPlaced (before ++ (get_or ks k d).0 ∷ []) new) → IsPlaced (numbers_in (take k ks)) old → IsPlaced (numbers_in (take (k + 1) ks)) new
placed-next ks k d old new l notes placed =
    let P : List ℕ → Type 0 = λ ns. IsPlaced ns new in
    let size = length-take k ks in
    let numbers = numbers-length (take k ks) in
    subst P (sym (ap numbers_in (take_more ks k d l) ∙ numbers-push (take k ks) (get_or ks k d))) (notes (numbers_in (take k ks)) (omega (arith, size, numbers, l)) placed)

pub all-placed : (ks : List PhysNodeKey) (k : ℕ) (places : List (Option ℕ)) → length ks ≤ k → IsPlaced (numbers_in (take k ks)) places → (n : ℕ) → unwrap_or (value_at places n) (length ks) ≡ place_in (numbers_in ks) n
all-placed ks k places l placed =
    let P : List PhysNodeKey → Type 0 = λ xs. IsPlaced (numbers_in xs) places in
    placed-done (numbers_in ks) places (length ks) (sym (numbers-length ks)) (subst P (take_all k ks l) placed)

pub placed-whole : (ks : List PhysNodeKey) (k : ℕ) (places : List (Option ℕ)) → length ks ≤ k → IsPlaced (numbers_in (take k ks)) places → IsPlaced (numbers_in ks) places
placed-whole ks k places l placed = let P : List PhysNodeKey → Type 0 = λ xs. IsPlaced (numbers_in xs) places in subst P (take_all k ks l) placed
