-- The rows whose key comes once, key by key.
use Rattle.std.proofs.Common.{◌≡◌, ℕ, ◌+◌, Bool, true, false, not, cond, List, [], ◌∷◌, ◌++◌, length, get_or, refl, sym, ap, ◌∙◌, arith, length-append}
use Rattle.std.specs.Prelude.{◌==◌, map, filter}
use Rattle.std.specs.List.{AllByRecursion}
use Rattle.std.proofs.lemmas.Bool.{eqb-true}
use Rattle.std.proofs.lemmas.List.{append_assoc}
use Rattle.std.proofs.lemmas.List.Elements.{filter-append}
use Rattle.ps_frame.specs.Values.{same_row}
use Rattle.ps_frame.specs.declared.value.Value.{Value}
use Rattle.ps_meaning.specs.Distinct.{distinct_rows, picked, single_rows}
use Rattle.ps_meaning.proofs.StepFits.{distinct-all}
use Rattle.ps_keys.proofs.SameRows.{same_row-is, same_row-itself}

-- what all pass is all of it
all_stay : {A : Type 0} (test : A → Bool) (xs : List A) → AllByRecursion (λ x. test x ≡ true) xs → filter test xs ≡ xs
all_stay test [] all = refl
all_stay test (x ∷ xs) all = ap (λ b. cond b (x ∷ filter test xs) (filter test xs)) all.0 ∙ ap (λ ys. x ∷ ys) (all_stay test xs all.1)

-- a test that drops only what another drops changes nothing before that
drops : {A : Type 0} (test other : A → Bool) → ((x : A) → other x ≡ false → test x ≡ false) → (xs : List A) → filter test (filter other xs) ≡ filter test xs
drops test other less [] = refl
drops {A} test other less (x ∷ xs) = by (other x) refl (drops test other less xs)
  where
    by : (b : Bool) → other x ≡ b → filter test (filter other xs) ≡ filter test xs → filter test (cond b (x ∷ filter other xs) (filter other xs)) ≡ cond (test x) (x ∷ filter test xs) (filter test xs)
    by true q rest = ap (λ ys. cond (test x) (x ∷ ys) ys) rest
    by false q rest = rest ∙ sym (ap (λ b. cond b (x ∷ filter test xs) (filter test xs)) (less x q))

-- one item alone
one_left : {A : Type 0} (xs ys : List A) (x : A) → length (xs ++ x ∷ ys) ≡ 1 → (xs ≡ []) × (ys ≡ [])
one_left [] [] x e = (refl, refl)
one_left [] (y ∷ ys) x e = absurd (omega (arith, e))
one_left (z ∷ xs) ys x e = let l = length-append xs (x ∷ ys) in absurd (omega (arith, e, l))

module _ (places : List ℕ) where
  abbrev key : List Value → List Value
  key row = picked places row

  -- the rows of a key, and the first of them
  abbrev with_key : List Value → List (List Value) → List (List Value)
  with_key k rows = filter (λ row. same_row k (key row)) rows

  abbrev pub first_of : List Value → List (List Value) → List Value
  first_of k rows = get_or (with_key k rows) 0 []

  -- one row has the key
  abbrev pub comes_once : List (List Value) → List Value → Bool
  comes_once all k = length (with_key k all) == 1

  none_same : (k : List Value) (rows : List (List Value)) → with_key k rows ≡ [] → AllByRecursion (λ q. not (same_row k q) ≡ true) (map key rows)
  none_same k [] e = tt
  none_same k (r ∷ rs) e = by (same_row k (key r)) refl e (none_same k rs)
    where
      by : (b : Bool) → same_row k (key r) ≡ b → cond b (r ∷ with_key k rs) (with_key k rs) ≡ [] → (with_key k rs ≡ [] → AllByRecursion (λ q. not (same_row k q) ≡ true) (map key rs)) → AllByRecursion (λ q. not (same_row k q) ≡ true) (map key (r ∷ rs))
      by true q e rest = cc
      by false q e rest = (ap not q, rest e)

  module _ (all : List (List Value)) where
    abbrev once : List Value → Bool
    once = comes_once all

    abbrev row_of : List Value → List Value
    row_of k = first_of k all

    -- those with the key of a row that stands there
    split : (pre rs : List (List Value)) (r : List Value) → all ≡ pre ++ r ∷ rs → with_key (key r) all ≡ with_key (key r) pre ++ r ∷ with_key (key r) rs
    split pre rs r e =
        let test : List Value → Bool = λ row. same_row (key r) (key row) in
        ap (with_key (key r)) e ∙ filter-append test pre (r ∷ rs) ∙ ap (λ b. filter test pre ++ cond b (r ∷ filter test rs) (filter test rs)) (same_row-itself (key r))

    pub singles_of : (pre rows : List (List Value)) → all ≡ pre ++ rows → map row_of (filter once (distinct_rows (map key rows))) ≡ filter (λ r. once (key r)) rows
    singles_of pre [] e = refl
    singles_of pre (r ∷ rs) e = by (once (key r)) refl (singles_of (pre ++ r ∷ []) rs (e ∙ sym (append_assoc pre (r ∷ []) rs)))
      where
        by : (b : Bool) → once (key r) ≡ b → map row_of (filter once (distinct_rows (map key rs))) ≡ filter (λ r. once (key r)) rs
            → map row_of (cond (once (key r)) (key r ∷ filter once (filter (λ q. not (same_row (key r) q)) (distinct_rows (map key rs)))) (filter once (filter (λ q. not (same_row (key r) q)) (distinct_rows (map key rs))))) ≡ cond (once (key r)) (r ∷ filter (λ r. once (key r)) rs) (filter (λ r. once (key r)) rs)
        by true q rest =
            let parts = split pre rs r e in
            let none = one_left (with_key (key r) pre) (with_key (key r) rs) r (sym (ap length parts) ∙ eqb-true (length (with_key (key r) all)) 1 q) in
            let head : row_of (key r) ≡ r = ap (λ rows. get_or rows 0 []) parts ∙ ap (λ rows. get_or (rows ++ r ∷ with_key (key r) rs) 0 []) none.0 in
            let stay = all_stay (λ q. not (same_row (key r) q)) (distinct_rows (map key rs)) (distinct-all (λ k. not (same_row (key r) k) ≡ true) (map key rs) (none_same (key r) rs none.1)) in
            let tail = ap (λ ys. map row_of (filter once ys)) stay ∙ rest in
            ap (λ b. map row_of (cond b (key r ∷ filter once (filter (λ q. not (same_row (key r) q)) (distinct_rows (map key rs)))) (filter once (filter (λ q. not (same_row (key r) q)) (distinct_rows (map key rs)))))) q
            ∙ (λ i. head i ∷ tail i)
            ∙ sym (ap (λ b. cond b (r ∷ filter (λ r. once (key r)) rs) (filter (λ r. once (key r)) rs)) q)
        by false q rest =
            let less : (k : List Value) → not (same_row (key r) k) ≡ false → once k ≡ false = λ k h. sym (ap once (same_row-is (key r) k (was_true (same_row (key r) k) h))) ∙ q in
            ap (λ b. map row_of (cond b (key r ∷ filter once (filter (λ q. not (same_row (key r) q)) (distinct_rows (map key rs)))) (filter once (filter (λ q. not (same_row (key r) q)) (distinct_rows (map key rs)))))) q
            ∙ ap (map row_of) (drops once (λ q. not (same_row (key r) q)) less (distinct_rows (map key rs)))
            ∙ rest
            ∙ sym (ap (λ b. cond b (r ∷ filter (λ r. once (key r)) rs) (filter (λ r. once (key r)) rs)) q)
          where
            was_true : (b : Bool) → not b ≡ false → b ≡ true
            was_true true h = refl
            was_true false h = cc

  pub single_rows_are : (rows : List (List Value)) → map (λ k. first_of k rows) (filter (comes_once rows) (distinct_rows (map key rows))) ≡ single_rows places rows rows
  single_rows_are rows = singles_of rows [] rows refl
