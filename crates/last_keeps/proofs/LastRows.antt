-- The last row of each key, key by key: those rows, in some order.
use Rattle.std.proofs.Common.{◌≡◌, ◌≢◌, inl, inr, ℕ, Bool, true, false, not, cond, List, [], ◌∷◌, ◌++◌, get_or, refl, sym, ap, subst, ◌∙◌}
use Rattle.std.specs.Prelude.{map, filter, ◌||◌}
use Rattle.std.specs.List.{AllByRecursion, list_any}
use Rattle.std.specs.List.Sorted.{IsPermutation}
use Rattle.std.proofs.lemmas.List.Sorted.{IsPermutation-cons, IsPermutation-filter_both, IsPermutation-map, IsPermutation-refl, IsPermutation-sym, IsPermutation-trans}
use Rattle.ps_frame.specs.Aggregates.{last_value}
use Rattle.ps_frame.specs.Values.{same_row}
use Rattle.ps_frame.specs.declared.value.Value.{Value}
use Rattle.ps_frame.specs.declared.value.Value.TheVariants as val
use Rattle.ps_meaning.specs.Distinct.{distinct_rows, last_rows, picked}
use Rattle.ps_keys.proofs.SameRows.{same_row-back, same_row-is, same_row-itself}
use Rattle.ps_shares.proofs.Members.{Has}
use Rattle.picked_zips.proofs.Members.{map_each}
use Rattle.distinct_parts.proofs.FirstRows.{with_key}

abbrev pub last_row : List (List Value) → List Value
last_row [] = []
last_row (r ∷ []) = r
last_row (r ∷ q ∷ rs) = last_row (q ∷ rs)

pub last_of_column : (j : ℕ) (rows : List (List Value)) → last_value (map (λ row. get_or row j val.Null) rows) ≡ get_or (last_row rows) j val.Null
last_of_column j [] = refl
last_of_column j (r ∷ []) = refl
last_of_column j (r ∷ q ∷ rs) = last_of_column j (q ∷ rs)

pub last_is_one : (rows : List (List Value)) → rows ≢ [] → Has rows (last_row rows)
last_is_one [] some = absurd (some refl)
last_is_one (r ∷ []) some = inl refl
last_is_one (r ∷ q ∷ rs) some = inr (last_is_one (q ∷ rs) (λ e. cc))

-- those that pass a test, and among them those that pass another
none_pass : (k x : List Value) → same_row k x ≡ true → (xs : List (List Value)) → filter (same_row k) (filter (λ q. not (same_row x q)) xs) ≡ []
none_pass k x e [] = refl
none_pass k x e (y ∷ xs) = by (same_row x y) refl (none_pass k x e xs)
  where
    by : (b : Bool) → same_row x y ≡ b → filter (same_row k) (filter (λ q. not (same_row x q)) xs) ≡ [] → filter (same_row k) (cond (not b) (y ∷ filter (λ q. not (same_row x q)) xs) (filter (λ q. not (same_row x q)) xs)) ≡ []
    by true q rest = rest
    by false q rest = let p : same_row k y ≡ false = ap (λ z. same_row z y) (same_row-is k x e) ∙ q in ap (λ b. cond b (y ∷ filter (same_row k) (filter (λ q. not (same_row x q)) xs)) (filter (same_row k) (filter (λ q. not (same_row x q)) xs))) p ∙ rest

all_pass : (k x : List Value) → same_row k x ≡ false → (xs : List (List Value)) → filter (same_row k) (filter (λ q. not (same_row x q)) xs) ≡ filter (same_row k) xs
all_pass k x e [] = refl
all_pass k x e (y ∷ xs) = by (same_row x y) refl (same_row k y) refl (all_pass k x e xs)
  where
    by : (b : Bool) → same_row x y ≡ b → (c : Bool) → same_row k y ≡ c → filter (same_row k) (filter (λ q. not (same_row x q)) xs) ≡ filter (same_row k) xs
        → filter (same_row k) (cond (not b) (y ∷ filter (λ q. not (same_row x q)) xs) (filter (λ q. not (same_row x q)) xs)) ≡ cond c (y ∷ filter (same_row k) xs) (filter (same_row k) xs)
    by true q true p rest = let w : true ≡ false = sym p ∙ ap (same_row k) (sym (same_row-is x y q)) ∙ e in cc
    by true q false p rest = rest
    by false q true p rest = ap (λ b. cond b (y ∷ filter (same_row k) (filter (λ q. not (same_row x q)) xs)) (filter (same_row k) (filter (λ q. not (same_row x q)) xs))) p ∙ ap (λ ys. y ∷ ys) rest
    by false q false p rest = ap (λ b. cond b (y ∷ filter (same_row k) (filter (λ q. not (same_row x q)) xs)) (filter (same_row k) (filter (λ q. not (same_row x q)) xs))) p ∙ rest

-- a key stands once among those that differ, where it stands
once : (k : List Value) (xs : List (List Value)) → filter (same_row k) (distinct_rows xs) ≡ cond (list_any (same_row k) xs) (k ∷ []) []
once k [] = refl
once k (x ∷ xs) = by (same_row k x) refl (once k xs)
  where
    by : (b : Bool) → same_row k x ≡ b → filter (same_row k) (distinct_rows xs) ≡ cond (list_any (same_row k) xs) (k ∷ []) [] → cond (same_row k x) (x ∷ filter (same_row k) (filter (λ q. not (same_row x q)) (distinct_rows xs))) (filter (same_row k) (filter (λ q. not (same_row x q)) (distinct_rows xs))) ≡ cond (same_row k x || list_any (same_row k) xs) (k ∷ []) []
    by true q rest =
        let none = none_pass k x q (distinct_rows xs) in
        let is = sym (same_row-is k x q) in
        ap (λ b. cond b (x ∷ filter (same_row k) (filter (λ q. not (same_row x q)) (distinct_rows xs))) (filter (same_row k) (filter (λ q. not (same_row x q)) (distinct_rows xs)))) q
        ∙ (λ i. is i ∷ none i)
        ∙ sym (ap (λ b. cond (b || list_any (same_row k) xs) (k ∷ []) []) q)
    by false q rest =
        ap (λ b. cond b (x ∷ filter (same_row k) (filter (λ q. not (same_row x q)) (distinct_rows xs))) (filter (same_row k) (filter (λ q. not (same_row x q)) (distinct_rows xs)))) q
        ∙ all_pass k x q (distinct_rows xs)
        ∙ rest
        ∙ sym (ap (λ b. cond (b || list_any (same_row k) xs) (k ∷ []) []) q)

any_map : {A B : Type 0} (f : A → B) (p : B → Bool) (xs : List A) → list_any p (map f xs) ≡ list_any (λ x. p (f x)) xs
any_map f p [] = refl
any_map f p (x ∷ xs) = ap (λ b. p (f x) || b) (any_map f p xs)

passing : {A : Type 0} (test : A → Bool) (xs : List A) → AllByRecursion (λ x. test x ≡ true) (filter test xs)
passing test [] = tt
passing {A} test (x ∷ xs) = by (test x) refl (passing test xs)
  where
    by : (b : Bool) → test x ≡ b → AllByRecursion (λ x. test x ≡ true) (filter test xs) → AllByRecursion (λ x. test x ≡ true) (cond b (x ∷ filter test xs) (filter test xs))
    by true q rest = (q, rest)
    by false q rest = rest

was_false : (b : Bool) → not b ≡ true → b ≡ false
was_false true h = cc
was_false false h = refl

module _ (places : List ℕ) where
  abbrev key : List Value → List Value
  key row = picked places row

  abbrev pub last_of : List Value → List (List Value) → List Value
  last_of k rows = last_row (with_key places k rows)

  -- what has no row of a key, and what has some
  none_with : (k : List Value) (rs : List (List Value)) → list_any (λ q. same_row k (key q)) rs ≡ false → with_key places k rs ≡ []
  none_with k [] h = refl
  none_with k (r ∷ rs) h = by (same_row k (key r)) h (none_with k rs)
    where
      by : (b : Bool) → (b || list_any (λ q. same_row k (key q)) rs) ≡ false → (list_any (λ q. same_row k (key q)) rs ≡ false → with_key places k rs ≡ []) → cond b (r ∷ with_key places k rs) (with_key places k rs) ≡ []
      by true h rest = cc
      by false h rest = rest h

  some_with : (k : List Value) (rs : List (List Value)) → list_any (λ q. same_row k (key q)) rs ≡ true → with_key places k rs ≢ []
  some_with k [] h = cc
  some_with k (r ∷ rs) h = by (same_row k (key r)) h (some_with k rs)
    where
      by : (b : Bool) → (b || list_any (λ q. same_row k (key q)) rs) ≡ true → (list_any (λ q. same_row k (key q)) rs ≡ true → with_key places k rs ≢ []) → cond b (r ∷ with_key places k rs) (with_key places k rs) ≢ []
      by true h rest = λ e. cc
      by false h rest = rest h

  behind : (r : List Value) (rows : List (List Value)) → rows ≢ [] → last_row (r ∷ rows) ≡ last_row rows
  behind r [] some = absurd (some refl)
  behind r (q ∷ rows) some = refl

  pub last_rows_are : (rows : List (List Value)) → IsPermutation (map (λ k. last_of k rows) (distinct_rows (map key rows))) (last_rows places rows)
  last_rows_are [] = IsPermutation-refl []
  last_rows_are (r ∷ rs) = by (list_any (λ q. same_row (key r) (key q)) rs) refl (last_rows_are rs)
    where
      -- of other keys nothing changes
      others : map (λ k. last_of k (r ∷ rs)) (filter (λ k. not (same_row (key r) k)) (distinct_rows (map key rs))) ≡ map (λ k. last_of k rs) (filter (λ k. not (same_row (key r) k)) (distinct_rows (map key rs)))
      others =
          map_each (λ k. last_of k (r ∷ rs)) (λ k. last_of k rs) (λ k. not (same_row (key r) k) ≡ true)
          (λ k h. ap (λ b. last_row (cond b (r ∷ with_key places k rs) (with_key places k rs))) (same_row-back k (key r) ∙ was_false (same_row (key r) k) h)) (filter (λ k. not (same_row (key r) k)) (distinct_rows (map key rs)))
          (passing (λ k. not (same_row (key r) k)) (distinct_rows (map key rs)))

      head : last_of (key r) (r ∷ rs) ≡ last_row (r ∷ with_key places (key r) rs)
      head = ap (λ b. last_row (cond b (r ∷ with_key places (key r) rs) (with_key places (key r) rs))) (same_row-itself (key r))

      parts : IsPermutation (distinct_rows (map key rs)) (filter (same_row (key r)) (distinct_rows (map key rs)) ++ filter (λ k. not (same_row (key r) k)) (distinct_rows (map key rs)))
      parts = IsPermutation-filter_both (same_row (key r)) (λ k. not (same_row (key r) k)) (λ k. refl) (distinct_rows (map key rs))

      found : (b : Bool) → list_any (λ q. same_row (key r) (key q)) rs ≡ b → IsPermutation (distinct_rows (map key rs)) (cond b (key r ∷ []) [] ++ filter (λ k. not (same_row (key r) k)) (distinct_rows (map key rs)))
      found b e = subst (λ xs. IsPermutation (distinct_rows (map key rs)) (xs ++ filter (λ k. not (same_row (key r) k)) (distinct_rows (map key rs)))) (once (key r) (map key rs) ∙ ap (λ b. cond b (key r ∷ []) []) (any_map key (same_row (key r)) rs ∙ e)) parts

      by : (b : Bool) → list_any (λ q. same_row (key r) (key q)) rs ≡ b → IsPermutation (map (λ k. last_of k rs) (distinct_rows (map key rs))) (last_rows places rs)
          → IsPermutation (map (λ k. last_of k (r ∷ rs)) (distinct_rows (map key (r ∷ rs)))) (cond (list_any (λ q. same_row (key r) (key q)) rs) (last_rows places rs) (r ∷ last_rows places rs))
      by true e rest =
          let is : map (λ k. last_of k (r ∷ rs)) (distinct_rows (map key (r ∷ rs))) ≡ map (λ k. last_of k rs) (key r ∷ filter (λ k. not (same_row (key r) k)) (distinct_rows (map key rs))) =
          (let h = head ∙ behind r (with_key places (key r) rs) (some_with (key r) rs e) in let o = others in λ i. h i ∷ o i) in
          let p = IsPermutation-map (λ k. last_of k rs) (distinct_rows (map key rs)) (key r ∷ filter (λ k. not (same_row (key r) k)) (distinct_rows (map key rs))) (found true e) in
          let q = IsPermutation-trans (map (λ k. last_of k rs) (key r ∷ filter (λ k. not (same_row (key r) k)) (distinct_rows (map key rs)))) (map (λ k. last_of k rs) (distinct_rows (map key rs))) (last_rows places rs) (IsPermutation-sym (map (λ k. last_of k rs) (distinct_rows (map key rs))) (map (λ k. last_of k rs) (key r ∷ filter (λ k. not (same_row (key r) k)) (distinct_rows (map key rs)))) p) rest in
          subst (λ xs. IsPermutation xs (cond (list_any (λ q. same_row (key r) (key q)) rs) (last_rows places rs) (r ∷ last_rows places rs))) (sym is)
          (subst (λ b. IsPermutation (map (λ k. last_of k rs) (key r ∷ filter (λ k. not (same_row (key r) k)) (distinct_rows (map key rs)))) (cond b (last_rows places rs) (r ∷ last_rows places rs))) (sym e) q)
      by false e rest =
          let is : map (λ k. last_of k (r ∷ rs)) (distinct_rows (map key (r ∷ rs))) ≡ r ∷ map (λ k. last_of k rs) (filter (λ k. not (same_row (key r) k)) (distinct_rows (map key rs))) =
          (let h = head ∙ ap (λ xs. last_row (r ∷ xs)) (none_with (key r) rs e) in let o = others in λ i. h i ∷ o i) in
          let p = IsPermutation-map (λ k. last_of k rs) (distinct_rows (map key rs)) (filter (λ k. not (same_row (key r) k)) (distinct_rows (map key rs))) (found false e) in
          let q = IsPermutation-trans (map (λ k. last_of k rs) (filter (λ k. not (same_row (key r) k)) (distinct_rows (map key rs)))) (map (λ k. last_of k rs) (distinct_rows (map key rs))) (last_rows places rs) (IsPermutation-sym (map (λ k. last_of k rs) (distinct_rows (map key rs))) (map (λ k. last_of k rs) (filter (λ k. not (same_row (key r) k)) (distinct_rows (map key rs)))) p) rest in
          subst (λ xs. IsPermutation xs (cond (list_any (λ q. same_row (key r) (key q)) rs) (last_rows places rs) (r ∷ last_rows places rs))) (sym is)
          (subst (λ b. IsPermutation (r ∷ map (λ k. last_of k rs) (filter (λ k. not (same_row (key r) k)) (distinct_rows (map key rs)))) (cond b (last_rows places rs) (r ∷ last_rows places rs))) (sym e)
          (IsPermutation-cons r (map (λ k. last_of k rs) (filter (λ k. not (same_row (key r) k)) (distinct_rows (map key rs)))) (last_rows places rs) q))
