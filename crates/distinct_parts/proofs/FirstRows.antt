-- The first row of each key, key by key.
use Rattle.std.proofs.Common.{◌≡◌, inl, inr, ℕ, Bool, true, false, not, cond, List, [], ◌∷◌, get_or, refl, sym, ap, ◌∙◌}
use Rattle.std.specs.Prelude.{map, filter, ◌||◌}
use Rattle.std.specs.List.{AllByRecursion, list_any}
use Rattle.ps_frame.specs.Values.{same_row}
use Rattle.ps_frame.specs.declared.value.Value.{Value}
use Rattle.ps_meaning.specs.Distinct.{distinct_rows, first_rows, picked}
use Rattle.ps_meaning.proofs.StepFits.{distinct-all}
use Rattle.ps_keys.proofs.SameRows.{same_row-back, same_row-is, same_row-itself}
use Rattle.ps_shares.proofs.Members.{Has}
use Rattle.picked_zips.proofs.Members.{filter_each, filter_map, map_each}

passing : {A : Type 0} (test : A → Bool) (xs : List A) → AllByRecursion (λ x. test x ≡ true) (filter test xs)
passing test [] = tt
passing {A} test (x ∷ xs) = by (test x) refl (passing test xs)
  where
    by : (b : Bool) → test x ≡ b → AllByRecursion (λ x. test x ≡ true) (filter test xs) → AllByRecursion (λ x. test x ≡ true) (cond b (x ∷ filter test xs) (filter test xs))
    by true q rest = (q, rest)
    by false q rest = rest

was_false : (b : Bool) → not b ≡ true → b ≡ false
was_false true h = cc
was_false false h = refl

module _ (places : List ℕ) where
  abbrev key : List Value → List Value
  key row = picked places row

  abbrev pub with_key : List Value → List (List Value) → List (List Value)
  with_key k rows = filter (λ row. same_row k (key row)) rows

  abbrev pub first_of : List Value → List (List Value) → List Value
  first_of k rows = get_or (with_key k rows) 0 []

  first_if : (k r : List Value) (rs : List (List Value)) (b : Bool) → same_row k (key r) ≡ b → first_of k (r ∷ rs) ≡ cond b r (first_of k rs)
  first_if k r rs true q = ap (λ b. get_or (cond b (r ∷ with_key k rs) (with_key k rs)) 0 []) q
  first_if k r rs false q = ap (λ b. get_or (cond b (r ∷ with_key k rs) (with_key k rs)) 0 []) q

  -- the first row of a key that is there has the key
  pub has_key : (k : List Value) (rows : List (List Value)) → list_any (λ row. same_row k (key row)) rows ≡ true → key (first_of k rows) ≡ k
  has_key k [] h = cc
  has_key k (r ∷ rs) h = by (same_row k (key r)) refl h (has_key k rs)
    where
      by : (b : Bool) → same_row k (key r) ≡ b → (same_row k (key r) || list_any (λ row. same_row k (key row)) rs) ≡ true → (list_any (λ row. same_row k (key row)) rs ≡ true → key (first_of k rs) ≡ k) → key (first_of k (r ∷ rs)) ≡ k
      by true q h rest = ap key (first_if k r rs true q) ∙ sym (same_row-is k (key r) q)
      by false q h rest = ap key (first_if k r rs false q) ∙ rest (sym (ap (λ b. b || list_any (λ row. same_row k (key row)) rs) q) ∙ h)

  there : (all : List (List Value)) (r : List Value) → Has all r → list_any (λ row. same_row (key r) (key row)) all ≡ true
  there [] r h = absurd h
  there (q ∷ all) r (inl e) = ap (λ b. b || list_any (λ row. same_row (key r) (key row)) all) (ap (λ q. same_row (key r) (key q)) e ∙ same_row-itself (key r))
  there (q ∷ all) r (inr h) = right (same_row (key r) (key q)) (list_any (λ row. same_row (key r) (key row)) all) (there all r h)
    where
      right : (a b : Bool) → b ≡ true → (a || b) ≡ true
      right true b h = refl
      right false b h = h

  all_there : (all rows : List (List Value)) → ((r : List Value) → Has rows r → Has all r) → AllByRecursion (λ k. list_any (λ row. same_row k (key row)) all ≡ true) (map key rows)
  all_there all [] within = tt
  all_there all (r ∷ rs) within = (there all r (within r (inl refl)), all_there all rs (λ q h. within q (inr h)))

  pub keys_there : (rows : List (List Value)) → AllByRecursion (λ k. list_any (λ row. same_row k (key row)) rows ≡ true) (distinct_rows (map key rows))
  keys_there rows = distinct-all (λ k. list_any (λ row. same_row k (key row)) rows ≡ true) (map key rows) (all_there rows rows (λ r h. h))

  all_keys : (all rows : List (List Value)) → ((r : List Value) → Has rows r → Has all r) → AllByRecursion (λ k. key (first_of k all) ≡ k) (map key rows)
  all_keys all [] within = tt
  all_keys all (r ∷ rs) within = (has_key (key r) all (there all r (within r (inl refl))), all_keys all rs (λ q h. within q (inr h)))

  -- of each distinct key
  pub keys_found : (rows : List (List Value)) → AllByRecursion (λ k. key (first_of k rows) ≡ k) (distinct_rows (map key rows))
  keys_found rows = distinct-all (λ k. key (first_of k rows) ≡ k) (map key rows) (all_keys rows rows (λ r h. h))

  pub first_rows_are : (rows : List (List Value)) → map (λ k. first_of k rows) (distinct_rows (map key rows)) ≡ first_rows places rows
  first_rows_are [] = refl
  first_rows_are (r ∷ rs) =
      let ks = distinct_rows (map key rs) in
      let test : List Value → Bool = λ k. not (same_row (key r) k) in
      let head = first_if (key r) r rs true (same_row-itself (key r)) in
      let later = map_each (λ k. first_of k (r ∷ rs)) (λ k. first_of k rs) (λ k. test k ≡ true) (λ k h. first_if k r rs false (same_row-back k (key r) ∙ was_false (same_row (key r) k) h)) (filter test ks) (passing test ks) in
      let known = filter_each (λ k. not (same_row (key r) (key (first_of k rs)))) test (λ k. key (first_of k rs) ≡ k) (λ k h. ap (λ q. not (same_row (key r) q)) h) ks (keys_found rs) in
      let rest = later ∙ ap (map (λ k. first_of k rs)) (sym known) ∙ sym (filter_map (λ k. first_of k rs) (λ q. not (same_row (key r) (key q))) ks) ∙ ap (filter (λ q. not (same_row (key r) (key q)))) (first_rows_are rs) in
      λ i. head i ∷ rest i
