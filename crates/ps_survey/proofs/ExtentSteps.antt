-- One more number in an extent, and one more in a table of extents.
use Rattle.std.proofs.Common.{◌≡◌, ◌≢◌, ◌⊎◌, inl, inr, ℕ, zero, suc, ◌+◌, ◌<◌, ◌≤◌, max, List, [], ◌∷◌, ◌++◌, length, get_or, set, take, slice_get, refl, sym, ◌∙◌, ap, subst, arith}
use Rattle.std.specs.Prelude.{Some, Contains, sum_by}
use Rattle.std.proofs.lemmas.List.{take_all, take_more}
use Rattle.std.proofs.lemmas.List.Elements.{Contains-push_cases}
use Rattle.std.proofs.lemmas.List.Sums.{sum_by_push}
use Rattle.std.proofs.lemmas.Option.{slice_get-get_or, slice_get_within}
use Rattle.ps_survey.specs.Extents.{HasExtent, IsExtent, largest}
use Rattle.valid_plans.specs.Surveys.{NamedFirst}
use Rattle.ps_survey.specs.declared.extents.Extent.{Extent}
use Rattle.ps_survey.proofs.Lists.{from-at, same-or-not, slice_get-set_other, slice_get-set_same}
use Rattle.ps_survey.proofs.Visits.{take-push}

pub largest-push : (f : ℕ → ℕ) (xs : List ℕ) (x : ℕ) → largest f (xs ++ x ∷ []) ≡ max (largest f xs) (f x)
largest-push f [] x = ends (f x)
  where
    ends : (a : ℕ) → max a 0 ≡ max 0 a
    ends a = omega arith
largest-push f (y ∷ xs) x = let e = largest-push f xs x in shift (f y) (largest f xs) (f x) (largest f (xs ++ x ∷ [])) e
  where
    shift : (a b c d : ℕ) → d ≡ max b c → max a d ≡ max (max a b) c
    shift a b c d e = omega (arith, e)

same-extent : (a b : Extent) (table : List Extent) (n : ℕ) → slice_get table n ≡ Some a → slice_get table n ≡ Some b → a ≡ b
same-extent a b table n p q = let e : Some a ≡ Some b = sym p ∙ q in cc

-- the extent that is found in the table
pub found-extent : (table : List Extent) (n d s : ℕ) (e : Extent) → slice_get table n ≡ Some e → HasExtent table n d s → IsExtent d s e
found-extent table n d s e at h = subst (IsExtent d s) (same-extent h.0 e table n h.1 at) h.2

pub extent-more : (d s : ℕ → ℕ) (names : List ℕ) (k x : ℕ) (e : Extent) → slice_get names k ≡ Some x → IsExtent (max (largest d (take k names)) (d x)) (sum_by s (take k names) + s x) e → IsExtent (largest d (take (k + 1) names)) (sum_by s (take (k + 1) names)) e
extent-more d s names k x e at h =
    let t = take-push names k x at in
    let a = ap (largest d) t ∙ largest-push d (take k names) x in
    let b = ap (sum_by s) t ∙ sum_by_push s (take k names) x in
    subst (λ n. IsExtent n (sum_by s (take (k + 1) names)) e) (sym a) (subst (λ n. IsExtent (max (largest d (take k names)) (d x)) n e) (sym b) h)

pub extent-all : (d s : ℕ → ℕ) (names : List ℕ) (k : ℕ) (e : Extent) → length names ≤ k → IsExtent (largest d (take k names)) (sum_by s (take k names)) e → IsExtent (largest d names) (sum_by s names) e
extent-all d s names k e h x = subst (λ ns. IsExtent (largest d ns) (sum_by s ns) e) (take_all k names h) x

-- the table after a write
module _ (d s : ℕ → ℕ) (order : List ℕ) (i : ℕ) (h : i < length order) (table : List Extent) (e : Extent) (within : get_or order i 0 < length table) (is : IsExtent (d (get_or order i 0)) (s (get_or order i 0)) e)
    (all : (n : ℕ) → Contains (take i order) n → HasExtent table n (d n) (s n)) where
  pub table-more : (n : ℕ) → Contains (take (i + 1) order) n → HasExtent (set table (get_or order i 0) e) n (d n) (s n)
  table-more n c = by (same-or-not n (get_or order i 0)) (Contains-push_cases (take i order) (get_or order i 0) n (subst (λ ns. Contains ns n) (take_more order i 0 h) c))
    where
      here : n ≡ get_or order i 0 → HasExtent (set table (get_or order i 0) e) n (d n) (s n)
      here q = subst (λ m. HasExtent (set table (get_or order i 0) e) m (d m) (s m)) (sym q) (e, slice_get-set_same table (get_or order i 0) e within, is)

      by : (n ≡ get_or order i 0) ⊎ (n ≢ get_or order i 0) → Contains (take i order) n ⊎ (get_or order i 0 ≡ n) → HasExtent (set table (get_or order i 0) e) n (d n) (s n)
      by (inl q) _ = here q
      by (inr ne) (inl c) = let a = all n c in (a.0, slice_get-set_other table (get_or order i 0) n e ne ∙ a.1, a.2)
      by (inr ne) (inr q) = here (sym q)

pub table-all : (d s : ℕ → ℕ) (order : List ℕ) (i : ℕ) (table : List Extent) → length order ≤ i → ((n : ℕ) → Contains (take i order) n → HasExtent table n (d n) (s n)) → (n : ℕ) → Contains order n → HasExtent table n (d n) (s n)
table-all d s order i table h all n c = all n (subst (λ ns. Contains ns n) (sym (take_all i order h)) c)

-- what a number of an order names is in the table already
pub named-before : (next : ℕ → List ℕ) (order : List ℕ) (i : ℕ) → i < length order → NamedFirst next order → (m : ℕ) → Contains (next (get_or order i 0)) m → Contains (take i order) m
named-before next order i h first m c = first i (get_or order i 0) m (slice_get-get_or order i 0 h) c
