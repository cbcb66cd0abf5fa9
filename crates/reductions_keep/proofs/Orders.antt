-- Some order of values of a function is the function over some order of its arguments.
use Rattle.std.proofs.Common.{◌≡◌, ℕ, ◌<◌, List, [], ◌∷◌, get_or, length, set, refl, sym, ap, subst, ◌∙◌}
use Rattle.std.specs.Prelude.{map}
use Rattle.std.specs.List.{swap}
use Rattle.std.specs.List.Sorted.{IsPermutation}
use Rattle.std.proofs.lemmas.List.{get_or-map, length-map, map-set}
use Rattle.std.proofs.lemmas.List.Sorted.{IsPermutation-keeps, IsPermutation-refl, IsPermutation-swap, IsPermutation-trans}

module _ {K X : Type 0} (f : K → X) where
  map_swap : (ks : List K) (i j : ℕ) → i < length ks → j < length ks → swap (map f ks) i j ≡ map f (swap ks i j)
  map_swap [] i j low high = refl
  map_swap (k ∷ ks) i j low high =
      let all = k ∷ ks in
      let first = ap (set (map f all) i) (get_or-map f all j k (f k) high) ∙ sym (map-set f all i (get_or all j k)) in
      (λ q. set (first q) j (get_or-map f all i k (f k) low q)) ∙ sym (map-set f (set all i (get_or all j k)) j (get_or all i k))

  pub record IsMapped (ks : List K) (xs : List X) : Type 0 where
    pub order : List K
    pub permutes : IsPermutation ks order
    pub values : xs ≡ map f order

  pub unmapped : (ks : List K) (xs : List X) → IsPermutation (map f ks) xs → IsMapped ks xs
  unmapped ks xs p = IsPermutation-keeps (map f ks) (IsMapped ks) (record { order = ks; permutes = IsPermutation-refl ks; values = refl }) swapped xs p
    where
      swapped : (l : List X) (i j : ℕ) → i < length l → j < length l → IsMapped ks l → IsMapped ks (swap l i j)
      swapped l i j low high m =
          let js = m.order in
          let same : length l ≡ length js = ap length m.values ∙ length-map js f in
          let low' : i < length js = subst (λ (n : ℕ). i < n) same low in
          let high' : j < length js = subst (λ (n : ℕ). j < n) same high in
          record {
            order = swap js i j;
            permutes = IsPermutation-trans ks js (swap js i j) m.permutes (IsPermutation-swap js (swap js i j) i j low' high' refl);
            values = ap (λ (ys : List X). swap ys i j) m.values ∙ map_swap js i j low' high';
          }
