-- How the places hold the items, index by index.
use Rattle.std.proofs.Common.{◌≡◌, ◌≢◌, ℕ, zero, suc, ◌+◌, ◌-◌, ◌<◌, ◌≤◌, ◌⊎◌, List, [], ◌∷◌, ◌++◌, map, length, take, drop, set, get_or, replicate, slice_get, Option, Some, None, refl, sym, ap, ◌∙◌, subst, inl, inr, arith, length-append, length-take, length-drop, get_or-take, get_or-drop, get_or-set_same, get_or-set_other, ext_get_or, append-nil}
use Rattle.std.proofs.lemmas.List.{length-map, length-replicate, get_or_append_left, get_or-append_right}
use Rattle.std.proofs.lemmas.Option.{slice_get_past}
use Rattle.std.proofs.Permutation.{which}
use Rattle.pu_index.specs.Places.{Wraps, somes, filled, from_start}

pub below_or_not : (a b : ℕ) → (a < b) ⊎ (b ≤ a)
below_or_not zero zero = inr (omega arith)
below_or_not zero (suc b) = inl (omega arith)
below_or_not (suc a) zero = inr (omega arith)
below_or_not (suc a) (suc b) = elim (below_or_not a b) [ inl h ↦ inl (omega arith) | inr h ↦ inr (omega arith) ]

pub wrap : (s i n : ℕ) → s < n → i ≤ n → (p : ℕ) × Wraps s i n p
wrap s i n lt le = elim (below_or_not (s + i) n) [ inl h ↦ (s + i, (h, inl refl)) | inr h ↦ (s + i - n, (omega arith, inr (omega arith))) ]

same_place : (s k n p q : ℕ) → Wraps s k n p → Wraps s k n q → p ≡ q
same_place s k n p q a b = elim a.1 [ inl e2 ↦ elim b.1 [ inl e1 ↦ omega (arith, a.0, b.0) | inr e1 ↦ omega (arith, a.0, b.0) ] | inr e2 ↦ elim b.1 [ inl e1 ↦ omega (arith, a.0, b.0) | inr e1 ↦ omega (arith, a.0, b.0) ] ]

same_index : (s j k n p : ℕ) → j < n → k < n → Wraps s j n p → Wraps s k n p → j ≡ k
same_index s j k n p lj lk a b = elim a.1 [ inl e2 ↦ elim b.1 [ inl e1 ↦ omega arith | inr e1 ↦ omega arith ] | inr e2 ↦ elim b.1 [ inl e1 ↦ omega arith | inr e1 ↦ omega arith ] ]

-- to move the start by t and then go i on is to go j on, where j is t + i round the end
joined : (s t i j n u p q : ℕ) → Wraps s t n u → Wraps u i n p → Wraps t i n j → Wraps s j n q → p ≡ q
joined s t i j n u p q a b c d =
    let fp = b.0 in let fq = d.0 in
    elim a.1 [ inl e4 ↦ elim b.1 [ inl e3 ↦ elim c.1 [ inl e2 ↦ elim d.1 [ inl e1 ↦ omega arith | inr e1 ↦ omega arith ] | inr e2 ↦ elim d.1 [ inl e1 ↦ omega arith | inr e1 ↦ omega arith ] ] | inr e3 ↦ elim c.1 [ inl e2 ↦ elim d.1 [ inl e1 ↦ omega arith | inr e1 ↦ omega arith ] | inr e2 ↦ elim d.1 [ inl e1 ↦ omega arith | inr e1 ↦ omega arith ] ] ] | inr e4 ↦ elim b.1 [ inl e3 ↦ elim c.1 [ inl e2 ↦ elim d.1 [ inl e1 ↦ omega arith | inr e1 ↦ omega arith ] | inr e2 ↦ elim d.1 [ inl e1 ↦ omega arith | inr e1 ↦ omega arith ] ] | inr e3 ↦ elim c.1 [ inl e2 ↦ elim d.1 [ inl e1 ↦ omega arith | inr e1 ↦ omega arith ] | inr e2 ↦ elim d.1 [ inl e1 ↦ omega arith | inr e1 ↦ omega arith ] ] ] ]

get_none : (X : Type 0) (n i : ℕ) → let none : Option X = None in get_or (replicate n none) i none ≡ none
get_none X zero i = refl
get_none X (suc n) zero = refl
get_none X (suc n) (suc i) = get_none X n i

module _ {X : Type 0} where
  pub cut_end : (xs : List X) → 0 < length xs → (us : List X) × (x : X) × (xs ≡ us ++ x ∷ [])
  cut_end [] h = absurd (omega arith)
  cut_end (x ∷ []) h = ([], x, refl)
  cut_end (x ∷ y ∷ xs) h = let on = cut_end (y ∷ xs) (omega arith) in (x ∷ on.0, on.1, ap (λ l. x ∷ l) on.2)

  pub cut_front : (xs : List X) → 0 < length xs → (x : X) × (us : List X) × (xs ≡ x ∷ us)
  cut_front [] h = absurd (omega arith)
  cut_front (x ∷ xs) h = (x, xs, refl)

  pub slice_get-tail : (x : X) (xs : List X) (i j : ℕ) → j ≡ i + 1 → slice_get (x ∷ xs) j ≡ slice_get xs i
  slice_get-tail x xs i j e = let more : j ≡ suc i = omega arith in ap (slice_get (x ∷ xs)) more

  pub slice_get-append_left : (xs ys : List X) (i : ℕ) → i < length xs → slice_get (xs ++ ys) i ≡ slice_get xs i
  slice_get-append_left [] ys i h = absurd (omega arith)
  slice_get-append_left (x ∷ xs) ys zero h = refl
  slice_get-append_left (x ∷ xs) ys (suc i) h = slice_get-append_left xs ys i (omega arith)

  pub slice_get-append_right : (xs ys : List X) (i k : ℕ) → i ≡ length xs + k → slice_get (xs ++ ys) i ≡ slice_get ys k
  slice_get-append_right [] ys i k e = let same : i ≡ k = omega arith in ap (slice_get ys) same
  slice_get-append_right (x ∷ xs) ys zero k e = absurd (omega arith)
  slice_get-append_right (x ∷ xs) ys (suc i) k e = slice_get-append_right xs ys i k (omega arith)

  pub slice_get-some : (xs : List X) (i : ℕ) → i < length xs → (x : X) × (slice_get xs i ≡ Some x)
  slice_get-some [] i h = absurd (omega arith)
  slice_get-some (x ∷ xs) zero h = (x, refl)
  slice_get-some (x ∷ xs) (suc i) h = slice_get-some xs i (omega arith)

  pub slice_get-last : (xs : List X) (x : X) (i : ℕ) → i ≡ length xs → slice_get (xs ++ x ∷ []) i ≡ Some x
  slice_get-last [] x zero e = refl
  slice_get-last [] x (suc i) e = absurd (omega arith)
  slice_get-last (y ∷ xs) x zero e = absurd (omega arith)
  slice_get-last (y ∷ xs) x (suc i) e = slice_get-last xs x i (omega arith)

  -- an item at the end changes no other index
  pub slice_get-push : (xs : List X) (x : X) (i : ℕ) → i ≢ length xs → slice_get (xs ++ x ∷ []) i ≡ slice_get xs i
  slice_get-push xs x i ne = elim (below_or_not i (length xs)) [
    | inl h ↦ slice_get-append_left xs (x ∷ []) i h
    | inr h ↦ slice_get_past (xs ++ x ∷ []) i (omega (arith, length-append xs (x ∷ []))) ∙ sym (slice_get_past xs i h)
  ]

  pub slice_get-take : (m : ℕ) (xs : List X) (i : ℕ) → i < m → slice_get (take m xs) i ≡ slice_get xs i
  slice_get-take zero xs i h = absurd (omega arith)
  slice_get-take (suc m) [] i h = refl
  slice_get-take (suc m) (x ∷ xs) zero h = refl
  slice_get-take (suc m) (x ∷ xs) (suc i) h = slice_get-take m xs i (omega arith)

  pub slice_get-drop : (k : ℕ) (xs : List X) (i j : ℕ) → j ≡ k + i → slice_get (drop k xs) i ≡ slice_get xs j
  slice_get-drop zero xs i j e = let same : i ≡ j = omega arith in ap (slice_get xs) same
  slice_get-drop (suc k) [] i j e = refl
  slice_get-drop (suc k) (x ∷ xs) i zero e = absurd (omega arith)
  slice_get-drop (suc k) (x ∷ xs) i (suc j) e = slice_get-drop k xs i j (omega arith)

  pub slice_get-set_same : (xs : List X) (i : ℕ) (w : X) → i < length xs → slice_get (set xs i w) i ≡ Some w
  slice_get-set_same [] i w h = absurd (omega arith)
  slice_get-set_same (x ∷ xs) zero w h = refl
  slice_get-set_same (x ∷ xs) (suc i) w h = slice_get-set_same xs i w (omega arith)

  pub slice_get-set_other : (xs : List X) (i j : ℕ) (w : X) → j ≢ i → slice_get (set xs i w) j ≡ slice_get xs j
  slice_get-set_other [] i j w h = refl
  slice_get-set_other (x ∷ xs) zero zero w h = absurd (h refl)
  slice_get-set_other (x ∷ xs) zero (suc j) w h = refl
  slice_get-set_other (x ∷ xs) (suc i) zero w h = refl
  slice_get-set_other (x ∷ xs) (suc i) (suc j) w h = slice_get-set_other xs i j w (λ e. h (ap suc e))

  get_some : (xs : List X) (i : ℕ) → get_or (map Some xs) i None ≡ slice_get xs i
  get_some [] i = refl
  get_some (x ∷ xs) zero = refl
  get_some (x ∷ xs) (suc i) = get_some xs i

  somes_none : (n : ℕ) → somes {X = X} (replicate n None) ≡ []
  somes_none zero = refl
  somes_none (suc n) = somes_none n

  somes_before : (xs : List X) (cs : List (Option X)) → somes (map Some xs ++ cs) ≡ xs ++ somes cs
  somes_before [] cs = refl
  somes_before (x ∷ xs) cs = ap (λ l. x ∷ l) (somes_before xs cs)

  pub somes-map : (xs : List X) → somes (map Some xs) ≡ xs
  somes-map [] = refl
  somes-map (x ∷ xs) = ap (λ l. x ∷ l) (somes-map xs)

  pub same_values : (xs ys : List X) → map Some xs ≡ map Some ys → xs ≡ ys
  same_values xs ys e = sym (somes-map xs) ∙ ap somes e ∙ somes-map ys

  pub somes-filled : (xs : List X) (n : ℕ) → somes (filled xs n) ≡ xs
  unfolding filled
  somes-filled xs n = somes_before xs (replicate (n - length xs) None) ∙ ap (λ l. xs ++ l) (somes_none (n - length xs)) ∙ append-nil xs

  length-filled : (xs : List X) (n : ℕ) → length xs ≤ n → length (filled xs n) ≡ n
  unfolding filled
  length-filled xs n le = let none : Option X = None in omega (arith, length-append (map Some xs) (replicate (n - length xs) none), length-map xs Some, length-replicate (n - length xs) none)

  get_or-filled : (xs : List X) (n i : ℕ) → get_or (filled xs n) i None ≡ slice_get xs i
  unfolding filled
  get_or-filled xs n i = let long = length-map xs Some in elim (below_or_not i (length xs)) [
    | inl h ↦ get_or_append_left (map Some xs) (replicate (n - length xs) None) None i (omega arith) ∙ get_some xs i
    | inr h ↦ get_or-append_right (map Some xs) (replicate (n - length xs) None) (length xs) i None long h ∙ get_none X (n - length xs) (i - length xs) ∙ sym (slice_get_past xs i h)
  ]

  length-from_start : (s : ℕ) (cs : List X) → s ≤ length cs → length (from_start s cs) ≡ length cs
  unfolding from_start
  length-from_start s cs le = omega (arith, length-append (drop s cs) (take s cs), length-drop s cs, length-take s cs)

  get_or-from_start : (s : ℕ) (cs : List X) (i p : ℕ) (d : X) → s ≤ length cs → i < length cs → Wraps s i (length cs) p → get_or (from_start s cs) i d ≡ get_or cs p d
  unfolding from_start
  get_or-from_start s cs i p d le lt w = let within = w.0 in let long = length-drop s cs in elim w.1 [
    | inl e ↦ get_or_append_left (drop s cs) (take s cs) d i (omega arith) ∙ get_or-drop s cs i d ∙ ap (λ k. get_or cs k d) (sym e)
    | inr e ↦ let back : i - (length cs - s) ≡ p = omega arith in
        get_or-append_right (drop s cs) (take s cs) (length cs - s) i d long (omega arith) ∙ get_or-take s cs (i - (length cs - s)) d (omega arith) ∙ ap (λ k. get_or cs k d) back
  ]

module _ {X : Type 0} where
  -- counted from the place s on, the i-th of the n places holds f i
  abbrev pub Holds : List (Option X) → ℕ → ℕ → (ℕ → Option X) → Type 0
  Holds cs s n f = (i p : ℕ) → i < n → Wraps s i n p → get_or cs p None ≡ f i

  pub Holds-from_laid : (cs : List (Option X)) (s n : ℕ) (xs : List X) → length cs ≡ n → s ≤ n → from_start s cs ≡ filled xs n → Holds cs s n (slice_get xs)
  Holds-from_laid cs s n xs long le laid i p lt w =
      sym (get_or-from_start s cs i p None (omega arith) (omega arith) (subst (λ k. Wraps s i k p) (sym long) w)) ∙ ap (λ l. get_or l i None) laid ∙ get_or-filled xs n i

  pub laid-from_Holds : (cs : List (Option X)) (s n : ℕ) (xs : List X) → length cs ≡ n → s ≤ n → (0 < n → s < n) → length xs ≤ n → Holds cs s n (slice_get xs) → from_start s cs ≡ filled xs n
  laid-from_Holds cs s n xs long le lt fits h =
      let all = length-from_start s cs (omega arith) in
      ext_get_or None (from_start s cs) (filled xs n) (all ∙ long ∙ sym (length-filled xs n fits)) (λ i within.
      let on = wrap s i n (lt (omega arith)) (omega arith) in
      get_or-from_start s cs i on.0 None (omega arith) (omega arith) (subst (λ k. Wraps s i k on.0) (sym long) on.1) ∙ h i on.0 (omega arith) on.1 ∙ sym (get_or-filled xs n i))

  -- c is written at the k-th place, and the start moves on by t
  pub Holds-written : (cs : List (Option X)) (s n : ℕ) (f g : ℕ → Option X) (k b : ℕ) (c : Option X) (t u : ℕ) → length cs ≡ n → s < n → k < n → t < n ⊎ t ≡ n → Holds cs s n f
      → Wraps s k n b → Wraps s t n u → ((i j : ℕ) → i < n → (j ≡ t + i) ⊎ (j + n ≡ t + i) → j < n → (j ≡ k → g i ≡ c) × (j ≢ k → g i ≡ f j)) → Holds (set cs b c) u n g
  Holds-written cs s n f g k b c t u long sn kn tn h at moved each i p lt w =
      let j : (j : ℕ) × Wraps t i n j = elim tn [ inl below ↦ wrap t i n below (omega arith) | inr all ↦ (i, (lt, inr (omega arith))) ] in
      let q = wrap s j.0 n sn (omega (arith, j.1.0)) in
      let here : p ≡ q.0 = joined s t i j.0 n u p q.0 moved w j.1 q.1 in
      let said = each i j.0 lt j.1.1 j.1.0 in
      elim (which j.0 k) [
        | inl same ↦ let is : p ≡ b = here ∙ same_place s k n q.0 b (subst (λ m. Wraps s m n q.0) same q.1) at in
            ap (λ m. get_or (set cs b c) m None) is ∙ get_or-set_same cs b c None (omega (arith, at.0)) ∙ sym (said.0 same)
        | inr other ↦ get_or-set_other cs b p c None (λ is. other (same_index s j.0 k n b j.1.0 kn (subst (Wraps s j.0 n) (sym here ∙ is) q.1) at))
            ∙ ap (λ m. get_or cs m None) here ∙ h j.0 q.0 j.1.0 q.1 ∙ sym (said.1 other)
      ]

  -- the m places from the index from on hold the m items from the k-th on
  pub run_holds : (cs : List (Option X)) (s n : ℕ) (xs : List X) (from m k : ℕ) → length cs ≡ n → Holds cs s n (slice_get xs) → length xs ≤ n → from + m ≤ n → k + m ≤ length xs
      → (from ≡ s + k) ⊎ (from + n ≡ s + k) → take m (drop from cs) ≡ map Some (take m (drop k xs))
  run_holds cs s n xs from m k long h fits within some start =
      let run = take m (drop k xs) in
      let count : length (take m (drop from cs)) ≡ m = omega (arith, length-take m (drop from cs), length-drop from cs) in
      ext_get_or None (take m (drop from cs)) (map Some run) (omega (arith, length-map run Some, length-take m (drop k xs), length-drop k xs)) (λ i lt.
      let w : Wraps s (k + i) n (from + i) = (omega arith, elim start [ inl e ↦ inl (omega arith) | inr e ↦ inr (omega arith) ]) in
      get_or-take m (drop from cs) i None (omega arith) ∙ get_or-drop from cs i None ∙ h (k + i) (from + i) (omega arith) w
      ∙ sym (get_some run i ∙ slice_get-take m (drop k xs) i (omega arith) ∙ slice_get-drop k xs i (k + i) refl))

  pub Holds-empty : (n s : ℕ) → Holds (replicate n None) s n (slice_get {X = X} [])
  Holds-empty n s i p lt w = get_none X n p

  pub empty-from_Holds : (cs : List (Option X)) (s n : ℕ) → length cs ≡ n → (0 < n → s < n) → Holds cs s n (slice_get []) → cs ≡ replicate n None
  empty-from_Holds cs s n long lt h =
      ext_get_or None cs (replicate n None) (long ∙ sym (length-replicate n None)) (λ p within.
      let sn = lt (omega arith) in
      let none : get_or cs p None ≡ None = elim (below_or_not p s) [
        | inl below ↦ h (p + n - s) p (omega arith) (omega arith, inr (omega arith))
        | inr above ↦ h (p - s) p (omega arith) (omega arith, inl (omega arith))
      ] in
      none ∙ sym (get_none X n p))
