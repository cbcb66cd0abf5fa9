-- Lists one after another, and what stands on both sides of a seam.
use Rattle.std.proofs.Common.{◌≡◌, ℕ, zero, suc, ◌<◌, ◌≤◌, ◌-◌, ◌+◌, List, [], ◌∷◌, ◌++◌, length, get_or, take, drop, refl, sym, ◌∙◌, ap, arith, append_assoc, append-nil, length-append}
use Rattle.std.specs.Prelude.{Some, slice_get}
use Rattle.std.proofs.lemmas.Option.{same_Some}
use Rattle.ps_frame.specs.EndToEnd.{end_to_end}

-- a list that is not done
pub drop-next : {A : Type 0} (xs : List A) (k : ℕ) (x : A) → slice_get xs k ≡ Some x → drop k xs ≡ x ∷ drop (k + 1) xs
drop-next [] k x e = cc
drop-next (y ∷ xs) zero x e = ap (λ z. z ∷ xs) (same_Some y x e)
drop-next (y ∷ xs) (suc k) x e = drop-next xs k x e ∙ (let f : suc (k + 1) ≡ suc k + 1 = omega arith in ap (λ n. x ∷ drop n (y ∷ xs)) f)

module _ {A : Type 0} where
  -- the item at a place before the seam, and behind it
  pub slice_get-before : (xs ys : List A) (i : ℕ) → i < length xs → slice_get (xs ++ ys) i ≡ slice_get xs i
  slice_get-before [] ys i h = absurd (omega arith)
  slice_get-before (x ∷ xs) ys zero h = refl
  slice_get-before (x ∷ xs) ys (suc i) h = slice_get-before xs ys i (omega arith)

  pub slice_get-behind : (xs ys : List A) (i : ℕ) → length xs ≤ i → slice_get (xs ++ ys) i ≡ slice_get ys (i - length xs)
  slice_get-behind [] ys i h = let e : i ≡ i - 0 = omega arith in ap (slice_get ys) e
  slice_get-behind (x ∷ xs) ys zero h = absurd (omega arith)
  slice_get-behind (x ∷ xs) ys (suc i) h = slice_get-behind xs ys i (omega arith) ∙ (let e : i - length xs ≡ suc i - suc (length xs) = omega arith in ap (slice_get ys) e)

  -- a part of what lies on both sides
  drop-seam : (o : ℕ) (xs ys : List A) → drop o (xs ++ ys) ≡ drop o xs ++ drop (o - length xs) ys
  drop-seam zero xs ys = let e : 0 ≡ 0 - length xs = omega arith in ap (λ n. xs ++ drop n ys) e
  drop-seam (suc o) [] ys = let e : suc o ≡ suc o - 0 = omega arith in ap (λ n. drop n ys) e
  drop-seam (suc o) (x ∷ xs) ys = drop-seam o xs ys ∙ (let e : o - length xs ≡ suc o - suc (length xs) = omega arith in ap (λ n. drop o xs ++ drop n ys) e)

  take-seam : (n : ℕ) (xs ys : List A) → take n (xs ++ ys) ≡ take n xs ++ take (n - length (take n xs)) ys
  take-seam zero xs ys = refl
  take-seam (suc n) [] ys = let e : suc n ≡ suc n - 0 = omega arith in ap (λ m. take m ys) e
  take-seam (suc n) (x ∷ xs) ys =
      ap (λ zs. x ∷ zs) (take-seam n xs ys)
      ∙ (let e : n - length (take n xs) ≡ suc n - suc (length (take n xs)) = omega arith in ap (λ m. x ∷ take n xs ++ take m ys) e)

  pub part-seam : (n o : ℕ) (xs ys : List A) → take n (drop o (xs ++ ys)) ≡ take n (drop o xs) ++ take (n - length (take n (drop o xs))) (drop (o - length xs) ys)
  part-seam n o xs ys = ap (take n) (drop-seam o xs ys) ∙ take-seam n (drop o xs) (drop (o - length xs) ys)

  -- one more list, and more of them
  pub end_to_end-append : (xss yss : List (List A)) → end_to_end (xss ++ yss) ≡ end_to_end xss ++ end_to_end yss
  end_to_end-append [] yss = refl
  end_to_end-append (xs ∷ xss) yss = ap (λ l. xs ++ l) (end_to_end-append xss yss) ∙ sym (append_assoc xs (end_to_end xss) (end_to_end yss))

  -- a walk over lists, which looks for an item
  module _ (xss : List (List A)) (k left i : ℕ) (xs : List A) (there : slice_get xss k ≡ Some xs) where
    pub item-here : (x : A) → slice_get (end_to_end (drop k xss)) left ≡ slice_get (end_to_end xss) i → left < length xs → slice_get xs left ≡ Some x → slice_get (end_to_end xss) i ≡ Some x
    item-here x same h is =
        sym same ∙ ap (λ zss. slice_get (end_to_end zss) left) (drop-next xss k xs there) ∙ slice_get-before xs (end_to_end (drop (k + 1) xss)) left h ∙ is

    pub item-later : slice_get (end_to_end (drop k xss)) left ≡ slice_get (end_to_end xss) i → length xs ≤ left → slice_get (end_to_end (drop (k + 1) xss)) (left - length xs) ≡ slice_get (end_to_end xss) i
    item-later same h =
        sym (slice_get-behind xs (end_to_end (drop (k + 1) xss)) left h) ∙ sym (ap (λ zss. slice_get (end_to_end zss) left) (drop-next xss k xs there)) ∙ same

    pub left-later : left < length (end_to_end (drop k xss)) → length xs ≤ left → left - length xs < length (end_to_end (drop (k + 1) xss))
    left-later l h =
        let e = ap (λ zss. length (end_to_end zss)) (drop-next xss k xs there) in
        let f = length-append xs (end_to_end (drop (k + 1) xss)) in
        omega arith

  -- a walk over lists, which takes a part of them
  pub part-later : (xss old new : List (List A)) (k n o : ℕ) (xs part : List A) → slice_get xss k ≡ Some xs → part ≡ take n (drop o xs) → end_to_end new ≡ end_to_end old ++ part
      → end_to_end old ++ take n (drop o (end_to_end (drop k xss))) ≡ end_to_end new ++ take (n - length part) (drop (o - length xs) (end_to_end (drop (k + 1) xss)))
  part-later xss old new k n o xs part there is made =
      ap (λ zss. end_to_end old ++ take n (drop o (end_to_end zss))) (drop-next xss k xs there)
      ∙ ap (λ zs. end_to_end old ++ zs) (part-seam n o xs (end_to_end (drop (k + 1) xss)))
      ∙ ap (λ zs. end_to_end old ++ (zs ++ take (n - length zs) (drop (o - length xs) (end_to_end (drop (k + 1) xss))))) (sym is)
      ∙ sym (append_assoc (end_to_end old) part (take (n - length part) (drop (o - length xs) (end_to_end (drop (k + 1) xss)))))
      ∙ ap (λ zs. zs ++ take (n - length part) (drop (o - length xs) (end_to_end (drop (k + 1) xss)))) (sym made)

  -- one more list
  pub end_to_end-push : (xss new : List (List A)) (xs : List A) → new ≡ xss ++ xs ∷ [] → end_to_end new ≡ end_to_end xss ++ xs
  end_to_end-push xss new xs made = ap end_to_end made ∙ end_to_end-append xss (xs ∷ []) ∙ ap (λ ys. end_to_end xss ++ ys) (append-nil xs)

  -- lists that lie behind others
  pub end_to_end-joined : (first second : List A) (rest more shared pushed new : List (List A)) → shared ≡ rest → pushed ≡ shared ++ second ∷ [] → new ≡ pushed ++ more
      → first ++ end_to_end new ≡ (first ++ end_to_end rest) ++ (second ++ end_to_end more)
  end_to_end-joined first second rest more shared pushed new e f g =
      ap (λ l. first ++ end_to_end l) (g ∙ ap (λ l. l ++ more) (f ∙ ap (λ l. l ++ second ∷ []) e))
      ∙ ap (λ l. first ++ l) (end_to_end-append (rest ++ second ∷ []) more ∙ ap (λ l. l ++ end_to_end more) (end_to_end-push rest (rest ++ second ∷ []) second refl) ∙ append_assoc (end_to_end rest) second (end_to_end more))
      ∙ sym (append_assoc first (end_to_end rest) (second ++ end_to_end more))

  -- lists of which the first is taken out
  pub end_to_end-taken : (first taken : List A) (rest new : List (List A)) → first ≡ [] → 0 < length rest → taken ≡ get_or rest 0 taken → new ≡ take 0 rest ++ drop 1 rest → taken ++ end_to_end new ≡ first ++ end_to_end rest
  end_to_end-taken first taken [] new e h is made = absurd (omega arith)
  end_to_end-taken first taken (xs ∷ rest) new e h is made = ap (λ l. taken ++ end_to_end l) made ∙ ap (λ l. l ++ end_to_end rest) is ∙ ap (λ l. l ++ (xs ++ end_to_end rest)) (sym e)
