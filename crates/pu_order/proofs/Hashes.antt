-- The turn of a loop that feeds a hasher, at the element x of the place i.
use Rattle.std.proofs.Common.{◌≡◌, ℕ, zero, suc, ◌+◌, ◌<◌, List, [], ◌∷◌, length, get_or, take, sym, ap, ◌∙◌, arith}
use Rattle.std.specs.List.{flat_map, fold}
use Rattle.std.proofs.lemmas.List.Sums.{fold-append}

module _ {S T : Type 0} (write : S → List ℕ → S) (F : T → List (List ℕ)) where
  next : (s : S) (xs : List T) (i : ℕ) (x : T) → i < length xs → x ≡ get_or xs i x → fold write s (flat_map F (take (suc i) xs)) ≡ fold write (fold write s (flat_map F (take i xs))) (F x)
  next s [] i x h e = absurd (omega arith)
  next s (y ∷ ys) zero x h e = fold-append write s (F y) [] ∙ ap (λ z. fold write s (F z)) (sym e)
  next s (y ∷ ys) (suc i) x h e =
      fold-append write s (F y) (flat_map F (take (suc i) ys)) ∙ next (fold write s (F y)) ys i x (omega arith) e
      ∙ ap (λ t. fold write t (F x)) (sym (fold-append write s (F y) (flat_map F (take i ys))))

  pub each_more : (s : S) (xs : List T) (i : ℕ) (x : T) → i < length xs → x ≡ get_or xs i x → fold write s (flat_map F (take (i + 1) xs)) ≡ fold write (fold write s (flat_map F (take i xs))) (F x)
  each_more s xs i x h e =
      let n : i + 1 ≡ suc i = omega arith in
      ap (λ k. fold write s (flat_map F (take k xs))) n ∙ next s xs i x h e
