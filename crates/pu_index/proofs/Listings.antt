-- Items that are listed in a text, one after another.
use Rattle.std.proofs.Common.{◌≡◌, ℕ, ◌++◌, List, [], ◌∷◌, refl, sym, ap, ◌∙◌, codes, append_assoc, append-nil, flat_map}
use Rattle.pu_index.specs.Listed.{listed}

module _ {A : Type 0} where
  -- what stands before the next item
  abbrev pub lead : List A → List ℕ
  lead [] = []
  lead (x ∷ xs) = codes ", "

  flat_map-more : (f : A → List ℕ) (xs : List A) (y : A) → flat_map f (xs ++ y ∷ []) ≡ flat_map f xs ++ f y
  flat_map-more f [] y = append-nil (f y)
  flat_map-more f (x ∷ xs) y = ap (λ l. f x ++ l) (flat_map-more f xs y) ∙ sym (append_assoc (f x) (flat_map f xs) (f y))

  pub listed-more : (show : A → List ℕ) (xs : List A) (y : A) → listed show (xs ++ y ∷ []) ≡ listed show xs ++ (lead xs ++ show y)
  listed-more show [] y = append-nil (show y)
  listed-more show (x ∷ xs) y = ap (λ t. show x ++ t) (flat_map-more (λ z. codes ", " ++ show z) xs y) ∙ sym (append_assoc (show x) (flat_map (λ z. codes ", " ++ show z) xs) (codes ", " ++ show y))

  pub lead-more : (xs : List A) (y : A) → lead (xs ++ y ∷ []) ≡ codes ", "
  lead-more [] y = refl
  lead-more (x ∷ xs) y = refl

  -- a turn of the loop: the separator, and then the next item
  pub listed-next : (show : A → List ℕ) (xs : List A) (y : A) (start : List ℕ) {before middle after separator : List ℕ} → separator ≡ lead xs → before ≡ start ++ listed show xs → middle ≡ before ++ separator → after ≡ middle ++ show y → after ≡ start ++ listed show (xs ++ y ∷ [])
  listed-next show xs y start is from then_separator then_item =
      then_item ∙ ap (λ t. t ++ show y) (then_separator ∙ (λ i. from i ++ is i))
      ∙ append_assoc (start ++ listed show xs) (lead xs) (show y)
      ∙ append_assoc start (listed show xs) (lead xs ++ show y)
      ∙ ap (λ t. start ++ t) (sym (listed-more show xs y))
