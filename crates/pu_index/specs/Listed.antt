-- Items that are listed in a text.
use Rattle.std.specs.Prelude.{◌≡◌, ℕ, ◌++◌, List, [], ◌∷◌, Option, Some, codes, flat_map}

-- the texts of some items, with `, ` between each two
abbrev pub listed : {A : Type 0} → (A → List ℕ) → List A → List ℕ
listed show [] = []
listed show (x ∷ xs) = show x ++ flat_map (λ y. codes ", " ++ show y) xs

-- where each item is always shown as one text, P holds of the function that gives these texts
abbrev pub ShownBy : {A : Type 0} → (A → Option (List ℕ)) → ((A → List ℕ) → Type 0) → Type 0
ShownBy {A} output P = (show : A → List ℕ) → ((x : A) → output x ≡ Some (show x)) → P show
