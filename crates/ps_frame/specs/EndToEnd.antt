-- Lists one after another.
use Rattle.std.specs.Prelude.{◌≡◌, ℕ, ◌+◌, ◌<◌, List, [], ◌∷◌, ◌++◌, length}

-- the items of the first list, then those of the next one, and so on
abbrev pub end_to_end : {A : Type 0} → List (List A) → List A
end_to_end [] = []
end_to_end (xs ∷ xss) = xs ++ end_to_end xss

-- where each list starts, if the first of them starts at a place
abbrev pub starts_from : {A : Type 0} → ℕ → List (List A) → List ℕ
starts_from start [] = []
starts_from start (xs ∷ xss) = start ∷ starts_from (start + length xs) xss

-- lists one after another, fewer than so many behind the first, with the starts of these and the length of all
pub record AreLaid {A : Type 0} (most : ℕ) (first : List A) (rest : List (List A)) (starts : List ℕ) (len : ℕ) : Type 0 where
  pub counted : len ≡ length (first ++ end_to_end rest)
  pub noted : starts ≡ starts_from (length first) rest
  pub few : length rest < most
