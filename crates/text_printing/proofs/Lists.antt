-- Lists that are written entry after entry.
use Rattle.std.proofs.Common.{◌≡◌, ℕ, ◌≤◌, List, [], ◌∷◌, ◌++◌, length, map, take, sym, refl, ap, ◌∙◌, append_assoc, append-nil}
use Rattle.std.specs.List.{flat_map}
use Rattle.std.proofs.lemmas.List.{take_all}
use Rattle.text_queries.specs.Queries.{Stage}
use Rattle.text_queries.specs.Writing.{stage_tokens, stages_tokens, with_commas}
use Rattle.text_tokens.specs.declared.token.Sign.TheVariants as sign
use Rattle.text_tokens.specs.declared.token.Token.{Token}
use Rattle.text_tokens.specs.declared.token.Token.TheVariants as token

-- entries with this sign before each
abbrev pub led : {X : Type 0} → Token → (X → List Token) → List X → List Token
led lead f xs = flat_map (λ x. lead ∷ f x) xs

with_commas-led : {X Y : Type 0} (f : Y → List Token) (view : X → Y) → (x : X) (xs : List X) → with_commas f (map view (x ∷ xs)) ≡ f (view x) ++ led (token.Sign sign.Comma) (λ y. f (view y)) xs
with_commas-led f view x [] = sym (append-nil (f (view x)))
with_commas-led f view x (y ∷ ys) = ap (λ rest. f (view x) ++ token.Sign sign.Comma ∷ rest) (with_commas-led f view y ys)

-- the first entry, and then the others
pub with_commas_all : {X Y : Type 0} (f : Y → List Token) (view : X → Y) → (x : X) (xs whole : List X) (n : ℕ) (old first after : List Token) → whole ≡ x ∷ xs → first ≡ old ++ f (view x)
    → length xs ≤ n → after ≡ first ++ led (token.Sign sign.Comma) (λ y. f (view y)) (take n xs) → after ≡ old ++ with_commas f (map view whole)
with_commas_all f view x xs whole n old first after split one all others =
    others ∙ (λ i. one i ++ led (token.Sign sign.Comma) (λ y. f (view y)) (take_all n xs all i))
    ∙ append_assoc old (f (view x)) (led (token.Sign sign.Comma) (λ y. f (view y)) xs)
    ∙ ap (λ ts. old ++ ts) (sym (ap (λ w. with_commas f (map view w)) split ∙ with_commas-led f view x xs))

stages_tokens-led : {X : Type 0} (view : X → Stage) → (xs : List X) → stages_tokens (map view xs) ≡ led (token.Sign sign.Bar) (λ x. stage_tokens (view x)) xs
stages_tokens-led view [] = refl
stages_tokens-led view (x ∷ xs) = ap (λ rest. token.Sign sign.Bar ∷ stage_tokens (view x) ++ rest) (stages_tokens-led view xs)

-- two tokens, and then the stages
pub stages_all : {X : Type 0} (view : X → Stage) → (xs : List X) (n : ℕ) (word name : Token) (old first second after : List Token) → first ≡ old ++ word ∷ [] → second ≡ first ++ name ∷ []
    → length xs ≤ n → after ≡ second ++ led (token.Sign sign.Bar) (λ x. stage_tokens (view x)) (take n xs) → after ≡ old ++ word ∷ name ∷ stages_tokens (map view xs)
stages_all view xs n word name old first second after one two all others =
    others ∙ (λ i. two i ++ led (token.Sign sign.Bar) (λ x. stage_tokens (view x)) (take_all n xs all i))
    ∙ append_assoc first (name ∷ []) (led (token.Sign sign.Bar) (λ x. stage_tokens (view x)) xs)
    ∙ (λ i. one i ++ name ∷ sym (stages_tokens-led view xs) i)
    ∙ append_assoc old (word ∷ []) (name ∷ stages_tokens (map view xs))
