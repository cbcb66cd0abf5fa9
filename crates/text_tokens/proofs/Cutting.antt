-- A text is cut into tokens one after another.
use Rattle.std.proofs.Common.{◌≡◌, ℕ, ◌<◌, true, false, List, [], ◌∷◌, ◌++◌, length, sym, refl, ap, ◌∙◌, subst, append_assoc, append-nil, arith}
use Rattle.std.specs.List.{list_all}
use Rattle.text_tokens.specs.Runs.{begins, is_blank}
use Rattle.text_tokens.specs.Tokens.{BeginsWith, AreSpaced, AreTokens}
use Rattle.text_tokens.specs.declared.token.Token.{Token}
use Rattle.text_tokens.proofs.FrontRuns.{run_once}
use Rattle.text_tokens.proofs.OneToken.{begins_once, begins_not_blank, begins_nonempty}

-- these tokens were read, and rest is what is left of the text
pub record AreRead (text : List ℕ) (tokens : List Token) (rest : List ℕ) : Type 0 where
  pub sound : (more : List Token) → AreSpaced more rest → AreSpaced (tokens ++ more) text
  pub only : (all : List Token) → AreSpaced all text → (more : List Token) × (all ≡ tokens ++ more) × AreSpaced more rest

pub read_none : (text : List ℕ) → AreRead text [] text
read_none text = record { sound = λ more h. h; only = λ all h. (all, refl, h) }

-- blanks, one token, and what is behind it
pub record Next (rest begun : List ℕ) (token : Token) (after : List ℕ) : Type 0 where
  pub blanks : List ℕ
  pub split : rest ≡ blanks ++ begun
  pub are_blank : list_all is_blank blanks ≡ true
  pub begun_is : begins is_blank begun ≡ false
  pub token_is : BeginsWith begun token after

-- the tokens of what is left begin with that one
next_only : (rest blanks begun : List ℕ) → rest ≡ blanks ++ begun → list_all is_blank blanks ≡ true → begins is_blank begun ≡ false → (0 < length rest) → (more : List Token) → AreSpaced more rest
    → (t : Token) × (tokens : List Token) × (after : List ℕ) × (more ≡ t ∷ tokens) × BeginsWith begun t after × AreSpaced tokens after
next_only rest blanks begun split are_blank begun_is some [] h = absurd (omega (arith, ap length h))
next_only rest blanks begun split are_blank begun_is some (t ∷ tokens) (own, text, after, own_split, own_blank, own_token, own_rest) =
    let same = run_once is_blank own blanks text begun own_blank (begins_not_blank text t after own_token) are_blank begun_is (sym own_split ∙ split) in
    (t, tokens, after, refl, subst (λ b. BeginsWith b t after) same.1 own_token, own_rest)

pub read_more : (text rest begun : List ℕ) (tokens : List Token) (token : Token) (after : List ℕ) → AreRead text tokens rest → 0 < length rest → Next rest begun token after → AreRead text (tokens ++ token ∷ []) after
read_more text rest begun tokens token after read some next = record {
  sound = λ more h. subst (λ all. AreSpaced all text) (sym (append_assoc tokens (token ∷ []) more)) (read.sound (token ∷ more) (next.blanks, begun, after, next.split, next.are_blank, next.token_is, h));
  only = λ all h. step all (read.only all h);
}
  where
    step : (all : List Token) → ((more : List Token) × (all ≡ tokens ++ more) × AreSpaced more rest) → (more : List Token) × (all ≡ (tokens ++ token ∷ []) ++ more) × AreSpaced more after
    step all (more, is, spaced) = at all more is (next_only rest next.blanks begun next.split next.are_blank next.begun_is some more spaced)
      where
        at : (all more : List Token) → all ≡ tokens ++ more → ((t : Token) × (ts : List Token) × (behind : List ℕ) × (more ≡ t ∷ ts) × BeginsWith begun t behind × AreSpaced ts behind) → (left : List Token) × (all ≡ (tokens ++ token ∷ []) ++ left) × AreSpaced left after
        at all more is (t, ts, behind, more_is, begun_with, spaced) =
            let same = begins_once begun t token behind after begun_with next.token_is in (
              ts,
              is ∙ ap (λ m. tokens ++ m) (more_is ∙ ap (λ u. u ∷ ts) same.0) ∙ sym (append_assoc tokens (token ∷ []) ts),
              subst (AreSpaced ts) same.1 spaced,
            )

-- where no token stands, the text isn't cut into tokens
pub read_stuck : (text rest blanks begun : List ℕ) (tokens : List Token) → AreRead text tokens rest → 0 < length rest → rest ≡ blanks ++ begun → list_all is_blank blanks ≡ true → begins is_blank begun ≡ false
    → ((token : Token) (after : List ℕ) → ¬ BeginsWith begun token after) → (all : List Token) → ¬ AreTokens all text
read_stuck text rest blanks begun tokens read some split are_blank begun_is none all h =
    let left = read.only all h.1 in
    let first = next_only rest blanks begun split are_blank begun_is some left.0 left.2 in
    none first.0 first.2 first.4

pub empty_cut : (more : List Token) → AreSpaced more [] → more ≡ []
empty_cut [] h = refl
empty_cut (t ∷ ts) (blanks, text, after, split, are_blank, token, rest) = absurd (at blanks text split token)
  where
    at : (blanks text : List ℕ) → [] ≡ blanks ++ text → BeginsWith text t after → ⊥
    at [] [] e h = begins_nonempty t after h
    at [] (b ∷ bs) e h = let f = e in cc
    at (b ∷ bs) text e h = let f = e in cc

-- at the end
pub read_all : (text : List ℕ) (tokens : List Token) (rest : List ℕ) → AreRead text tokens rest → length rest ≡ 0 → begins is_blank text ≡ false → AreTokens tokens text × ((all : List Token) → AreTokens all text → tokens ≡ all)
read_all text tokens [] read e begun = (
  (begun, subst (λ all. AreSpaced all text) (append-nil tokens) (read.sound [] refl)),
  λ all h. let left = read.only all h.1 in sym (append-nil tokens) ∙ ap (λ m. tokens ++ m) (sym (empty_cut left.0 left.2)) ∙ sym left.1,
)
read_all text tokens (b ∷ bs) read e begun = absurd (omega (arith, e))
