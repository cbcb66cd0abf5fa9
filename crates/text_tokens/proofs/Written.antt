-- What is written of tokens is cut into them again.
use Rattle.std.proofs.Common.{◌≡◌, ℕ, ◌+◌, ◌<◌, Bool, true, false, cond, eqb, List, [], ◌∷◌, ◌++◌, length, take, get_or, sym, refl, ap, ◌∙◌, append_assoc, append-nil}
use Rattle.std.specs.List.{AllByRecursion, flat_map}
use Rattle.std.proofs.lemmas.List.{take_more, flat_map_more}
use Rattle.text_tokens.specs.Runs.{begins}
use Rattle.text_tokens.specs.Quotes.{doubled}
use Rattle.text_tokens.specs.Tokens.{AreSpaced, AreTokens, BeginsWith, IsToken, goes_on, led, quoted, spaced, spelling, takes_equals}
use Rattle.text_tokens.specs.declared.token.Token.{Token}
use Rattle.text_tokens.specs.declared.token.Token.TheVariants.{Word, Digits, Name, Text, Sign}
use Rattle.text_tokens.proofs.OneToken.{begins_not_blank}
use Rattle.text_tokens.proofs.Quoting.{IsFree, doubled_free, doubled_quote, doubled-append}

neither : (t : Bool) → cond t false false ≡ false
neither true = refl
neither false = refl

-- no token goes on with a space
space_ends : (token : Token) → goes_on token 32 ≡ false
space_ends (Word v) = refl
space_ends (Digits v) = refl
space_ends (Name v) = refl
space_ends (Text v) = refl
space_ends (Sign v) = neither (takes_equals v)

led_ends : (token : Token) (tokens : List Token) → begins (goes_on token) (led tokens) ≡ false
led_ends token [] = refl
led_ends token (other ∷ tokens) = space_ends token

front_begins : (token : Token) (tokens : List Token) → IsToken token → BeginsWith (spelling token ++ led tokens) token (led tokens)
front_begins token tokens is = record { text_is = refl; is_token = is; longest = led_ends token tokens }

led_cut : (tokens : List Token) → AllByRecursion IsToken tokens → AreSpaced tokens (led tokens)
led_cut [] all = refl
led_cut (token ∷ tokens) all = (32 ∷ [], spelling token ++ led tokens, led tokens, refl, refl, front_begins token tokens all.0, led_cut tokens all.1)

pub spaced_cut : (tokens : List Token) → AllByRecursion IsToken tokens → AreTokens tokens (spaced tokens)
spaced_cut [] all = (refl, refl)
spaced_cut (token ∷ tokens) all = (
  begins_not_blank (spelling token ++ led tokens) token (led tokens) (front_begins token tokens all.0),
  ([], spelling token ++ led tokens, led tokens, refl, refl, front_begins token tokens all.0, led_cut tokens all.1),
)

-- one more token
pub led_more : (first : List ℕ) (others : List Token) (i : ℕ) (token : Token) (before between after : List ℕ) → i < length others → token ≡ get_or others i token → before ≡ first ++ led (take i others) → between ≡ before ++ 32 ∷ [] → after ≡ between ++ spelling token
    → after ≡ first ++ led (take (i + 1) others)
led_more first others i token before between after below is so_far space written =
    written ∙ ap (λ b. b ++ spelling token) (space ∙ ap (λ b. b ++ 32 ∷ []) so_far)
    ∙ append_assoc (first ++ led (take i others)) (32 ∷ []) (spelling token)
    ∙ flat_map_more (λ other. 32 ∷ spelling other) first (take i others) token
    ∙ ap (λ ts. first ++ led ts) (ap (λ t. take i others ++ t ∷ []) is ∙ sym (take_more others i token below))

-- one more piece with the quote behind it
pub doubled_more : (quote : ℕ) (start content rest before after text written : List ℕ) → text ++ doubled quote rest ≡ start ++ quote ∷ doubled quote content → rest ≡ before ++ quote ∷ after → IsFree quote before → written ≡ ((text ++ before) ++ quote ∷ []) ++ quote ∷ []
    → written ++ doubled quote after ≡ start ++ quote ∷ doubled quote content
doubled_more quote start content rest before after text written so_far rest_is free is =
    let split : doubled quote rest ≡ before ++ quote ∷ quote ∷ doubled quote after =
    ap (doubled quote) rest_is ∙ doubled-append quote before (quote ∷ after)
    ∙ (λ i. doubled_free quote before free i ++ one_quote i) in
    ap (λ w. w ++ doubled quote after) is
    ∙ append_assoc ((text ++ before) ++ quote ∷ []) (quote ∷ []) (doubled quote after)
    ∙ append_assoc (text ++ before) (quote ∷ []) (quote ∷ doubled quote after)
    ∙ append_assoc text before (quote ∷ quote ∷ doubled quote after)
    ∙ ap (λ d. text ++ d) (sym split) ∙ so_far
  where
    one_quote : doubled quote (quote ∷ after) ≡ quote ∷ quote ∷ doubled quote after
    one_quote = doubled-append quote (quote ∷ []) after ∙ ap (λ d. d ++ doubled quote after) (doubled_quote quote)

-- the rest without quotes, and the quote that closes
pub doubled_all : (quote : ℕ) (start content rest text written : List ℕ) → text ++ doubled quote rest ≡ start ++ quote ∷ doubled quote content → IsFree quote rest → written ≡ (text ++ rest) ++ quote ∷ []
    → written ≡ start ++ quoted quote content
doubled_all quote start content rest text written so_far free is =
    is ∙ ap (λ r. (text ++ r) ++ quote ∷ []) (sym (doubled_free quote rest free)) ∙ ap (λ t. t ++ quote ∷ []) so_far
    ∙ append_assoc start (quote ∷ doubled quote content) (quote ∷ [])
