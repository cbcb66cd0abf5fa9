-- What stands in quotes.
use Rattle.std.specs.Prelude.{◌≡◌, ℕ, false, List, [], ◌∷◌, ◌++◌, ◌==◌, if◌then◌else◌}
use Rattle.std.specs.List.{flat_map}
use Rattle.text_tokens.specs.Runs.{begins}

-- the text with each quote doubled
abbrev pub doubled : ℕ → List ℕ → List ℕ
doubled quote text = flat_map (λ b. if b == quote then b ∷ b ∷ [] else b ∷ []) text

-- a text is the content with its quotes doubled, the quote that closes it, and then what stands after that, which doesn't begin with one more quote
pub record IsQuoted (quote : ℕ) (text content after : List ℕ) : Type 0 where
  pub text_is : text ≡ doubled quote content ++ quote ∷ after
  pub closed : begins (λ b. b == quote) after ≡ false
