use Rattle.std.proofs.Common.{◌≡◌, ◌∷◌, ◌++◌, length}
use Rattle.std.specs.Prelude.{string_bytes}
use denote.Text.{Utf8}
use denote.Shadow.{shadow}
use Rattle.text_tokens.specs.Quotes.{doubled}
use Rattle.text_tokens.proofs.writing.write_quoted.Given as goal

-- what was written, and the rest with its quotes doubled, are the quote and the content with its quotes doubled
abbrev pub invariant-loop-before : goal.invariant-loop-before
invariant-loop-before l = (string_bytes l.text ++ doubled l.quote l.rest ≡ string_bytes l.fn.text ++ l.quote ∷ doubled l.quote l.content) × shadow (Utf8 l.rest)

abbrev pub decreases-loop-before : goal.decreases-loop-before
decreases-loop-before l = length l.rest
