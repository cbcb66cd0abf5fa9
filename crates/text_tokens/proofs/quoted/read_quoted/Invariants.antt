use Rattle.std.proofs.Common.{◌≡◌, ◌++◌, length}
use Rattle.std.specs.Prelude.{string_bytes}
use denote.Text.{Utf8}
use denote.Shadow.{shadow}
use Rattle.text_tokens.specs.Quotes.{doubled}
use Rattle.text_tokens.proofs.quoted.read_quoted.Given as goal

-- what was read is the content so far, with its quotes doubled
abbrev pub invariant-loop-before : goal.invariant-loop-before
invariant-loop-before l = (l.text ≡ doubled l.quote (string_bytes l.content) ++ l.rest) × shadow (Utf8 l.rest)

abbrev pub decreases-loop-before : goal.decreases-loop-before
decreases-loop-before l = length l.rest
