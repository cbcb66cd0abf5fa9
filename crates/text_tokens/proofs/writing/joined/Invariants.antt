use Rattle.std.proofs.Common.{◌≡◌, ◌++◌, take}
use Rattle.std.specs.Prelude.{string_bytes}
use Rattle.text_tokens.specs.Tokens.{led}
use Rattle.text_tokens.proofs.writing.joined.Given as goal

abbrev pub invariant-loop-token : goal.invariant-loop-token
invariant-loop-token l = string_bytes l.text ≡ string_bytes l.initial.text ++ led (take l.token-index l.others)
