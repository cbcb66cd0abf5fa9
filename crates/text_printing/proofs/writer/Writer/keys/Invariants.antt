use Rattle.std.proofs.Common.{◌≡◌, ◌++◌, map, take}
use Rattle.text_laws.specs.Widths.{KeysFit}
use Rattle.text_printing.proofs.Lists.{led}
use Rattle.text_printing.proofs.writer.Writer.keys.Given as goal
use Rattle.text_queries.specs.Views.{key_of}
use Rattle.text_queries.specs.Writing.{key_tokens}
use Rattle.text_tokens.specs.declared.token.Sign.TheVariants as sign
use Rattle.text_tokens.specs.declared.token.Token.TheVariants as token

abbrev pub invariant-loop-key : goal.invariant-loop-key
invariant-loop-key l = record {
  written : l.self ≡ l.initial.self ++ led (token.Sign sign.Comma) (λ key. key_tokens (key_of key)) (take l.key-index l.others);
  fit : KeysFit (map key_of (take l.key-index l.others));
}
