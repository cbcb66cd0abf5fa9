use Rattle.std.proofs.Common.{◌≡◌, ℕ, List, [], ◌∷◌, ◌++◌, take}
use Rattle.text_printing.proofs.Lists.{led}
use Rattle.text_printing.proofs.writer.Writer.names.Given as goal
use Rattle.text_queries.specs.Writing.{name_token}
use Rattle.text_tokens.specs.declared.token.Sign.TheVariants as sign
use Rattle.text_tokens.specs.declared.token.Token.TheVariants as token

abbrev pub invariant-loop-name : goal.invariant-loop-name
invariant-loop-name l = l.self ≡ l.initial.self ++ led (token.Sign sign.Comma) (λ (name : List ℕ). name_token name ∷ []) (take l.name-index l.others)
