use Rattle.std.proofs.Common.{◌≡◌, ◌++◌, map, take}
use Rattle.text_laws.specs.Widths.{ItemsFit}
use Rattle.text_printing.proofs.Lists.{led}
use Rattle.text_printing.proofs.writer.Writer.items.Given as goal
use Rattle.text_queries.specs.Views.{item_of}
use Rattle.text_queries.specs.Writing.{item_tokens}
use Rattle.text_tokens.specs.declared.token.Sign.TheVariants as sign
use Rattle.text_tokens.specs.declared.token.Token.TheVariants as token

abbrev pub invariant-loop-item : goal.invariant-loop-item
invariant-loop-item l = record {
  written : l.self ≡ l.initial.self ++ led (token.Sign sign.Comma) (λ item. item_tokens (item_of item)) (take l.item-index l.others);
  fit : ItemsFit (map item_of (take l.item-index l.others));
}
