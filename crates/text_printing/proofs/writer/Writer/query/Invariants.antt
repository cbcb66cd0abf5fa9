use Rattle.std.proofs.Common.{◌≡◌, ◌++◌, map, take}
use Rattle.std.specs.List.{AllByRecursion}
use Rattle.text_laws.specs.Widths.{StageFits}
use Rattle.text_printing.proofs.Lists.{led}
use Rattle.text_printing.proofs.writer.Writer.query.Given as goal
use Rattle.text_queries.specs.Views.{stage_of}
use Rattle.text_queries.specs.Writing.{stage_tokens}
use Rattle.text_tokens.specs.declared.token.Sign.TheVariants as sign
use Rattle.text_tokens.specs.declared.token.Token.TheVariants as token

abbrev pub invariant-loop-stage : goal.invariant-loop-stage
invariant-loop-stage l = record {
  written : l.self ≡ l.initial.self ++ led (token.Sign sign.Bar) (λ stage. stage_tokens (stage_of stage)) (take l.stage-index l.stage-items);
  fit : AllByRecursion StageFits (map stage_of (take l.stage-index l.stage-items));
}
