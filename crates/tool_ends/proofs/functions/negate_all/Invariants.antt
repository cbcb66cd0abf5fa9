use Rattle.std.proofs.Common.{◌≡◌, take}
use Rattle.std.specs.Prelude.{map}
use Rattle.tool_ends.specs.ToolAnswers.{negated_of}
use Rattle.tool_ends.proofs.functions.negate_all.Given as goal

abbrev pub invariant-loop-column : goal.invariant-loop-column
invariant-loop-column l = l.done.items ≡ map negated_of (take l.column-index l.columns)
