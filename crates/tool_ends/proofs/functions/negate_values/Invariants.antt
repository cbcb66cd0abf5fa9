use Rattle.std.proofs.Common.{◌≡◌, take}
use Rattle.std.specs.Prelude.{map}
use Rattle.tool_ends.specs.ToolAnswers.{negated_value}
use Rattle.tool_ends.proofs.functions.negate_values.Given as goal

abbrev pub invariant-loop-value : goal.invariant-loop-value
invariant-loop-value l = l.done.items ≡ map negated_value (take l.value-index l.values)
