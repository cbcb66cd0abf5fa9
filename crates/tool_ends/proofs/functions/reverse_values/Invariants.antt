use Rattle.std.proofs.Common.{◌≡◌, take}
use Rattle.tool_ends.proofs.functions.reverse_values.Given as goal

abbrev pub invariant-loop-value : goal.invariant-loop-value
invariant-loop-value l = l.done.items ≡ take l.value-index l.values
