use Rattle.std.proofs.Common.{◌≡◌, take}
use Rattle.std.specs.Prelude.{map}
use Rattle.tool_ends.specs.ToolAnswers.{reversed_of}
use Rattle.tool_ends.proofs.functions.reverse_all.Given as goal

abbrev pub invariant-loop-column : goal.invariant-loop-column
invariant-loop-column l = l.done.items ≡ map reversed_of (take l.column-index l.columns)
