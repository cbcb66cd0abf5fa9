use Rattle.std.proofs.Common.{◌≡◌, ◌++◌, take}
use Rattle.std.specs.Prelude.{map}
use Rattle.csv.specs.Writing.{default_writer, row_body}
use Rattle.tool_ends.proofs.csv_text.put_names.Given as goal

abbrev pub invariant-loop-i : goal.invariant-loop-i
invariant-loop-i l = l.text.items ≡ l.initial.text.items ++ row_body default_writer (take l.i (map (λ f. f.0) l.schema))
