use Rattle.std.proofs.Common.{List, ◌++◌, take}
use Rattle.ps_meaning.specs.Schemas.{names_of}
use Rattle.ps_meaning.specs.Steps.{Name}
use Rattle.ps_fresh.specs.Collected.{AreNumbersOf}
use Rattle.ps_fresh.proofs.temporary.add_names.Given as goal

abbrev pub invariant-loop-i : goal.invariant-loop-i
invariant-loop-i l = (names : List Name) → AreNumbersOf l.initial.taken.keys names → AreNumbersOf l.taken.keys (names ++ take l.i (names_of l.schema))
