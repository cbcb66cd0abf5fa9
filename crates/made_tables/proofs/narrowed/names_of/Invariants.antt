use Rattle.std.proofs.Common.{◌≡◌, take}
use Rattle.ps_meaning.specs.Schemas.{names_of}
use Rattle.made_tables.proofs.narrowed.names_of.Given as goal

abbrev pub invariant-loop-i : goal.invariant-loop-i
invariant-loop-i l = l.names.items ≡ names_of (take l.i l.schema)
