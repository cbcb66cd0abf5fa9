use Rattle.std.proofs.Common.{◌≡◌, drop}
use Rattle.ps_meaning.specs.Schemas.{names_of}
use Rattle.ps_rules.specs.Slots.{same_names}
use Rattle.lowering_parts.proofs.schemas.are_names_of.Given as goal

abbrev pub invariant-loop-i : goal.invariant-loop-i
invariant-loop-i l = same_names l.names (names_of l.schema) ≡ same_names (drop l.i l.names) (names_of (drop l.i l.schema))
