use Rattle.std.proofs.Common.{◌≡◌, take}
use Rattle.ps_groups.proofs.key_columns.first_fields.Given as goal

abbrev pub invariant-loop-i : goal.invariant-loop-i
invariant-loop-i l = l.fields ≡ take l.i l.schema
