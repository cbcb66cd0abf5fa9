use Rattle.std.proofs.Common.{◌≡◌, replicate}
use Rattle.ps_frame.specs.declared.value.Value.TheVariants as val
use Rattle.ps_tables.proofs.hconcat.null_values.Given as goal

abbrev pub invariant-loop-i : goal.invariant-loop-i
invariant-loop-i l = l.values.items ≡ replicate l.i val.Null
