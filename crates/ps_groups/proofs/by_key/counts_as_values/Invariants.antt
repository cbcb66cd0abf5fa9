use Rattle.std.proofs.Common.{◌≡◌, map, take}
use Rattle.ps_frame.specs.declared.value.Value.TheVariants as val
use Rattle.ps_groups.proofs.by_key.counts_as_values.Given as goal

abbrev pub invariant-loop-count : goal.invariant-loop-count
invariant-loop-count l = l.values.items ≡ map val.IdxSize (take l.count-index l.counts)
