use Rattle.std.proofs.Common.{◌≡◌, map}
use Rattle.std.specs.Prelude.{Some}
use Rattle.ps_frame.specs.Aggregates.{sum_value}
use Rattle.ps_frame.specs.Zip.{below}
use Rattle.ps_groups.specs.Reductions.{values_of_key}
use Rattle.ps_groups.proofs.by_key.sums.Given as goal

abbrev pub invariant-loop-sum : goal.invariant-loop-sum
invariant-loop-sum l = l.values.items ≡ map (λ k. sum_value (Some l.column.kind) (values_of_key l.column.values l.keys k)) (below l.sum-index)
