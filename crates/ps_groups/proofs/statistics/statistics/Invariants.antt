use Rattle.std.proofs.Common.{◌≡◌, map, take}
use Rattle.ps_groups.specs.Statistics.{told, values_in}
use Rattle.ps_groups.proofs.statistics.statistics.Given as goal

abbrev pub invariant-loop-key : goal.invariant-loop-key
invariant-loop-key l = l.values.items ≡ map (λ rows. told l.statistic (values_in l.column.values rows)) (take l.key l.rows_of_keys)
