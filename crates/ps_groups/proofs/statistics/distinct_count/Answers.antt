use Rattle.std.proofs.Common.{◌≡◌, ℕ, arith, get_or, length}
use Rattle.std.proofs.lemmas.List.{length-map}
use Rattle.ps_frame.specs.Aggregates.{distinct_values}
use Rattle.ps_frame.specs.declared.value.Value.TheVariants as val
use Rattle.ps_groups.specs.Statistics.{values_in}
use Rattle.ps_groups.proofs.Told.{distinct-few}
use Rattle.ps_groups.proofs.statistics.distinct_count.Goals as goal

pub overflow_cast-result : goal.overflow_cast-result
overflow_cast-result c =
    let values = c.args.values.now.column.now.values in
    let rows = c.args.values.now.rows.now in
    let vs = values_in values rows in
    let count : c.in-Ok.count ≡ length (distinct_values vs) = c.in-Ok.ensures.count in
    omega (arith, count, distinct-few vs, length-map rows (λ (i : ℕ). get_or values i val.Null), c.requires)
