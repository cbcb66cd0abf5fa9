use Rattle.std.proofs.Common.{FitsSigned, rules}
use Rattle.std.specs.Int.{w64}
use Rattle.ps_compute.proofs.Aggregation.{total-more}
use Rattle.ps_compute.proofs.aggregates.total.Goals as goal

pub loop-i-preserved : goal.loop-i-preserved
loop-i-preserved g c =
    let fits : FitsSigned w64 c.number.result = search rules in
    total-more (g.L.ValueList.values c.args.values.now) c.loop-i.i c.value.result.now _ c.number.result c.int64_sum-sum.result c.value.ensures c.loop-i.invariant c.number.ensures fits c.int64_sum-sum.ensures
