use Rattle.std.proofs.Common.{arith}
use Rattle.ps_compute.proofs.Listed.{greatest-more}
use Rattle.ps_compute.proofs.aggregates.greatest.Goals as goal

pub loop-from-preserved : goal.loop-from-preserved
loop-from-preserved g c = record {
  within = omega (arith, c.loop-from.invariant.within);
  best = greatest-more (g.L.ValueList.values c.args.values.now) c.loop-from.from c.value.result.now _ _ c.loop-from-test.true c.value.ensures c.loop-from.invariant.best c.greater-best.ensures;
}
