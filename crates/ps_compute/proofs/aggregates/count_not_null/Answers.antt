use Rattle.std.proofs.Common.{sym, ◌∙◌, arith}
use Rattle.ps_compute.proofs.Listed.{null-more, value-more}
use Rattle.ps_compute.proofs.aggregates.count_not_null.Goals as goal
use Rattle.ps_compute.proofs.aggregates.count_not_null.Goals.{then-not-is_null, else-not-is_null}

pub loop-i-preserved : goal.loop-i-preserved
loop-i-preserved g c =
    let values = g.L.ValueList.values c.args.values.now in
    elim c.if-not-is_null.branch [
      | then-not-is_null w ↦ record {
        counted = w.count-is ∙ value-more values c.loop-i.i c.loop-i.count c.value.result.now c.value.ensures c.loop-i.invariant.counted (sym c.is_null.ensures ∙ w.if-not-is_null.true);
        few = omega (arith, w.count-is, c.loop-i.invariant.few);
      }
      | else-not-is_null w ↦ record {
        counted = w.count-is ∙ null-more values c.loop-i.i c.loop-i.count c.value.result.now c.value.ensures c.loop-i.invariant.counted (sym c.is_null.ensures ∙ w.if-not-is_null.false);
        few = omega (arith, w.count-is, c.loop-i.invariant.few);
      }
    ]
