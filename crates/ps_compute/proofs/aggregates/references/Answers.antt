use Rattle.ps_compute.proofs.Listed.{references-more}
use Rattle.ps_compute.proofs.aggregates.references.Goals as goal

pub loop-i-preserved : goal.loop-i-preserved
loop-i-preserved g c =
    references-more c.loop-i.all.items c.push.new.self.items c.value.result (g.L.ValueList.values c.args.values.now) c.loop-i.i c.loop-i.invariant c.value.ensures c.in_ok-push.ensures.items
