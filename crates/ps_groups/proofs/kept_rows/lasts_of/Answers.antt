use Rattle.ps_groups.proofs.Lasts.{lasts-step}
use Rattle.ps_groups.proofs.kept_rows.lasts_of.Goals as goal

pub loop-row-preserved : goal.loop-row-preserved
loop-row-preserved c = lasts-step c.args.count c.loop-row.row c.args.keys.now c.loop-row.lasts.items c.loop-row.invariant c.requires c.loop-row-test.true
