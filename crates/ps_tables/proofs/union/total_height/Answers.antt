use Rattle.std.proofs.Common.{arith}
use Rattle.ps_tables.proofs.Stacked.{total-step}
use Rattle.ps_tables.proofs.union.total_height.Goals as goal

pub loop-df-preserved : goal.loop-df-preserved
loop-df-preserved c =
    let sum = c.saturating_add-height.ensures in
    let height = c.height.ensures.rows in
    total-step c.args.inputs.now c.loop-df.df-index c.df-item.result c.loop-df.height c.saturating_add-height.result c.loop-df-test.true c.df-item.is c.loop-df.invariant (omega arith)
