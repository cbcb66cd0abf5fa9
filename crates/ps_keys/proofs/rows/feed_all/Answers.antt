use Rattle.ps_keys.proofs.RowValues.{hash-more}
use Rattle.ps_keys.proofs.rows.feed_all.Goals as goal

pub loop-column-preserved : goal.loop-column-preserved
loop-column-preserved c =
    hash-more c.column-item.result c.args.columns.now c.loop-column.column-index c.args.row c.value.result.now _ _
    c.loop-column-test.true c.column-item.is c.value.ensures c.loop-column.invariant c.feed.ensures
