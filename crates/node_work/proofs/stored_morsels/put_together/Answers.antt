-- One table more.
use Rattle.node_work.proofs.Together.{one_more}
use Rattle.node_work.proofs.stored_morsels.put_together.Goals as goal

pub loop-table-preserved : goal.loop-table-preserved
loop-table-preserved c =
    one_more c.args.schema.now c.loop-table.builder c.in-Ok-with_table.builder c.args.tables.now c.loop-table.table-index c.table-item.result c.loop-table-test.true c.table-item.is c.loop-table.invariant c.in-Ok-with_table.ensures.added
