use Rattle.ps_tables.proofs.Filled.{kinds-beside, values-beside}
use Rattle.ps_tables.proofs.hconcat.side_by_side.Goals as goal

pub loop-df-preserved : goal.loop-df-preserved
loop-df-preserved c =
    let cs = c.get_columns.result.now in
    record {
      kinds = kinds-beside c.args.height c.args.inputs.now c.loop-df.df-index c.df-item.result cs c.loop-df.columns.items c.push_filled.new.columns.items
          c.loop-df-test.true c.df-item.is c.get_columns.ensures.fields c.get_columns.ensures.rows c.in_ok-push_filled.ensures.added c.loop-df.invariant.kinds;
      values = values-beside c.args.height c.args.inputs.now c.loop-df.df-index c.df-item.result cs c.loop-df.columns.items c.push_filled.new.columns.items
          c.loop-df-test.true c.df-item.is c.get_columns.ensures.fields c.get_columns.ensures.rows c.in_ok-push_filled.ensures.added c.loop-df.invariant.values;
    }
