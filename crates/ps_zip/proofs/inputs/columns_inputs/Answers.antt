use Rattle.ps_zip.proofs.Steps.{inputs-more}
use Rattle.ps_zip.proofs.inputs.columns_inputs.Goals as goal

pub loop-column-preserved : goal.loop-column-preserved
loop-column-preserved c =
    let more = inputs-more c.args.columns.now c.loop-column.column-index c.column-item.result c.loop-column.inputs.items c.push.new.self.items c.in_ok-table_input.field-0 c.loop-column-test.true c.column-item.is c.loop-column.invariant.shared c.loop-column.invariant.fit
    c.in_ok-table_input.ensures.shared c.in_ok-table_input.ensures.fits c.in_ok-push.ensures.items in
    record { shared = more.0; fit = more.1 }
