use Rattle.std.proofs.Common.{◌≤◌, length, arith}
use Rattle.scanned_tables.proofs.Scans.{all_fit, none_below, one_more}
use Rattle.scanned_tables.proofs.tables.tables_fit.Goals as goal

pub loop-number-init : goal.loop-number-init
loop-number-init c = none_below c.args.ir.now.items

pub loop-number-preserved : goal.loop-number-preserved
loop-number-preserved c = one_more c.args.ir.now.items c.loop-number.number c.get.result.now c.get.ensures c.table_of_entry_fits.ensures c.loop-number.invariant

pub returns : goal.returns
returns c =
    let past = c.loop-number-test.false in
    let long = c.len-number-end.ensures in
    let le : length c.args.ir.now.items ≤ c.loop-number.number = omega (arith, past, long) in
    all_fit c.args.ir.now.items c.loop-number.number le c.loop-number.invariant
