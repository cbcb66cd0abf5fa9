use Rattle.std.proofs.Common.{◌≤◌, arith}
use Rattle.ps_zip.proofs.Rows.{computed-column, computed-fault}
use Rattle.ps_zip.proofs.inputs.computed_at_height.Goals as goal

pub returns-in_ok-repeated-in-Ok : goal.returns-in_ok-repeated-in-Ok
returns-in_ok-repeated-in-Ok c =
    computed-column c.args.height c.args.part c.in_ok-outcome.outcome c.in-Ok.values c.in_ok-column-in-Ok.column c.in_ok-repeated-in-Ok.field-0 c.requires c.in_ok-outcome.ensures c.in-Ok.is c.in_ok-column-in-Ok.ensures c.in_ok-repeated-in-Ok.ensures

pub returns-in-Err : goal.returns-in-Err
returns-in-Err c =
    let some : 1 ≤ c.args.height = (let ne = c.if-height-eq0.false in omega arith) in
    computed-fault c.args.height c.args.part c.in_ok-outcome.outcome c.in-Err.fault c.requires some c.in_ok-outcome.ensures c.in-Err.is
