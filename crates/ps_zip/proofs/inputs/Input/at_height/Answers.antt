use Rattle.ps_zip.proofs.Rows.{table-column}
use Rattle.ps_zip.proofs.inputs.Input.at_height.Goals as goal

pub returns-in_ok-repeated-in-Table : goal.returns-in_ok-repeated-in-Table
returns-in_ok-repeated-in-Table c = table-column c.args.height c.args.self c.in-Table.column c.in_ok-repeated-in-Table.field-0 c.in-Table.is c.requires c.in_ok-repeated-in-Table.ensures
