use Rattle.table_fronts.proofs.ZipJustified.{zips_justified}
use Rattle.table_fronts.proofs.tables.zips_are_justified.Goals as goal

pub returns : goal.returns
returns c = λ F w n p extend known e is_one h. zips_justified F w n p extend known e is_one h
