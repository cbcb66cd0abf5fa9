use Rattle.table_fronts.proofs.ReduceLaw.{reduces_justified}
use Rattle.table_fronts.proofs.tables.reduces_are_justified.Goals as goal

pub returns : goal.returns
returns c = λ F w n p es known e is_one h. reduces_justified F w n p es known e is_one h
