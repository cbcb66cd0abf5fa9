use Rattle.table_fronts.proofs.MadeLaw.{made_justified}
use Rattle.table_fronts.proofs.tables.tables_are_justified.Goals as goal

pub returns : goal.returns
returns c = λ F w n p lawful known e makes h. made_justified F w n p lawful known e makes h
