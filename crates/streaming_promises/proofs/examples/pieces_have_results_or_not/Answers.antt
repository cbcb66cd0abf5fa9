use Rattle.streaming_promises.proofs.SmallWorlds.{not_two_tables, one_table}
use Rattle.streaming_promises.proofs.examples.pieces_have_results_or_not.Goals as goal

pub returns-clause-one_table : goal.returns-clause-one_table
returns-clause-one_table c = one_table

pub returns-clause-not_two_tables : goal.returns-clause-not_two_tables
returns-clause-not_two_tables c = not_two_tables
