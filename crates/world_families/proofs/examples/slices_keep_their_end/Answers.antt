use Rattle.world_families.proofs.KeeperExamples.{not_one_row, two_rows}
use Rattle.world_families.proofs.examples.slices_keep_their_end.Goals as goal

pub returns-clause-two_rows : goal.returns-clause-two_rows
returns-clause-two_rows c = λ F. two_rows F

pub returns-clause-not_one_row : goal.returns-clause-not_one_row
returns-clause-not_one_row c = λ F h. not_one_row F h
