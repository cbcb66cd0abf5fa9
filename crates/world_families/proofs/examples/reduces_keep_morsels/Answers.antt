use Rattle.world_families.proofs.KeeperExamples.{both_out, no_other_morsel, not_forgotten}
use Rattle.world_families.proofs.examples.reduces_keep_morsels.Goals as goal

pub returns-clause-both_out : goal.returns-clause-both_out
returns-clause-both_out c = λ F. both_out F

pub returns-clause-no_other_morsel : goal.returns-clause-no_other_morsel
returns-clause-no_other_morsel c = λ F h. no_other_morsel F h

pub returns-clause-not_forgotten : goal.returns-clause-not_forgotten
returns-clause-not_forgotten c = λ F h. not_forgotten F h
