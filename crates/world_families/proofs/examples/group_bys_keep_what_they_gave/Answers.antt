use Rattle.world_families.proofs.GroupExamples.{all_kept, not_forgotten}
use Rattle.world_families.proofs.examples.group_bys_keep_what_they_gave.Goals as goal

pub returns-clause-all_kept : goal.returns-clause-all_kept
returns-clause-all_kept c = λ F. all_kept F

pub returns-clause-not_forgotten : goal.returns-clause-not_forgotten
returns-clause-not_forgotten c = λ F h. not_forgotten F h
