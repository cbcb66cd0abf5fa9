use Rattle.world_families.proofs.JoinExamples.{all_kept_on, not_forgotten}
use Rattle.world_families.proofs.examples.joins_keep_what_they_built.Goals as goal

pub returns-clause-all_kept : goal.returns-clause-all_kept
returns-clause-all_kept c = λ F. all_kept_on F

pub returns-clause-not_forgotten : goal.returns-clause-not_forgotten
returns-clause-not_forgotten c = λ F h. not_forgotten F h
