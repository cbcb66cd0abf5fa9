use Rattle.world_families.proofs.OnwardExamples.{goes_on, not_anew, not_short}
use Rattle.world_families.proofs.examples.indexes_count_on.Goals as goal

pub returns-clause-goes_on : goal.returns-clause-goes_on
returns-clause-goes_on c = λ F. goes_on F

pub returns-clause-not_anew : goal.returns-clause-not_anew
returns-clause-not_anew c = λ F h. not_anew F h

pub returns-clause-not_short : goal.returns-clause-not_short
returns-clause-not_short c = λ F h. not_short F h
