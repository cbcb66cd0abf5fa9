use Rattle.world_families.proofs.ZipExamples.{lets_go, not_before_it_is_complete, not_once_dropped, not_overlapping, side_by_side}
use Rattle.world_families.proofs.examples.zips_cut_side_by_side.Goals as goal

pub returns-clause-side_by_side : goal.returns-clause-side_by_side
returns-clause-side_by_side c = λ F. side_by_side F

pub returns-clause-not_overlapping : goal.returns-clause-not_overlapping
returns-clause-not_overlapping c = λ F h. not_overlapping F h

pub returns-clause-not_before_it_is_complete : goal.returns-clause-not_before_it_is_complete
returns-clause-not_before_it_is_complete c = λ F h. not_before_it_is_complete F h

pub returns-clause-lets_go : goal.returns-clause-lets_go
returns-clause-lets_go c = λ F. lets_go F

pub returns-clause-not_once_dropped : goal.returns-clause-not_once_dropped
returns-clause-not_once_dropped c = λ F h. not_once_dropped F h
