use Rattle.world_families.proofs.JoinExamples.{all_rows, not_a_part, not_before_it_is_taken}
use Rattle.world_families.proofs.examples.joins_probe_all_right_rows.Goals as goal

pub returns-clause-all_rows : goal.returns-clause-all_rows
returns-clause-all_rows c = λ F. all_rows F

pub returns-clause-not_a_part : goal.returns-clause-not_a_part
returns-clause-not_a_part c = λ F h. not_a_part F h

pub returns-clause-not_before_it_is_taken : goal.returns-clause-not_before_it_is_taken
returns-clause-not_before_it_is_taken c = λ F h. not_before_it_is_taken F h
