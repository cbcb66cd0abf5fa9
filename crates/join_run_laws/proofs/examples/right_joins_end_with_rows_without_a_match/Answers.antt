use Rattle.join_run_laws.proofs.WorldExamples.{last_holds, never_twice, never_under_a_left_number}
use Rattle.join_run_laws.proofs.examples.right_joins_end_with_rows_without_a_match.Goals as goal

pub returns-clause-behind_the_left : goal.returns-clause-behind_the_left
returns-clause-behind_the_left c = λ F journal. last_holds F journal

pub returns-clause-never_under_a_left_number : goal.returns-clause-never_under_a_left_number
returns-clause-never_under_a_left_number c = λ F journal shape o sound r. never_under_a_left_number F journal shape o sound r

pub returns-clause-never_twice : goal.returns-clause-never_twice
returns-clause-never_twice c = λ F journal shape o sound r. never_twice F journal shape o sound r
