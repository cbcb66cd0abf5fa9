use Rattle.world_families.proofs.UnionExamples.{behind_the_first, not_before_it_ends, not_the_other_way}
use Rattle.world_families.proofs.examples.unions_go_input_by_input.Goals as goal

pub returns-clause-behind_the_first : goal.returns-clause-behind_the_first
returns-clause-behind_the_first c = λ F. behind_the_first F

pub returns-clause-not_before_it_ends : goal.returns-clause-not_before_it_ends
returns-clause-not_before_it_ends c = λ F h. not_before_it_ends F h

pub returns-clause-not_the_other_way : goal.returns-clause-not_the_other_way
returns-clause-not_the_other_way c = λ F h. not_the_other_way F h
