use Rattle.group_run_laws.proofs.WorldExamples.{second_list_first, never_another_list}
use Rattle.group_run_laws.proofs.examples.group_bys_give_lists_out_of_order.Goals as goal

pub returns-clause-second_first : goal.returns-clause-second_first
returns-clause-second_first c = λ F journal. second_list_first F journal

pub returns-clause-never_the_other : goal.returns-clause-never_the_other
returns-clause-never_the_other c = λ F journal shape o sound r. never_another_list F journal shape o sound r
