use Rattle.group_run_laws.proofs.WorldExamples.{gives_its_row, never_gives_another}
use Rattle.group_run_laws.proofs.examples.reduces_give_one_row.Goals as goal

pub returns-clause-gives : goal.returns-clause-gives
returns-clause-gives c = λ F journal. gives_its_row F journal

pub returns-clause-never_of_one_morsel : goal.returns-clause-never_of_one_morsel
returns-clause-never_of_one_morsel c = λ F journal shape o sound r. never_gives_another F journal shape o sound r
