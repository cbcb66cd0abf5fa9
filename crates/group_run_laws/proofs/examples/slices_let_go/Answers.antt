use Rattle.group_run_laws.proofs.WorldExamples.{lets_go, never_keeps_the_first}
use Rattle.group_run_laws.proofs.examples.slices_let_go.Goals as goal

pub returns-clause-lets_go : goal.returns-clause-lets_go
returns-clause-lets_go c = λ F journal. lets_go F journal

pub returns-clause-never_of_the_last : goal.returns-clause-never_of_the_last
returns-clause-never_of_the_last c = λ F journal shape o sound r. never_keeps_the_first F journal shape o sound r
