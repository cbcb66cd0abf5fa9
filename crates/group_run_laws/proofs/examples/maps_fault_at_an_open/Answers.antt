use Rattle.group_run_laws.proofs.WorldExamples.{faults_at_the_open, makes_its_table, never_makes_it}
use Rattle.group_run_laws.proofs.examples.maps_fault_at_an_open.Goals as goal

pub returns-clause-faults : goal.returns-clause-faults
returns-clause-faults c = λ F journal. faults_at_the_open F journal

pub returns-clause-makes : goal.returns-clause-makes
returns-clause-makes c = λ F journal. makes_its_table F journal

pub returns-clause-never_makes : goal.returns-clause-never_makes
returns-clause-never_makes c = λ F journal shape o sound r. never_makes_it F journal shape o sound r
