use Rattle.zip_laws.proofs.WorldExamples.{never_once, never_the_first_alone}
use Rattle.zip_laws.proofs.ZipRun.{cuts_both, in_each_row}
use Rattle.zip_laws.proofs.examples.zips_broadcast_what_had_one_row.Goals as goal

pub returns-clause-cuts_both : goal.returns-clause-cuts_both
returns-clause-cuts_both c = λ F. cuts_both F

pub returns-clause-in_each_row : goal.returns-clause-in_each_row
returns-clause-in_each_row c = λ F. in_each_row F

pub returns-clause-never_the_first_alone : goal.returns-clause-never_the_first_alone
returns-clause-never_the_first_alone c = λ F journal shape o sound r. never_the_first_alone F journal shape o sound r

pub returns-clause-never_once : goal.returns-clause-never_once
returns-clause-never_once c = λ F journal shape o sound r. never_once F journal shape o sound r
