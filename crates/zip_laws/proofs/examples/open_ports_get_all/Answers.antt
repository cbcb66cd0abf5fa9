use Rattle.zip_laws.proofs.WorldExamples.{gets_both, never_misses_one}
use Rattle.zip_laws.proofs.examples.open_ports_get_all.Goals as goal

pub returns-clause-gets_both : goal.returns-clause-gets_both
returns-clause-gets_both c = λ journal. gets_both journal

pub returns-clause-never_misses_one : goal.returns-clause-never_misses_one
returns-clause-never_misses_one c = λ F journal shape o sound r. never_misses_one journal F shape o sound r
