use Rattle.family_fronts.proofs.SourceLaw.{selects_justified, sources_justified}
use Rattle.family_fronts.proofs.fronts.sources_are_justified.Goals as goal

pub returns-clause-source : goal.returns-clause-source
returns-clause-source c = λ F w n p t known e is_one h. sources_justified F w n p t known e is_one h

pub returns-clause-select : goal.returns-clause-select
returns-clause-select c = λ F w n p es known e is_one h. selects_justified F w n p es known e is_one h
