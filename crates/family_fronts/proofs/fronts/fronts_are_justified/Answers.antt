use Rattle.family_fronts.proofs.FrontsLaw.{multiplexers_justified, sinks_justified}
use Rattle.family_fronts.proofs.fronts.fronts_are_justified.Goals as goal

pub returns-clause-ports : goal.returns-clause-ports
returns-clause-ports c = λ F w n p known e is_one h. multiplexers_justified F w n p known e is_one h

pub returns-clause-sink : goal.returns-clause-sink
returns-clause-sink c = λ F w n p known e is_one h. sinks_justified F w n p known e is_one h
