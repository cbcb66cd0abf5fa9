use Rattle.pu_map.proofs.SketchLemmas.{combined-assoc, combined-comm, combined-same}
use Rattle.pu_map.proofs.sketch.combining_is_a_maximum.Goals as goal

pub returns-clause-associative : goal.returns-clause-associative
returns-clause-associative c = combined-assoc

pub returns-clause-commutative : goal.returns-clause-commutative
returns-clause-commutative c = combined-comm

pub returns-clause-idempotent : goal.returns-clause-idempotent
returns-clause-idempotent c = combined-same
