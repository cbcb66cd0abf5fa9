use Rattle.std.proofs.Common.{refl}
use Rattle.expression_reads.proofs.examples.names_that_are_read.Goals as goal

pub returns-clause-sum : goal.returns-clause-sum
returns-clause-sum c = (refl, tt)

pub returns-clause-literal : goal.returns-clause-literal
returns-clause-literal c = tt

pub returns-clause-height : goal.returns-clause-height
returns-clause-height c = tt
