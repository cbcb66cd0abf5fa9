use Rattle.std.specs.Prelude.{refl}
use Rattle.std.specs.Fmt.{digits}
use Rattle.ps_multiplexers.proofs.examples.small_plans.Goals as goal

pub returns-clause-two_readers : goal.returns-clause-two_readers
unfolding digits
returns-clause-two_readers c = refl

pub returns-clause-three_readers : goal.returns-clause-three_readers
unfolding digits
returns-clause-three_readers c = refl
