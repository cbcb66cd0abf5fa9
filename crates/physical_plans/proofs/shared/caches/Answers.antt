use Rattle.std.specs.Prelude.{refl}
use Rattle.std.specs.Fmt.{digits}
use Rattle.physical_plans.proofs.shared.caches.Goals as goal

pub returns-clause-one_reader : goal.returns-clause-one_reader
unfolding digits
returns-clause-one_reader c F = refl

pub returns-clause-two_readers : goal.returns-clause-two_readers
unfolding digits
returns-clause-two_readers c F = refl

pub returns-clause-three_readers : goal.returns-clause-three_readers
unfolding digits
returns-clause-three_readers c F = refl

pub returns-clause-over_another : goal.returns-clause-over_another
unfolding digits
returns-clause-over_another c F = refl
