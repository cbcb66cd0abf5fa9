use Rattle.std.specs.Prelude.{refl}
use Rattle.std.specs.Fmt.{digits}
use Rattle.plan_rules.proofs.readers.lowered_twice.Goals as goal

pub returns-clause-scanned_twice : goal.returns-clause-scanned_twice
unfolding digits
returns-clause-scanned_twice c F = refl

pub returns-clause-filtered_twice : goal.returns-clause-filtered_twice
unfolding digits
returns-clause-filtered_twice c F = refl
