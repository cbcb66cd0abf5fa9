use Rattle.std.specs.Prelude.{refl}
use Rattle.std.specs.Fmt.{digits}
use Rattle.physical_plans.proofs.shared.none_shared.Goals as goal

pub returns-clause-filtered : goal.returns-clause-filtered
unfolding digits
returns-clause-filtered c F = refl

pub returns-clause-union_of_scans : goal.returns-clause-union_of_scans
unfolding digits
returns-clause-union_of_scans c F = refl
