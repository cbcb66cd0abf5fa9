use Rattle.std.specs.Prelude.{refl}
use Rattle.std.specs.Fmt.{digits}
use Rattle.physical_plans.proofs.selects.one_reduce.Goals as goal

pub returns : goal.returns
unfolding digits
returns c F = refl
