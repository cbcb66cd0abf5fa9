use Rattle.std.specs.Prelude.{refl}
use Rattle.std.specs.Fmt.{digits}
use Rattle.physical_plans.proofs.selects.reduce_over_a_zip.Goals as goal

pub returns : goal.returns
unfolding digits
returns c F = refl
