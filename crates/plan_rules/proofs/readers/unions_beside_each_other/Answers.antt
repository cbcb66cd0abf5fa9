use Rattle.std.specs.Prelude.{refl}
use Rattle.std.specs.Fmt.{digits}
use Rattle.plan_rules.proofs.readers.unions_beside_each_other.Goals as goal

pub returns : goal.returns
unfolding digits
returns c F = refl
