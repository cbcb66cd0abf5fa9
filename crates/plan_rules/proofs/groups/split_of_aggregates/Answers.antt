use Rattle.std.specs.Prelude.{refl}
use Rattle.std.specs.Fmt.{digits}
use Rattle.plan_rules.proofs.groups.split_of_aggregates.Goals as goal

pub returns : goal.returns
unfolding digits
returns c = refl
