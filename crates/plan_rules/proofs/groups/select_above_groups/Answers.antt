use Rattle.std.specs.Prelude.{refl}
use Rattle.std.specs.Fmt.{digits}
use Rattle.plan_rules.proofs.groups.select_above_groups.Goals as goal

pub returns-clause-text : goal.returns-clause-text
unfolding digits
returns-clause-text c F = refl

pub returns-clause-kinds : goal.returns-clause-kinds
unfolding digits
returns-clause-kinds c F = refl
