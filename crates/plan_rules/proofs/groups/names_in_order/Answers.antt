use Rattle.std.specs.Prelude.{refl}
use Rattle.std.specs.Fmt.{digits}
use Rattle.plan_rules.proofs.groups.names_in_order.Goals as goal

pub returns-clause-kinds : goal.returns-clause-kinds
unfolding digits
returns-clause-kinds c F = refl

pub returns-clause-schemas : goal.returns-clause-schemas
unfolding digits
returns-clause-schemas c F = refl
