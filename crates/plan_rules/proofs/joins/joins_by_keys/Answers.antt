use Rattle.std.specs.Prelude.{refl}
use Rattle.std.specs.Fmt.{digits}
use Rattle.plan_rules.proofs.joins.joins_by_keys.Goals as goal

pub returns-clause-inner : goal.returns-clause-inner
unfolding digits
returns-clause-inner c F = refl

pub returns-clause-left : goal.returns-clause-left
unfolding digits
returns-clause-left c F = refl

pub returns-clause-right : goal.returns-clause-right
unfolding digits
returns-clause-right c F = refl

pub returns-clause-full : goal.returns-clause-full
unfolding digits
returns-clause-full c F = refl
