use Rattle.std.specs.Prelude.{refl}
use Rattle.std.specs.Fmt.{digits}
use Rattle.plan_rules.proofs.joins.kinds_of_joins.Goals as goal

pub returns-clause-by_keys : goal.returns-clause-by_keys
unfolding digits
returns-clause-by_keys c F = refl

pub returns-clause-whole_inputs : goal.returns-clause-whole_inputs
unfolding digits
returns-clause-whole_inputs c F = refl

pub returns-clause-schemas : goal.returns-clause-schemas
unfolding digits
returns-clause-schemas c F = refl
