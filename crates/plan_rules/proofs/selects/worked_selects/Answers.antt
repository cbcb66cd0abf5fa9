use Rattle.std.specs.Prelude.{refl}
use Rattle.std.specs.Fmt.{digits}
use Rattle.plan_rules.proofs.selects.worked_selects.Goals as goal

pub returns-clause-own_columns : goal.returns-clause-own_columns
unfolding digits
returns-clause-own_columns c F = refl

pub returns-clause-one_column : goal.returns-clause-one_column
unfolding digits
returns-clause-one_column c F = refl

pub returns-clause-literals : goal.returns-clause-literals
unfolding digits
returns-clause-literals c F = refl

pub returns-clause-sum_beside_a_column : goal.returns-clause-sum_beside_a_column
unfolding digits
returns-clause-sum_beside_a_column c F = refl
