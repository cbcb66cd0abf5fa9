use Rattle.std.specs.Prelude.{refl}
use Rattle.std.specs.Fmt.{digits}
use Rattle.ps_rules.proofs.examples.worked_selects.Goals as goal

pub returns-clause-own_columns : goal.returns-clause-own_columns
unfolding digits
returns-clause-own_columns c = refl

pub returns-clause-some_columns : goal.returns-clause-some_columns
unfolding digits
returns-clause-some_columns c = refl

pub returns-clause-renamed : goal.returns-clause-renamed
unfolding digits
returns-clause-renamed c = refl

pub returns-clause-literals : goal.returns-clause-literals
unfolding digits
returns-clause-literals c = refl
