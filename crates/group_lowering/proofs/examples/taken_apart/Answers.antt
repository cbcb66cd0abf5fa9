use Rattle.std.specs.Prelude.{refl}
use Rattle.std.specs.Fmt.{digits}
use Rattle.group_lowering.proofs.examples.taken_apart.Goals as goal

pub returns-clause-several : goal.returns-clause-several
unfolding digits
returns-clause-several c = refl

pub returns-clause-operator : goal.returns-clause-operator
unfolding digits
returns-clause-operator c = refl

pub returns-clause-function : goal.returns-clause-function
returns-clause-function c = refl
