use Rattle.std.specs.Prelude.{refl}
use Rattle.plan_rules.proofs.slices.kinds_of_slices.Goals as goal

pub returns-clause-from_the_front : goal.returns-clause-from_the_front
returns-clause-from_the_front c = refl

pub returns-clause-no_rows_from_the_front : goal.returns-clause-no_rows_from_the_front
returns-clause-no_rows_from_the_front c = refl

pub returns-clause-from_the_end : goal.returns-clause-from_the_end
returns-clause-from_the_end c = refl

pub returns-clause-no_rows_from_the_end : goal.returns-clause-no_rows_from_the_end
returns-clause-no_rows_from_the_end c = refl
