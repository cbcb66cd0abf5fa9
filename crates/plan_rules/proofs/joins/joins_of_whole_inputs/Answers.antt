use Rattle.std.specs.Prelude.{refl}
use Rattle.std.specs.Fmt.{digits}
use Rattle.plan_rules.proofs.joins.joins_of_whole_inputs.Goals as goal

pub returns-clause-semi : goal.returns-clause-semi
unfolding digits
returns-clause-semi c F = refl

pub returns-clause-anti : goal.returns-clause-anti
unfolding digits
returns-clause-anti c F = refl

pub returns-clause-cross : goal.returns-clause-cross
unfolding digits
returns-clause-cross c F = refl
