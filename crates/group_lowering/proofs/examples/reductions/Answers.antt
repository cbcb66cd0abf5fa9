use Rattle.std.specs.Prelude.{refl}
use Rattle.group_lowering.proofs.examples.reductions.Goals as goal

pub returns-clause-aggregate : goal.returns-clause-aggregate
returns-clause-aggregate c = refl

pub returns-clause-height : goal.returns-clause-height
returns-clause-height c = refl

pub returns-clause-over_a_reduction : goal.returns-clause-over_a_reduction
returns-clause-over_a_reduction c = refl

pub returns-clause-column : goal.returns-clause-column
returns-clause-column c = refl
