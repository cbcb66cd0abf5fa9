use Rattle.std.proofs.Common.{arith, inl, inr, refl}
use Rattle.world_measure.proofs.measure.small_worlds.Goals as goal

pub returns-clause-before : goal.returns-clause-before
returns-clause-before c = refl

pub returns-clause-after : goal.returns-clause-after
returns-clause-after c = refl

pub returns-clause-less : goal.returns-clause-less
returns-clause-less c = inr (refl, inl (omega arith, refl))

pub returns-clause-rows : goal.returns-clause-rows
returns-clause-rows c = refl

pub returns-clause-waits : goal.returns-clause-waits
returns-clause-waits c = refl

pub returns-clause-lost : goal.returns-clause-lost
returns-clause-lost c = refl
