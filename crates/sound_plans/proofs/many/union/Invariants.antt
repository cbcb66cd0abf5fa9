use Rattle.std.proofs.Common.{drop}
use Rattle.sound_plans.proofs.Several.{AreAlike}
use Rattle.sound_plans.proofs.many.union.Given as goal

abbrev pub invariant-loop-input : goal.invariant-loop-input
invariant-loop-input l = AreAlike l.phys.slots l.schema (drop l.input-index l.inputs) → AreAlike l.phys.slots l.schema l.inputs
