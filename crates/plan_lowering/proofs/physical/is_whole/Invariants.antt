use Rattle.plan_lowering.specs.There.{ReadBelow}
use Rattle.plan_lowering.proofs.physical.is_whole.Given as goal

abbrev pub invariant-loop-number : goal.invariant-loop-number
invariant-loop-number l = ReadBelow l.phys_sm.slots l.number
