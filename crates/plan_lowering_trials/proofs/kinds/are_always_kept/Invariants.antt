use Rattle.plan_lowering_trials.proofs.Kept.{KeptBelow}
use Rattle.plan_lowering_trials.proofs.kinds.are_always_kept.Given as goal

abbrev pub invariant-loop-number : goal.invariant-loop-number
invariant-loop-number l = KeptBelow l.ir.items l.number
