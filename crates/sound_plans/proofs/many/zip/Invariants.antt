use Rattle.sound_plans.proofs.Several.{IsJoined}
use Rattle.sound_plans.proofs.many.zip.Given as goal

abbrev pub invariant-loop-input : goal.invariant-loop-input
invariant-loop-input l = IsJoined l.phys.slots l.inputs l.input-index l.joined
