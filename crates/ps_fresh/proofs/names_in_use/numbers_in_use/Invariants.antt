use Rattle.std.proofs.Common.{take}
use Rattle.ps_fresh.specs.Collected.{AreNumbersOf}
use Rattle.ps_fresh.specs.InPlans.{all_known_names}
use Rattle.ps_fresh.proofs.names_in_use.numbers_in_use.Given as goal

abbrev pub invariant-loop-node : goal.invariant-loop-node
invariant-loop-node l = AreNumbersOf l.taken.keys (all_known_names l.valid (take l.node-index l.order))
