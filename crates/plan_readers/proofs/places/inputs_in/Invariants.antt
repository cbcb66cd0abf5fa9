use Rattle.std.proofs.Common.{◌≡◌, take}
use Rattle.pu_base.specs.declared.arena.Node.{Node}
use Rattle.ps_frame.specs.Trees.{Tree}
use Rattle.ps_meaning.specs.Sound.{all_inputs}
use Rattle.plan_readers.specs.Ordered.{ordered}
use Rattle.plan_readers.proofs.places.inputs_in.Given as goal

abbrev pub invariant-loop-number : goal.invariant-loop-number
invariant-loop-number l = (f : Node → Tree) → l.inputs.items ≡ all_inputs (take l.number (ordered f l.phys.slots l.order))
