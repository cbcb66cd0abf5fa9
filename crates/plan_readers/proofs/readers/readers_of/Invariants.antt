use Rattle.std.proofs.Common.{take}
use Rattle.plan_readers.specs.Readers.{AreTold}
use Rattle.plan_readers.proofs.readers.readers_of.Given as goal

abbrev pub invariant-loop-place : goal.invariant-loop-place
invariant-loop-place l = AreTold (take l.place l.inputs) l.nodes l.readers.items
