use Rattle.plan_readers.proofs.Reading.{AreMarked}
use Rattle.plan_readers.proofs.readers.are_read_once.Given as goal

abbrev pub invariant-loop-place : goal.invariant-loop-place
invariant-loop-place l = AreMarked l.ports l.place l.read.items
