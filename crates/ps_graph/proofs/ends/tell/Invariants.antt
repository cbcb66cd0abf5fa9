-- The keys so far are told.
use Rattle.std.proofs.Common.{take}
use Rattle.ps_graph.specs.Ends.{Told}
use Rattle.ps_graph.specs.Marking.{is_marked}
use Rattle.ps_graph.specs.Shown.{numbers}
use Rattle.ps_graph.proofs.ends.tell.Given as goal

abbrev pub invariant-loop-key : goal.invariant-loop-key
invariant-loop-key l = Told l.end l.states (numbers (take l.key-index l.keys)) l.fn.pipes.slots l.pipes.slots (is_marked l.fn.marks) (is_marked l.marks)
