-- Those of the keys so far are in the phase.
use Rattle.std.proofs.Common.{◌≡◌, [], List, take}
use Rattle.ps_flow.proofs.marks.Marks.take_in.Given as goal
use Rattle.ps_flow.specs.Marked.{phase_marks}
use Rattle.ps_flow.specs.declared.marks.Mark.{Mark}
use Rattle.ps_graph.specs.Running.{node_numbers}

abbrev pub invariant-loop-key : goal.invariant-loop-key
invariant-loop-key l = (ms : List Mark) → l.fn.self.list.items ≡ phase_marks [] 0 ms → l.self.list.items ≡ phase_marks (node_numbers (take l.key-index l.keys)) 0 ms
