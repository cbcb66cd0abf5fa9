-- The nodes so far stream.
use Rattle.flow_run_trials.proofs.Looking.{HoldsBelow}
use Rattle.flow_run_trials.specs.Ready.{Streams}
use Rattle.flow_run_trials.proofs.looks.all_stream.Given as goal

abbrev pub invariant-loop-number : goal.invariant-loop-number
invariant-loop-number l = HoldsBelow Streams l.fn.graph.nodes.slots l.number
