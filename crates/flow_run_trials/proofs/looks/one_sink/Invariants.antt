-- The one sink of the nodes so far, if there is one.
use Rattle.flow_run_trials.proofs.Looking.{FoundBelow}
use Rattle.flow_run_trials.specs.Ready.{IsSink}
use Rattle.flow_run_trials.proofs.looks.one_sink.Given as goal

abbrev pub invariant-loop-number : goal.invariant-loop-number
invariant-loop-number l = FoundBelow IsSink l.fn.graph.nodes.slots l.number l.found
