use Rattle.ps_graph.specs.Shown.{IsLinked}
use Rattle.graph_trials.proofs.phases.settled.Given as goal

abbrev pub invariant-loop-pair : goal.invariant-loop-pair
invariant-loop-pair l = IsLinked l.graph
