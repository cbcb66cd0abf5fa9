use Rattle.ps_graph.specs.Shown.{IsLinked}
use Rattle.graph_trials.proofs.phases.built.Given as goal

abbrev pub invariant-loop-part : goal.invariant-loop-part
invariant-loop-part l = IsLinked l.graph
