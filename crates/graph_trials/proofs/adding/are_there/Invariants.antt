use Rattle.std.proofs.Common.{ℕ, ◌<◌}
use Rattle.std.specs.Prelude.{slice_index_or}
use Rattle.ps_graph.specs.declared.key.GraphNodeKey.{GraphNodeKey}
use Rattle.graph_trials.proofs.adding.are_there.Given as goal

abbrev pub invariant-loop-sender : goal.invariant-loop-sender
invariant-loop-sender l = (k : ℕ) (d : GraphNodeKey × ℕ) → k < l.sender-index → (slice_index_or l.inputs k d).0.0 < l.count
