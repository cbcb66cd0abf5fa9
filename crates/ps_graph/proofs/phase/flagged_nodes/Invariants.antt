-- The keys of the nodes so far.
use Rattle.std.proofs.Common.{◌≡◌, false, get_or}
use Rattle.std.specs.List.{filter as kept}
use Rattle.ps_frame.specs.Zip.{below}
use Rattle.ps_graph.specs.Running.{node_numbers}
use Rattle.ps_graph.proofs.phase.flagged_nodes.Given as goal

abbrev pub invariant-loop-number : goal.invariant-loop-number
invariant-loop-number l = node_numbers l.keys.items ≡ kept (λ n. get_or l.flags n false) (below l.number)
