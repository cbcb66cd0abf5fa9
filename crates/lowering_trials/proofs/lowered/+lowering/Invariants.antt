use Rattle.std.proofs.Common.{◌+◌, ◌*◌}
use Rattle.lowering_trials.specs.Going.{Stands}
use Rattle.lowering_trials.proofs.lowered.+lowering.Given as goal

abbrev pub decreases-node_stream : goal.decreases-node_stream
decreases-node_stream l = 2 * l.depth

abbrev pub decreases-streams_of : goal.decreases-streams_of
decreases-streams_of l = 2 * l.depth + 1

abbrev pub invariant-streams_of-loop-node : goal.invariant-streams_of-loop-node
invariant-streams_of-loop-node l = Stands l.valid l.exprs.items l.low
