-- The node after the updates so far.
use Rattle.map_flow_trials.specs.Shown.{CanTurn}
use Rattle.map_flow_trials.proofs.updates.goes_on.Given as goal

abbrev pub invariant-loop-states : goal.invariant-loop-states
invariant-loop-states g l = CanTurn (g.N.Turns.shown l.node)
