-- The node after the states so far.
use Rattle.std.proofs.Common.{◌≡◌}
use Rattle.turn_scripts.proofs.script.follow_table.Given as goal

abbrev pub invariant-loop-states : goal.invariant-loop-states
invariant-loop-states g l = record {
  can_next : (goal.iterator-loop-states g).can_next l.states-iterator;
  is_finite : (goal.iterator-loop-states g).is_finite l.states-iterator;
  inputs : g.N.Turns.HasInputs l.node l.fn.inputs;
  claimed : g.N.Turns.claimed l.node ≡ g.N.Turns.claimed l.fn.node;
}
