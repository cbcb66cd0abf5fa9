-- The node after the lines so far.
use Rattle.std.proofs.Common.{◌≡◌}
use Rattle.turn_scripts.proofs.script.follow.Given as goal

abbrev pub invariant-loop-line : goal.invariant-loop-line
invariant-loop-line g l = record {
  can_next : (goal.iterator-loop-line g).can_next l.line-iterator;
  is_finite : (goal.iterator-loop-line g).is_finite l.line-iterator;
  inputs : g.N.Turns.HasInputs l.node l.fn.inputs;
  claimed : g.N.Turns.claimed l.node ≡ g.N.Turns.claimed l.fn.node;
}
