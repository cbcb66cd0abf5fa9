-- The node after the lines so far.
use Rattle.std.proofs.Common.{◌≡◌}
use Rattle.map_flow_trials.specs.Shown.{CanTurn}
use Rattle.map_flow_trials.proofs.scripts.driven.Given as goal

abbrev pub invariant-loop-line : goal.invariant-loop-line
invariant-loop-line g l = record {
  can_next : (goal.iterator-loop-line g).can_next l.line-iterator;
  is_finite : (goal.iterator-loop-line g).is_finite l.line-iterator;
  able : CanTurn (g.N.Turns.shown l.node);
  same : g.N.Turns.shown l.node ≡ g.N.Turns.shown l.fn.node;
}
