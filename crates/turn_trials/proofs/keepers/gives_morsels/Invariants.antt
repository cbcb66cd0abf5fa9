-- As many were claimed as times it went round.
use Rattle.std.proofs.Common.{◌≤◌}
use Rattle.turn_trials.proofs.keepers.gives_morsels.Given as goal

abbrev pub invariant-loop : goal.invariant-loop
invariant-loop g l = record {
  inputs : g.K.Turns.HasInputs l.node 1;
  claimed : g.K.Turns.claimed l.node ≤ l.counter;
}
