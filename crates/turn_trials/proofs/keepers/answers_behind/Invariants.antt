-- The node after the lines so far.
use Rattle.turn_trials.proofs.keepers.answers_behind.Given as goal

abbrev pub invariant-loop : goal.invariant-loop
invariant-loop g l = g.K.Turns.HasInputs l.node 1
