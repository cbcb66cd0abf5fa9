-- As many were claimed as times it went round.
use Rattle.std.proofs.Common.{◌≤◌}
use Rattle.turn_trials.proofs.selects.answers_behind.Given as goal

abbrev pub invariant-loop : goal.invariant-loop
invariant-loop l = l.select.sent ≤ l.counter
