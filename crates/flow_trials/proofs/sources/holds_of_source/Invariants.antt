-- As many were claimed as times it went round.
use Rattle.std.proofs.Common.{◌≤◌}
use Rattle.flow_trials.proofs.sources.holds_of_source.Given as goal

abbrev pub invariant-loop : goal.invariant-loop
invariant-loop l = l.source.sent ≤ l.counter
