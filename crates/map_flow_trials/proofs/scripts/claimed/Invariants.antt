-- As many were claimed as times it went round.
use Rattle.std.proofs.Common.{◌≡◌}
use Rattle.map_flow_trials.proofs.scripts.claimed.Given as goal

abbrev pub invariant-loop : goal.invariant-loop
invariant-loop g l = g.N.Turns.shown l.node ≡ record (g.N.Turns.shown l.fn.node) { sent = l.counter }
