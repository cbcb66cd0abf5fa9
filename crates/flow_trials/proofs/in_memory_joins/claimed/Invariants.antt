-- As many were claimed as times it went round.
use Rattle.std.proofs.Common.{◌≤◌}
use Rattle.ps_nodes.specs.declared.flow.FlowNode.TheVariants as flow
use Rattle.flow_trials.specs.Tested.{HasInputs}
use Rattle.flow_trials.proofs.in_memory_joins.claimed.Given as goal

abbrev pub invariant-loop : goal.invariant-loop
invariant-loop l = record {
  sent : l.join.made.sent ≤ l.counter;
  inputs : HasInputs 2 (flow.InMemoryJoin l.join);
}
