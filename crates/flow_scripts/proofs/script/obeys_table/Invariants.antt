-- The node after the states so far.
use Rattle.flow_scripts.proofs.script.obeys_table.Given as goal

abbrev pub invariant-loop-states : goal.invariant-loop-states
invariant-loop-states g l = record {
  can_next : (goal.iterator-loop-states g).can_next l.states-iterator;
  is_finite : (goal.iterator-loop-states g).is_finite l.states-iterator;
  ports : g.N.ComputeNode.HasPorts l.node l.fn.inputs l.fn.outputs;
}
