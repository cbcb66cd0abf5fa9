-- The node after the lines so far.
use Rattle.flow_scripts.specs.Followed.{SameCounts}
use Rattle.flow_scripts.proofs.script.follow.Given as goal

abbrev pub invariant-loop-line : goal.invariant-loop-line
invariant-loop-line g l = record {
  can_next : (goal.iterator-loop-line g).can_next l.line-iterator;
  is_finite : (goal.iterator-loop-line g).is_finite l.line-iterator;
  ports : g.N.ComputeNode.HasPorts l.node l.fn.inputs l.fn.outputs;
  same : SameCounts g.N.ComputeNode.Update l.fn.node l.node;
}
