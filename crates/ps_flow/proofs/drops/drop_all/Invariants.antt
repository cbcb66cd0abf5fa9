-- What is left to do leads to what is to be.
use Rattle.ps_flow.proofs.Dropping.{Sweeps}
use Rattle.ps_flow.proofs.drops.drop_all.Given as goal

abbrev pub invariant-loop-node : goal.invariant-loop-node
invariant-loop-node g l = Sweeps l.graph l.fn.pipes l.pipes l.node
