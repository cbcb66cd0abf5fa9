-- By whether the node is cut off.
use Rattle.ps_flow.proofs.Dropping.{cut_else, cut_then}
use Rattle.ps_flow.proofs.drops.drop_node.Goals as goal

pub returns-then-is_cut_off : goal.returns-then-is_cut_off
returns-then-is_cut_off g c = λ s ps shown linked wires within one.
    cut_then s c.args.node ps c.lose_inputs.new.pipes c.is_cut_off.result (c.is_cut_off.ensures s ps shown linked wires one) c.if-is_cut_off.true (c.lose_inputs.ensures s ps shown linked wires within)

pub returns-else-is_cut_off : goal.returns-else-is_cut_off
returns-else-is_cut_off g c = λ s ps shown linked wires within one.
    cut_else s c.args.node ps c.args.pipes.now c.is_cut_off.result (c.is_cut_off.ensures s ps shown linked wires one) c.if-is_cut_off.false shown
