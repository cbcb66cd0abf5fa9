-- By whether it is to be dropped.
use Rattle.std.proofs.Common.{length, subst, sym}
use Rattle.ps_flow.proofs.claiming.drop_if.Goals as goal
use Rattle.ps_flow.specs.Claiming.{dropped_if}
use Rattle.world_pipes.specs.Shown.{AreShown}

pub returns-then-drops : goal.returns-then-drops
returns-then-drops g c = λ s ps n i shown names wires one.
    subst (λ b. AreShown s (dropped_if b (length c.args.graph.now.nodes.slots) n i ps) c.drop_input.new.pipes) (sym c.if-drops.true) (c.drop_input.ensures s ps n i shown names wires one)

pub returns-else-drops : goal.returns-else-drops
returns-else-drops g c = λ s ps n i shown names wires one. subst (λ b. AreShown s (dropped_if b (length c.args.graph.now.nodes.slots) n i ps) c.args.pipes.now) (sym c.if-drops.false) shown
