-- By whether it is to be taken.
use Rattle.std.proofs.Common.{subst, sym}
use Rattle.ps_flow.proofs.claiming.take_if.Goals as goal
use Rattle.ps_flow.specs.Claiming.{taken_if}
use Rattle.world_pipes.specs.Shown.{AreShown}

pub returns-then-takes : goal.returns-then-takes
returns-then-takes c = λ s ps n i shown names ready. subst (λ b. AreShown s (taken_if b n i ps) c.take_next.new.pipes) (sym c.if-takes.true) (c.take_next.ensures s ps n i shown names (ready c.if-takes.true))

pub returns-else-takes : goal.returns-else-takes
returns-else-takes c = λ s ps n i shown names ready. subst (λ b. AreShown s (taken_if b n i ps) c.args.pipes.now) (sym c.if-takes.false) shown
