-- The pipe of the key loses its next morsel, or there is none.
use Rattle.std.proofs.Common.{subst, sym}
use Rattle.ps_flow.proofs.OutputKeys.{none_changed}
use Rattle.ps_flow.proofs.claiming.take_next.Goals as goal
use Rattle.ps_flow.specs.Claiming.{IsKeyOf}
use Rattle.ps_world.specs.Pipes.{is_input, taken}
use Rattle.world_pipes.specs.Shown.{AreShown}

pub returns-in-Some : goal.returns-in-Some
returns-in-Some c = λ s ps n i shown names ready. c.take_at.ensures s ps n i shown (subst (IsKeyOf n i ps) c.in-Some.is names) ready

pub returns-in-None : goal.returns-in-None
returns-in-None c = λ s ps n i shown none ready. subst (λ l. AreShown s l c.args.pipes.now) (sym (none_changed (is_input n i) taken ps (subst (IsKeyOf n i ps) c.in-None.is none))) shown
