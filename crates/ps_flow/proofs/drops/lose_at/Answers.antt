-- The pipe of the key is dropped, or there is none.
use Rattle.std.proofs.Common.{subst, sym}
use Rattle.ps_flow.proofs.OutputKeys.{none_changed}
use Rattle.ps_flow.proofs.drops.lose_at.Goals as goal
use Rattle.ps_flow.specs.Claiming.{IsKeyOf}
use Rattle.ps_world.specs.Pipes.{dropped_pipe, is_input}
use Rattle.world_pipes.specs.Shown.{AreShown}

pub returns-in-Some : goal.returns-in-Some
returns-in-Some c = λ s ps n i shown names. c.lose.ensures s ps (is_input n i) shown (subst (IsKeyOf n i ps) c.in-Some.is names)

pub returns-in-None : goal.returns-in-None
returns-in-None c = λ s ps n i shown none. subst (λ l. AreShown s l c.args.pipes.now) (sym (none_changed (is_input n i) dropped_pipe ps (subst (IsKeyOf n i ps) c.in-None.is none))) shown
