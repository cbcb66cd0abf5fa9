-- The one pipe that leaves the node gets a place, if there is one.
use Rattle.std.proofs.Common.{ap, subst, sym}
use Rattle.std.specs.Prelude.{◌&&◌, nat_eq, not}
use Rattle.ps_flow.proofs.OutputKeys.{none_changed}
use Rattle.ps_flow.proofs.outputs.reserve_out.Goals as goal
use Rattle.ps_world.specs.Pipes.{with_place}
use Rattle.ps_world.specs.World.{Pipe}
use Rattle.world_pipes.proofs.Given.{on_ok}
use Rattle.world_pipes.specs.Shown.{AreShown}

pub returns-in-Some-clause-placed : goal.returns-in-Some-clause-placed
returns-in-Some-clause-placed g c =
    on_ok c.reserve.result (λ placed s ps shown linked wires one. placed s ps (λ (p : Pipe). nat_eq p.wire.sender c.args.node) shown (c.in-Some.ensures.key ps linked wires one)) c.reserve.ensures.pipes

pub returns-in-None-clause-placed : goal.returns-in-None-clause-placed
returns-in-None-clause-placed g c = λ s ps shown linked wires one.
    subst (λ l. AreShown s l c.args.pipes.now)
    (sym (none_changed (λ p. nat_eq p.wire.sender c.args.node && (p.in_phase && not p.is_dropped)) with_place ps (λ p among. ap (λ b. b && (p.in_phase && not p.is_dropped)) (c.in-None.ensures.none ps p linked wires among)))) shown
