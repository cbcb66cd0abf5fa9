-- All out of the phase, and then some into it.
use Rattle.std.proofs.Common.{◌∙◌, false, subst}
use Rattle.std.specs.Prelude.{map}
use Rattle.ps_world.specs.World.{Pipe}
use Rattle.world_pipes.proofs.Phased.{out_and_in, places_out}
use Rattle.world_pipes.proofs.pipes.Pipes.open.Goals as goal
use Rattle.world_pipes.specs.Shown.{AreShown, phase_pipe}

pub returns : goal.returns
returns c = λ s ps test shown names.
    subst (λ l. AreShown s l c.take_in.new.self) (out_and_in test ps) (c.take_in.ensures s (map (phase_pipe false) ps) (λ (p : Pipe). test p.wire) (c.leave_out.ensures s ps shown) (names ∙ places_out test 0 ps))
