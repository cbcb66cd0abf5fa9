-- A place is made, or there was no memory for it.
use Rattle.ps_flow.proofs.Claims.{one_output}
use Rattle.ps_flow.proofs.Made.{more_room, places}
use Rattle.ps_flow.proofs.world.World.make_place.Goals as goal
use Rattle.ps_flow.specs.Standing.{setting_of}
use Rattle.ps_world.specs.World.{shape_of}
use Rattle.world_pipes.proofs.Given.{on_err, on_ok}

pub returns-clause-placed : goal.returns-clause-placed
returns-clause-placed g c =
    on_ok c.reserve_out.result
    (λ placed F w i worker x cl stands may.
    places F w c.args.node i worker x cl may g.N.RunNode.Has c.args.self.now stands c.reserve_out.new.pipes c.reserve.new.self (placed (setting_of (shape_of w) w.options) w.pipes stands.pipes stands.linked stands.wires (one_output F w c.args.node i worker x cl may c.args.node)) c.reserve.ensures.same c.reserve.ensures.kept)
    c.reserve_out.ensures.placed

pub returns-clause-stays : goal.returns-clause-stays
returns-clause-stays g c =
    on_err c.reserve_out.result
    (λ stays w stands. more_room w g.N.RunNode.Has c.args.self.now stands c.reserve_out.new.pipes c.reserve.new.self (stays (setting_of (shape_of w) w.options) w.pipes stands.pipes) c.reserve.ensures.same c.reserve.ensures.kept)
    c.reserve_out.ensures.stays
