-- A pipe of the phase gets a place, and another stays.
use Rattle.ps_world.specs.Pipes.{with_place}
use Rattle.world_pipes.proofs.Given.{on_ok}
use Rattle.world_pipes.proofs.Placed.{becomes_else, becomes_then}
use Rattle.world_pipes.proofs.giving.reserve_in.Goals as goal
use Rattle.world_pipes.specs.Giving.{if_kept}

pub returns-then-in_phase-clause-placed : goal.returns-then-in_phase-clause-placed
returns-then-in_phase-clause-placed c =
    on_ok c.reserve_kept.result (λ b. becomes_then (if_kept with_place) c.args.pipe.now c.reserve_kept.new.pipe c.in_phase.result c.in_phase.ensures c.if-in_phase.true b.shows b.bounded b.room) c.reserve_kept.ensures.placed

pub returns-clause-placed : goal.returns-clause-placed
returns-clause-placed c = becomes_else (if_kept with_place) c.args.pipe.now c.args.pipe.now c.in_phase.result c.in_phase.ensures c.if-in_phase.false
