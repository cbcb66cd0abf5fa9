-- A pipe of the phase changes, and another stays.
use Rattle.std.proofs.Common.{ap}
use Rattle.ps_world.specs.Pipes.{dropped_pipe}
use Rattle.ps_pipes.specs.declared.pipe.Pipe.{Pipe as Held}
use Rattle.world_pipes.proofs.Placed.{becomes_else, becomes_then}
use Rattle.world_pipes.proofs.places.lose.Goals as goal

pub returns-then-in_phase : goal.returns-then-in_phase
returns-then-in_phase c =
    becomes_then dropped_pipe c.args.pipe.now c.lose.new.self c.in_phase.result c.in_phase.ensures c.if-in_phase.true c.lose.ensures.shows (ap (λ (x : Held). x.is_bounded) c.lose.ensures.others) (ap (λ (x : Held). x.room) c.lose.ensures.others)

pub returns-else-in_phase : goal.returns-else-in_phase
returns-else-in_phase c = becomes_else dropped_pipe c.args.pipe.now c.args.pipe.now c.in_phase.result c.in_phase.ensures c.if-in_phase.false
