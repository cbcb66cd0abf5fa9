-- A pipe of the phase changes, and another stays.
use Rattle.std.proofs.Common.{ap}
use Rattle.world_pipes.specs.Shown.{closed_pipe}
use Rattle.ps_pipes.specs.declared.pipe.Pipe.{Pipe as Held}
use Rattle.world_pipes.proofs.Placed.{becomes_else, becomes_then}
use Rattle.world_pipes.proofs.places.close.Goals as goal

pub returns-then-in_phase : goal.returns-then-in_phase
returns-then-in_phase c =
    becomes_then closed_pipe c.args.pipe.now c.close.new.self c.in_phase.result c.in_phase.ensures c.if-in_phase.true c.close.ensures.shows (ap (λ (x : Held). x.is_bounded) c.close.ensures.others) (ap (λ (x : Held). x.room) c.close.ensures.others)

pub returns-else-in_phase : goal.returns-else-in_phase
returns-else-in_phase c = becomes_else closed_pipe c.args.pipe.now c.args.pipe.now c.in_phase.result c.in_phase.ensures c.if-in_phase.false
