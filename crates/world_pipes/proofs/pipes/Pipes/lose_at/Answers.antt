-- The pipe at a place changes, if there is one.
use Rattle.std.proofs.Common.{arith}
use Rattle.ps_world.specs.Pipes.{dropped_pipe}
use Rattle.world_pipes.proofs.Placed.{at_index, past_changed, set_changed}
use Rattle.world_pipes.proofs.pipes.Pipes.lose_at.Goals as goal
use Rattle.world_pipes.specs.Changed.{if_in_phase}

pub returns-then-place-len : goal.returns-then-place-len
returns-then-place-len c =
    let test = c.if-place-len.true in
    let len = c.len.ensures in
    set_changed (if_in_phase dropped_pipe) c.args.place c.args.self.now.list.items c.index_mut.result.now c.lose.new.pipe (at_index c.args.self.now.list.items c.args.place c.index_mut.result.now (omega (arith, test, len)) c.index_mut.ensures.value) c.lose.ensures

pub returns-else-place-len : goal.returns-else-place-len
returns-else-place-len c =
    let test = c.if-place-len.false in
    let len = c.len.ensures in
    past_changed (if_in_phase dropped_pipe) c.args.place c.args.self.now.list.items (omega (arith, test, len))
