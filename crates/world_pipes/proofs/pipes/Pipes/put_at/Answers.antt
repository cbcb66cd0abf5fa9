-- The pipe at a place changes, if there is one.
use Rattle.std.proofs.Common.{ap, arith}
use Rattle.ps_pipes.specs.declared.pipe.Pipe.{Pipe as Held}
use Rattle.world_pipes.proofs.Placed.{at_index, past_changed, set_changed}
use Rattle.world_pipes.proofs.pipes.Pipes.put_at.Goals as goal
use Rattle.world_pipes.specs.Shown.{phase_pipe}

pub returns-then-place-len : goal.returns-then-place-len
returns-then-place-len c =
    let test = c.if-place-len.true in
    let len = c.len.ensures in
    set_changed (phase_pipe c.args.in_phase) c.args.place c.args.self.now.list.items c.index_mut.result.now c.open.new.self (at_index c.args.self.now.list.items c.args.place c.index_mut.result.now (omega (arith, test, len)) c.index_mut.ensures.value)
    (record { shows = c.open.ensures.shows; bounded = ap (λ (x : Held). x.is_bounded) c.open.ensures.others; room = ap (λ (x : Held). x.room) c.open.ensures.others })

pub returns-else-place-len : goal.returns-else-place-len
returns-else-place-len c =
    let test = c.if-place-len.false in
    let len = c.len.ensures in
    past_changed (phase_pipe c.args.in_phase) c.args.place c.args.self.now.list.items (omega (arith, test, len))
