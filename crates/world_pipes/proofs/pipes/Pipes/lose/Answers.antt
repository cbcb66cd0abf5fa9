-- The pipe with the key is dropped.
use Rattle.std.proofs.Common.{ap, arith, refl}
use Rattle.ps_pipes.specs.declared.pipe.Pipe.{Pipe as Held}
use Rattle.ps_world.specs.Pipes.{dropped_pipe}
use Rattle.world_pipes.proofs.Placed.{at_place, called_at, key_there, past_place}
use Rattle.world_pipes.proofs.pipes.Pipes.lose.Goals as goal

pub returns-then-place-len : goal.returns-then-place-len
returns-then-place-len c = λ s ps test shown names.
    let inside = c.if-place-len.true in
    let len = c.len.ensures in
    called_at s test dropped_pipe (λ p. refl) c.args.key.0 c.place-place.result c.place-place.ensures ps c.args.self.now _ shown names c.index_mut.result.now c.lose.new.self
    (at_place c.args.self.now.list.items c.place-place.result c.args.key.0 c.index_mut.result.now c.place-place.ensures (omega (arith, inside, len)) c.index_mut.ensures.value) refl
    (record { shows = c.lose.ensures.shows; bounded = ap (λ (x : Held). x.is_bounded) c.lose.ensures.others; room = ap (λ (x : Held). x.room) c.lose.ensures.others })

pub returns-else-place-len : goal.returns-else-place-len
returns-else-place-len c = λ s ps test shown names.
    let past = c.if-place-len.false in
    let len = c.len.ensures in
    absurd (key_there s test dropped_pipe c.args.key.0 ps c.args.self.now shown names (past_place c.args.self.now.list.items c.place-place.result c.args.key.0 c.place-place.ensures (omega (arith, past, len))))
