-- The pipe with the key gets a place.
use Rattle.std.proofs.Common.{arith, refl}
use Rattle.ps_world.specs.Pipes.{with_place}
use Rattle.world_pipes.proofs.Given.{on_err, on_ok, reserved_at}
use Rattle.world_pipes.proofs.Placed.{at_place, key_there, past_place, stays_shown}
use Rattle.world_pipes.proofs.pipes.Pipes.reserve.Goals as goal

pub returns-then-place-len-clause-pipes : goal.returns-then-place-len-clause-pipes
returns-then-place-len-clause-pipes c = λ s ps test shown names.
    let past = c.if-place-len.true in
    let len = c.len.ensures in
    absurd (key_there s test with_place c.args.key.0 ps c.args.self.now shown names (past_place c.args.self.now.list.items c.place-place.result c.args.key.0 c.place-place.ensures (omega (arith, past, len))))

pub returns-clause-pipes : goal.returns-clause-pipes
returns-clause-pipes c =
    on_ok c.reserve_in.result
    (λ becomes s ps test shown names.
    let inside = c.if-place-len.false in
    let len = c.len.ensures in
    reserved_at s test c.args.key.0 c.place-place.result c.place-place.ensures ps c.args.self.now _ shown names c.index_mut.result.now c.reserve_in.new.pipe
    (at_place c.args.self.now.list.items c.place-place.result c.args.key.0 c.index_mut.result.now c.place-place.ensures (omega (arith, inside, len)) c.index_mut.ensures.value) refl becomes) c.reserve_in.ensures.placed

pub returns-clause-stays : goal.returns-clause-stays
returns-clause-stays c =
    on_err c.reserve_in.result
    (λ same s ps shown.
    let inside = c.if-place-len.false in
    let len = c.len.ensures in
    stays_shown s ps c.args.self.now _ c.place-place.result c.index_mut.result.now c.reserve_in.new.pipe shown
    (at_place c.args.self.now.list.items c.place-place.result c.place-place.result c.index_mut.result.now refl (omega (arith, inside, len)) c.index_mut.ensures.value) same.0 refl) c.reserve_in.ensures.memory
