-- The answer stands in the pipe with the key.
use Rattle.std.proofs.Common.{arith, refl}
use Rattle.ps_settle.proofs.Members.{item_at}
use Rattle.ps_world.specs.Pipes.{with_answer}
use Rattle.world_pipes.proofs.Given.{answer_sender, put_at}
use Rattle.world_pipes.proofs.Placed.{at_place, key_there, past_place, seen}
use Rattle.world_pipes.proofs.pipes.Pipes.put.Goals as goal

pub put_in-requires : goal.put_in-requires
put_in-requires c =
    let r = c.requires in
    let inside = c.if-place-len.true in
    let len = c.len.ensures in
    let is = c.place-place.ensures in
    let long = r.2.long in
    let p = item_at r.1 c.args.key.0 (omega (arith, inside, len, is, long)) in
    let there = at_place c.args.self.now.list.items c.place-place.result c.args.key.0 c.index_mut.result.now c.place-place.ensures (omega (arith, inside, len)) c.index_mut.ensures.value in
    let st = seen r.0 r.1 p.0 c.args.self.now r.2 c.args.key.0 p.1 c.index_mut.result.now there in
    (r.0.schema p.0.wire.sender, p.0, st.shows, r.3 p.0 p.1)

pub returns-then-place-len : goal.returns-then-place-len
returns-then-place-len c = λ s ps test shown names schema.
    let inside = c.if-place-len.true in
    let len = c.len.ensures in
    let there = at_place c.args.self.now.list.items c.place-place.result c.args.key.0 c.index_mut.result.now c.place-place.ensures (omega (arith, inside, len)) c.index_mut.ensures.value in
    put_at s test c.args.key.0 c.place-place.result c.place-place.ensures ps c.args.self.now _ shown names c.args.table.schema (with_answer c.args.number c.args.table.rows) c.index_mut.result.now c.put_in.new.pipe (answer_sender c.args.number c.args.table.rows) there refl schema c.put_in.ensures

pub returns-else-place-len : goal.returns-else-place-len
returns-else-place-len c = λ s ps test shown names schema.
    let past = c.if-place-len.false in
    let len = c.len.ensures in
    absurd (key_there s test (with_answer c.args.number c.args.table.rows) c.args.key.0 ps c.args.self.now shown names (past_place c.args.self.now.list.items c.place-place.result c.args.key.0 c.place-place.ensures (omega (arith, past, len))))
