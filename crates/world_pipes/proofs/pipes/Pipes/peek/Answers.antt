-- A pipe of the world has one that shows it.
use Rattle.std.proofs.Common.{arith}
use Rattle.world_pipes.proofs.Placed.{at_place, past_place, seen, unseen}
use Rattle.world_pipes.proofs.pipes.Pipes.peek.Goals as goal

pub returns-then-place-len : goal.returns-then-place-len
returns-then-place-len c = λ s ps p shown at.
    let test = c.if-place-len.true in
    let len = c.len.ensures in
    let there = at_place c.args.self.now.list.items c.place-place.result c.args.key.0 c.index.result.now c.place-place.ensures (omega (arith, test, len)) c.index.ensures in
    c.peek_in.ensures (s.schema p.wire.sender) p (seen s ps p c.args.self.now shown c.args.key.0 at c.index.result.now there).shows

pub returns-else-place-len : goal.returns-else-place-len
returns-else-place-len c = λ s ps p shown at.
    let test = c.if-place-len.false in
    let len = c.len.ensures in
    absurd (unseen s ps p c.args.self.now shown c.args.key.0 at (past_place c.args.self.now.list.items c.place-place.result c.args.key.0 c.place-place.ensures (omega (arith, test, len))))
