-- A pipe of the world has one that shows it.
use Rattle.std.proofs.Common.{◌∙◌, ◌+◌, ◌-◌, arith, length}
use Rattle.std.specs.Prelude.{◌||◌, nat_lt, not}
use Rattle.world_pipes.proofs.Placed.{at_place, past_place, seen, unseen}
use Rattle.world_pipes.proofs.pipes.Pipes.has_place.Goals as goal

pub returns-then-place-len : goal.returns-then-place-len
returns-then-place-len c = λ s ps p shown at.
    let test = c.if-place-len.true in
    let len = c.len.ensures in
    let there = at_place c.args.self.now.list.items c.place-place.result c.args.key.0 c.index.result.now c.place-place.ensures (omega (arith, test, len)) c.index.ensures in
    let st = seen s ps p c.args.self.now shown c.args.key.0 at c.index.result.now there in
    c.has_place.ensures (s.schema p.wire.sender) p st.shows ∙ (λ i. p.is_dropped || (not (st.bounded i) || nat_lt ((length p.got - p.next) + c.args.kept) (st.room i)))

pub returns-else-place-len : goal.returns-else-place-len
returns-else-place-len c = λ s ps p shown at.
    let test = c.if-place-len.false in
    let len = c.len.ensures in
    absurd (unseen s ps p c.args.self.now shown c.args.key.0 at (past_place c.args.self.now.list.items c.place-place.result c.args.key.0 c.place-place.ensures (omega (arith, test, len))))
