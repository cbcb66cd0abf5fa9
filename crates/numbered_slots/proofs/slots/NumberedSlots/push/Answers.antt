-- There is one item more, and the ring is settled.
use Rattle.std.proofs.Common.{ap, ◌≡◌, ◌+◌, ◌<◌, ◌^◌, arith, length}
use Rattle.numbered_slots.specs.Numbered.{Numbered}
use Rattle.numbered_slots.specs.Laid.{laid}
use Rattle.numbered_slots.proofs.Kept.{push-laid, waiting_le}
use Rattle.numbered_slots.proofs.slots.NumberedSlots.push.Goals as goal

pub overflow_add-self : goal.overflow_add-self
overflow_add-self g c =
    let i = c.self.inside in
    let numbered = c.self.invariant.numbered in
    let long = c.len.ensures in
    let same : length (laid i.ready.items i.behind.items) ≡ length c.args.self.now.slots = ap (λ (s : Numbered g.row.T.Denot). length s.slots) c.self.view_is in
    let not_last = c.if-self-len.false in
    let few = waiting_le i.next i.waiting i.ready.capacity i.ready.items i.behind.items c.self.invariant in
    omega arith

pub invariant_of-self-2 : goal.invariant_of-self-2
invariant_of-self-2 g c =
    let i = c.self.inside in
    let numbered = c.self.invariant.numbered in
    let long = c.len.ensures in
    let same : length (laid i.ready.items i.behind.items) ≡ length c.args.self.now.slots = ap (λ (s : Numbered g.row.T.Denot). length s.slots) c.self.view_is in
    let not_last = c.if-self-len.false in
    let fits : i.next + length (laid i.ready.items i.behind.items) + 1 < 2 ^ 64 = omega arith in
    push-laid i.next i.waiting i.ready.capacity i.ready.items i.behind.items c.self.invariant c.args.item c.push_back.new.self.items c.settle.new.ready.capacity c.settle.new.ready.items c.settle.new.behind.items c.settle.ensures.same c.settle.ensures.capacity c.settle.ensures.settled c.in-Ok.ensures.items fits
