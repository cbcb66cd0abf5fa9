-- A place more doesn't change what can be read.
use Rattle.std.proofs.Common.{ap, ◌≡◌, ◌+◌, ◌<◌, ◌^◌, List, Option, arith, length, subst, sym}
use Rattle.numbered_slots.specs.Numbered.{Numbered}
use Rattle.numbered_slots.specs.Laid.{IsLaid, laid}
use Rattle.numbered_slots.proofs.Kept.{placed}
use Rattle.numbered_slots.proofs.slots.NumberedSlots.reserve.Goals as goal

pub invariant_of-self-2 : goal.invariant_of-self-2
invariant_of-self-2 g c =
    let i = c.self.inside in
    let numbered = c.self.invariant.numbered in
    let long = c.len.ensures in
    let same : length (laid i.ready.items i.behind.items) ≡ length c.args.self.now.slots = ap (λ (s : Numbered g.row.T.Denot). length s.slots) c.self.view_is in
    let not_last = c.if-self-len.false in
    let fits : i.next + length (laid i.ready.items i.behind.items) + 1 < 2 ^ 64 = omega arith in
    subst (λ (b : List (Option g.row.T.Denot)). IsLaid i.next i.waiting i.ready.capacity i.ready.items b) (sym c.in-Ok.ensures.items) (placed i.next i.waiting i.ready.capacity i.ready.items i.behind.items c.self.invariant fits)
