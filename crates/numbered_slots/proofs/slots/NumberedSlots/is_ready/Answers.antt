-- The first slot is the ring's first item, or the ring is empty, and then nothing can be read.
use Rattle.std.proofs.Common.{ap, ◌∙◌}
use Rattle.numbered_slots.specs.Numbered.{Numbered, begins}
use Rattle.numbered_slots.proofs.Kept.{ready_is}
use Rattle.numbered_slots.proofs.slots.NumberedSlots.is_ready.Goals as goal

pub returns : goal.returns
returns g c =
    let i = c.self.inside in
    ready_is i.ready.capacity i.ready.items i.behind.items c.is_empty.result c.is_empty.ensures c.self.invariant.some_room c.self.invariant.settled
    ∙ ap (λ (s : Numbered g.row.T.Denot). begins s.slots) c.self.view_is
