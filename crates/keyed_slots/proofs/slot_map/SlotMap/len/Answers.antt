use Rattle.std.proofs.Common.{sym, ◌∙◌}
use Rattle.keyed_slots.proofs.SlotLemmas.{length-live_from}
use Rattle.keyed_slots.proofs.slot_map.SlotMap.len.Goals as goal

pub returns-clause-live : goal.returns-clause-live
returns-clause-live g c =
    rw (← c.self.view_is) (c.self.invariant.counted ∙ sym (length-live_from g.K.Key.key_of 0 c.self.inside.slots.items))
