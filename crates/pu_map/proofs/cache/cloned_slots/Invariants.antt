use Rattle.std.proofs.Common.{◌≡◌, take}
use Rattle.pu_map.proofs.cache.cloned_slots.Given as goal

-- what was cloned so far equals what it was cloned from
abbrev pub invariant-slots : goal.invariant-slots
invariant-slots g l = l.copies.items ≡ take l.slot-index l.slots
