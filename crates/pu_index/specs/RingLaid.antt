-- How the items of a ring lie in its places.
use Rattle.std.specs.Prelude.{◌≡◌, ◌^◌, ◌<◌, ◌≤◌, List, length}
use Rattle.pu_index.specs.Places.{somes, filled, from_start}
use Rattle.pu_index.specs.declared.ring.FixedRingBuffer.TheInside.{Inside}

module _ {T : Type 0} where
  -- the items, the oldest first
  unfoldable pub ring_items : Inside T → List T
  ring_items r = somes (from_start r.start r.places.slots)

  pub record IsRing (r : Inside T) : Type 0 where
    pub deed : (r.deed.base ≡ r.places.base) × (r.deed.count ≡ r.capacity) × (r.deed.alloc ≡ r.alloc)
    pub places : (length r.places.slots ≡ r.capacity) × (r.capacity < 2 ^ 63)
    pub start : (r.start ≤ r.capacity) × (0 < r.capacity → r.start < r.capacity)
    pub len : (r.len ≤ r.capacity) × (r.len ≡ length (ring_items r))
    pub laid : from_start r.start r.places.slots ≡ filled (ring_items r) r.capacity
