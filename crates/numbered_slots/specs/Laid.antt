-- How numbered slots lie: first what can be read, in a ring, and behind it all else.
use Rattle.std.specs.Prelude.{◌≡◌, ℕ, ◌+◌, ◌^◌, ◌<◌, false, List, ◌++◌, Option, Some, map, length}
use Rattle.numbered_slots.specs.Numbered.{begins, there}

module _ {T : Type 0} where
  abbrev pub laid : List T → List (Option T) → List (Option T)
  laid ready behind = map Some ready ++ behind

  -- Where the ring has room, what stands behind it doesn't begin with something that can be read.
  pub record IsLaid (next waiting room : ℕ) (ready : List T) (behind : List (Option T)) : Type 0 where
    pub some_room : 0 < room
    pub settled : length ready < room → begins behind ≡ false
    pub counted : waiting ≡ there (laid ready behind)
    pub numbered : next + length (laid ready behind) < 2 ^ 64
