-- What a map over bytes ends as, where a `&mut` to one of its values is returned.
use Rattle.std.specs.Prelude.{◌≡◌, ℕ, ◌+◌, ◌≤◌, List, [], ◌∷◌, ◌++◌, length, Result}
use Rattle.std.specs.Borrow.{Lends, LendsSoOk, Fml, RattleType, MutBor}
use Rattle.pu_map.specs.BytesMap.{BytesMap, with_value}
use Rattle.pu_map.specs.contracts.bytes_idx_map.BytesIndexMap.{the_row}

-- once the borrow r ends, the number has the last value written through r
abbrev pub lends_value : (V : RattleType) → MutBor (BytesMap V.Denot) → ℕ → MutBor V.Denot → Fml
lends_value V m i r = Lends (the_row V) V m r (with_value m.now i)

module _ {V : Type 0} (m : BytesMap V) (hash : ℕ) (key : List ℕ) where
  -- the map has one entry more, and took memory for the bytes of its key alone where there was room
  pub record Fills (new : BytesMap V) (value : V) : Type 0 where
    pub keys : new.keys ≡ m.keys ++ (hash, key) ∷ []
    pub values : new.values ≡ m.values ++ value ∷ []
    pub room : m.room ≤ new.room + 1
    pub key_room : m.key_room ≤ new.key_room + length key

-- no entry changed
pub record Leaves {V : Type 0} (m new : BytesMap V) : Type 0 where
  pub keys : new.keys ≡ m.keys
  pub values : new.values ≡ m.values

-- once the borrow ends, the key has the last value written through it, and after an error nothing changed
abbrev pub lends_inserted : (V : RattleType) {E : Type 0} → MutBor (BytesMap V.Denot) → ℕ → List ℕ → Result (MutBor V.Denot) E → Fml
lends_inserted V m hash key r = LendsSoOk (the_row V) V m r (Fills m.now hash key) (Leaves m.now)
