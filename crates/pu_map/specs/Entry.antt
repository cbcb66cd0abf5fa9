-- What a contract sees of an entry.
use Rattle.std.specs.Prelude.{◌≡◌, ℕ, List}
use Rattle.std.specs.Borrow.{MutBor}
use Rattle.std.specs.declared.convert.AsSlice as slice
use Rattle.pu_map.specs.Keys.{IsAbsent}
use Rattle.pu_map.specs.BytesMap.{BytesMap, StandsAt}
use Rattle.pu_map.specs.declared.bytes_idx_map.entry.Entry.{Entry}
use Rattle.pu_map.specs.declared.bytes_idx_map.entry.Entry.TheVariants.{Occupied, Vacant}
use Rattle.pu_map.specs.declared.bytes_idx_map.entry.OccupiedEntry.{OccupiedEntry}
use Rattle.pu_map.specs.declared.bytes_idx_map.entry.VacantEntry.{VacantEntry}

module _ {V : Type 0} where
  -- the map, as the entry holds it
  abbrev pub occupied_map : OccupiedEntry V → BytesMap V
  occupied_map e = e.map.now

  -- the entry's number
  abbrev pub occupied_index : OccupiedEntry V → ℕ
  occupied_index e = e.index

module _ {K V : Type 0} {g : slice.Ghosts K ℕ} where
  -- the map that lacks the key
  abbrev pub vacant_map : VacantEntry K V g → BytesMap V
  vacant_map e = e.map.now

  -- the hash that the key would get
  abbrev pub vacant_hash : VacantEntry K V g → ℕ
  vacant_hash e = e.hash

  -- the bytes of the key that the map lacks
  abbrev pub vacant_key : VacantEntry K V g → List ℕ
  vacant_key e = g.items e.key

  -- the reference to the map
  abbrev pub entry_map_ref : Entry K V g → MutBor (BytesMap V)
  entry_map_ref (Occupied e) = e.map
  entry_map_ref (Vacant e) = e.map

  -- the place of this hash with these bytes in the map
  abbrev pub IsEntryFor : BytesMap V → ℕ → List ℕ → Entry K V g → Type 0
  IsEntryFor m hash bytes (Occupied e) = (occupied_map e ≡ m) × StandsAt m (occupied_index e) hash bytes
  IsEntryFor m hash bytes (Vacant e) =
      (vacant_map e ≡ m) × (vacant_hash e ≡ hash) × (vacant_key e ≡ bytes) × IsAbsent m.keys hash bytes
