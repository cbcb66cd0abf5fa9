-- What a contract sees of a map over bytes.
use Rattle.std.specs.Prelude.{◌≡◌, ℕ, List, Some, slice_get, slice_set, refl}
use Rattle.std.specs.Coded.{Coded, code_by, coded×, coded_ℕ, coded_list}
use Rattle.pu_map.specs.Keys.{Key}

-- the hashes with their keys, the values, and how many keys, and bytes of keys, fit without taking memory
pub record BytesMap (V : Type 0) : Type 0 where
  pub keys : List Key
  pub values : List V
  pub room : ℕ
  pub key_room : ℕ

-- a map is stored as the tuple of its parts
abbrev pub bytes_map_code : {V : Type 0} → Coded V → Coded (BytesMap V)
bytes_map_code {V} code =
    code_by
    (List (ℕ × List ℕ) × (List V × (ℕ × ℕ)))
    (coded× (coded_list (coded× coded_ℕ (coded_list coded_ℕ))) (coded× (coded_list code) (coded× coded_ℕ coded_ℕ)))
    (λ m. (m.keys, (m.values, (m.room, m.key_room))))
    (λ p. record { keys = p.0; values = p.1.0; room = p.1.1.0; key_room = p.1.1.1 })
    (λ _. refl)

module _ {V : Type 0} where
  -- the entry of this number has this hash and these bytes
  abbrev pub StandsAt : BytesMap V → ℕ → ℕ → List ℕ → Type 0
  StandsAt m i hash bytes = slice_get m.keys i ≡ Some (hash, bytes)

  -- the map after a write of the value of this number
  abbrev pub with_value : BytesMap V → ℕ → V → BytesMap V
  with_value m i value = record m { values = slice_set m.values i value }
