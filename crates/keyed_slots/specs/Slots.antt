-- What a contract sees of a map: the value or nothing at each number from 0 on.
use Rattle.std.specs.Prelude.{◌≡◌, ◌≢◌, ℕ, ◌+◌, ◌<◌, ◌^◌, List, [], ◌∷◌, Option, Some, None, is_some, count_by, length, slice_index_or, slice_set, refl}
use Rattle.std.specs.Coded.{Coded, code_by, coded×, coded_ℕ, coded_list, coded_option}

-- the slots, and how many more of them fit without taking memory
pub record SlotList (V : Type 0) : Type 0 where
  pub slots : List (Option V)
  pub room : ℕ

-- a map is stored as the pair of its parts
abbrev pub slot_list_code : {V : Type 0} → Coded V → Coded (SlotList V)
slot_list_code {V} code =
    code_by
    (List (Option V) × ℕ)
    (coded× (coded_list (coded_option code)) coded_ℕ)
    (λ m. (m.slots, m.room))
    (λ p. record { slots = p.0; room = p.1 })
    (λ _. refl)

module _ {V : Type 0} where
  -- the value at a number, if there is one
  abbrev pub value_at : List (Option V) → ℕ → Option V
  value_at slots number = slice_index_or slots number None

  -- the map after a write of the value at a number
  abbrev pub with_value : SlotList V → ℕ → V → SlotList V
  with_value m number value = record m { slots = slice_set m.slots number (Some value) }

  -- the number has this now, and every other number keeps what it had
  pub record Updates (old new : List (Option V)) (number : ℕ) (slot : Option V) : Type 0 where
    pub changed : value_at new number ≡ slot
    pub others : (other : ℕ) → other ≢ number → value_at new other ≡ value_at old other

  -- so many slots hold a value, and each number fits
  pub record IsCounted (slots : List (Option V)) (len : ℕ) : Type 0 where
    pub counted : len ≡ count_by is_some slots
    pub fits : length slots < 2 ^ 32

module _ {K V : Type 0} (key_of : ℕ → K) where
  -- the keys that have a value, with their values, where the first slot has this number
  abbrev pub live_from : ℕ → List (Option V) → List (K × V)
  live_from number [] = []
  live_from number (None ∷ rest) = live_from (number + 1) rest
  live_from number (Some value ∷ rest) = (key_of number, value) ∷ live_from (number + 1) rest

  -- the keys that have a value, with their values, in the order in which they were given
  abbrev pub live : List (Option V) → List (K × V)
  live slots = live_from 0 slots
