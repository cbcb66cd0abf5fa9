-- Keys of bytes with their hashes, as a list in the order of insertion.
use Rattle.std.specs.Prelude.{◌≡◌, ℕ, List, Some, slice_get}

-- a hash and the bytes of a key
abbrev pub Key : Type 0
Key = ℕ × List ℕ

-- no place has this hash with these bytes
abbrev pub IsAbsent : List Key → ℕ → List ℕ → Type 0
IsAbsent keys hash bytes = (i : ℕ) → slice_get keys i ≡ Some (hash, bytes) → ⊥

-- a hash with its bytes stands at one place alone
abbrev pub AreDistinct : List Key → Type 0
AreDistinct keys = (i j : ℕ) (key : Key) → slice_get keys i ≡ Some key → slice_get keys j ≡ Some key → i ≡ j

-- what a contract sees of a table of keys: the keys, and how many of them, and bytes of them, fit without taking memory
pub record KeyList : Type 0 where
  pub keys : List Key
  pub room : ℕ
  pub key_room : ℕ
