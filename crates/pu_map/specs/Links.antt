-- How a table of keys keeps its hashes, its keys' bytes and its chains.
use Rattle.std.specs.Prelude.{◌≡◌, ℕ, ◌+◌, ◌<◌, ◌≤◌, ◌^◌, List, length, map, take, drop, slice_get, Some}
use Rattle.pu_map.specs.declared.key_table.Link.{Link}
use Rattle.pu_map.specs.Keys.{Key, AreDistinct}
use Rattle.pu_map.specs.Chains.{IsChained, bucket_of}

abbrev pub hashes : List Link → List ℕ
hashes links = map (λ l. l.hash) links

abbrev pub nexts : List Link → List ℕ
nexts links = map (λ l. l.next) links

-- what a link says of its key alone
abbrev pub stored : Link → ℕ × ℕ × ℕ
stored l = (l.hash, l.start, l.size)

-- the key of a link in these bytes
abbrev pub key_of : List ℕ → Link → Key
key_of bytes l = (l.hash, take l.size (drop l.start bytes))

abbrev pub keys_of : List ℕ → List Link → List Key
keys_of bytes links = map (key_of bytes) links

-- each key lies within the bytes
abbrev pub LieWithin : List Link → List ℕ → Type 0
LieWithin links bytes =
    (i : ℕ) (s : ℕ × ℕ × ℕ) → slice_get (map stored links) i ≡ Some s → s.1 + s.2 ≤ length bytes

-- the heads and links chain all hashes, each key lies within the bytes, and no key stands twice
pub record IsSound (seed : ℕ) (heads : List ℕ) (links : List Link) (bytes : List ℕ) : Type 0 where
  pub chained : IsChained (bucket_of seed (length heads)) heads (hashes links) (nexts links) (length links)
  pub loaded : length links ≤ length heads
  pub within : LieWithin links bytes
  pub distinct : AreDistinct (keys_of bytes links)
  pub fits : length links < 2 ^ 32
