-- A cache of a fixed number of slots, of which each key has two.
use Rattle.std.specs.Prelude.{◌≡◌, ℕ, ◌+◌, ◌-◌, ◌*◌, ◌%◌, ◌^◌, Bool, false, List, length, Option, Some, None, Result, Ok, Err, slice_index_or, slice_set, nat_le, if◌then◌else◌, option_and_then, fold, refl}
use Rattle.std.specs.Option.{option_map}
use Rattle.std.specs.Coded.{Coded, code_by, coded×, coded_ℕ, coded_list, coded_option}
use Rattle.std.specs.Borrow.{Bor}
use Rattle.std.specs.Fn.{Once, FnOnceReturnsAt}
use Rattle.std.specs.Hash.{HashWrites}
use Rattle.std.specs.Hash.FoldHasher as folding
use Rattle.pu_partition.specs.Partitions.{partition_of}
use Rattle.pu_base.specs.declared.error.PolarsUtilsError.{PolarsUtilsError}
use Rattle.pu_base.specs.declared.error.PolarsUtilsError.TheVariants as refusal
use Rattle.pu_map.specs.declared.cache.CacheSlot.{CacheSlot}
use Rattle.pu_map.specs.declared.cache.Refusal.{Refusal}
use Rattle.pu_map.specs.declared.cache.Refusal.TheVariants.{OutOfMemory, Function}

-- the slots, and what the age of the next access is
pub record CacheState (K V : Type 0) : Type 0 where
  pub slots : List (Option (CacheSlot K V))
  pub counter : ℕ

abbrev pub slot_code : {K V : Type 0} → Coded K → Coded V → Coded (CacheSlot K V)
slot_code {K} {V} k v =
    code_by
    (ℕ × (K × V))
    (coded× coded_ℕ (coded× k v))
    (λ s. (s.last_access, (s.key, s.value)))
    (λ p. record { last_access = p.0; key = p.1.0; value = p.1.1 })
    (λ _. refl)

-- a cache is stored as the pair of its parts
abbrev pub cache_code : {K V : Type 0} → Coded K → Coded V → Coded (CacheState K V)
cache_code {K} {V} k v =
    code_by
    (List (Option (CacheSlot K V)) × ℕ)
    (coded× (coded_list (coded_option (slot_code k v))) coded_ℕ)
    (λ c. (c.slots, c.counter))
    (λ p. record { slots = p.0; counter = p.1 })
    (λ _. refl)

-- the hash of a key that writes this
abbrev pub key_hash : HashWrites → ℕ
key_hash writes = folding.finish (fold folding.write folding.initial writes)

-- the two slots of a hash, among n, a power of two: the top bits of two products
abbrev pub first_place : ℕ → ℕ → ℕ
first_place n hash = partition_of (hash * 0x2e623b55bc0c9073 % 2 ^ 64) n

abbrev pub second_place : ℕ → ℕ → ℕ
second_place n hash = partition_of (hash * 0x921932b06a233d39 % 2 ^ 64) n

-- the age of the access after this one
abbrev pub counter_after : ℕ → ℕ
counter_after n = (n + 2) % 2 ^ 32

-- the copy is a clone of the key, and the answer one that the function f gives for it
abbrev pub AnswersCopy : {F K R : Type 0} → (K → K → Type 0) → Once F (Bor K × Unit {0}) R → F → K → K → R → Type 0
AnswersCopy IsClone g f key copy answer = IsClone key copy × FnOnceReturnsAt g f copy answer

module _ {K V : Type 0} where
  -- what a slot holds
  abbrev pub slot_at : List (Option (CacheSlot K V)) → ℕ → Option (CacheSlot K V)
  slot_at slots i = slice_index_or slots i None

  -- the slot has a key that the test finds equal
  abbrev pub holds : (K → K → Bool) → Option (CacheSlot K V) → K → Bool
  holds same None key = false
  holds same (Some s) key = same s.key key

  -- of two slots the empty or else the older one: the age of an access wraps
  abbrev pub older_of : Option (CacheSlot K V) → Option (CacheSlot K V) → ℕ → ℕ → ℕ
  older_of None b i j = i
  older_of (Some s) None i j = j
  older_of (Some s) (Some t) i j =
      if nat_le (2 ^ 31) ((s.last_access + 2 ^ 32 - t.last_access) % 2 ^ 32) then i else j

  -- the slot where a key with this hash stands, if it does
  abbrev pub place_of : (K → K → Bool) → List (Option (CacheSlot K V)) → ℕ → K → Option ℕ
  place_of same slots hash key =
      let i = first_place (length slots) hash in
      let j = second_place (length slots) hash in
      if holds same (slot_at slots i) key then Some i
      else (if holds same (slot_at slots j) key then Some j else None)

  -- the slot that an insert fills: the key's own, else the empty or older one of the two
  abbrev pub place_to_fill : (K → K → Bool) → List (Option (CacheSlot K V)) → ℕ → K → ℕ
  place_to_fill same slots hash key =
      let i = first_place (length slots) hash in
      let j = second_place (length slots) hash in
      if holds same (slot_at slots i) key then i
      else (if holds same (slot_at slots j) key then j
      else older_of (slot_at slots i) (slot_at slots j) i j)

  -- a slot with another age, or another value
  abbrev pub aged : ℕ → Option (CacheSlot K V) → Option (CacheSlot K V)
  aged age None = None
  aged age (Some s) = Some (record s { last_access = age })

  abbrev pub slot_with_value : Option (CacheSlot K V) → V → Option (CacheSlot K V)
  slot_with_value None value = None
  slot_with_value (Some s) value = Some (record s { value = value })

  -- the cache after a hit of a slot
  abbrev pub touched : CacheState K V → ℕ → CacheState K V
  touched c i = record {
    slots = slice_set c.slots i (aged c.counter (slot_at c.slots i));
    counter = counter_after c.counter;
  }

  -- the cache after a write of a slot's value
  abbrev pub with_value : CacheState K V → ℕ → V → CacheState K V
  with_value c i value = record c { slots = slice_set c.slots i (slot_with_value (slot_at c.slots i) value) }

  -- the cache after a look-up that found this slot, or none
  abbrev pub looked_up : CacheState K V → Option ℕ → CacheState K V
  looked_up c None = c
  looked_up c (Some i) = touched c i

  -- the same, with a write of what was found
  abbrev pub written : CacheState K V → Option ℕ → V → CacheState K V
  written c None value = c
  written c (Some i) value = with_value (touched c i) i value

  -- what a look-up that found this slot gives
  abbrev pub value_at : List (Option (CacheSlot K V)) → Option ℕ → Option V
  value_at slots place = option_and_then (λ i. option_map (λ s. s.value) (slot_at slots i)) place

  -- the cache after an insert into a slot
  abbrev pub filled : CacheState K V → ℕ → K → V → CacheState K V
  filled c i key value = record {
    slots = slice_set c.slots i (Some (record { last_access = c.counter; key = key; value = value }));
    counter = counter_after c.counter;
  }

  -- the cache where the value w was written at the first place, which a look-up found and hit; where it found none, a key that was
  -- made stands with w at the second
  abbrev pub IsGot : (K → Type 0) → CacheState K V → Option ℕ → ℕ → V → CacheState K V → Type 0
  IsGot Made c (Some i) j w n = n ≡ with_value (touched c i) i w
  IsGot Made c None j w n = (key : K) × Made key × (n ≡ filled c j key w)

-- what was lent, or the function's error, apart from the want of memory
abbrev pub set_apart : {R E : Type 0} → Result R (Refusal E) → Result (Result R E) PolarsUtilsError
set_apart (Ok value) = Ok (Ok value)
set_apart (Err (Function e)) = Ok (Err e)
set_apart (Err OutOfMemory) = Err refusal.OutOfMemory
