-- What a cache ends as, once a reference to one of its values has ended.
use Rattle.std.specs.Prelude.{◌≡◌, ℕ, Option, Some, Result, IfOk, IfSome, IfNone, OnErr, option_and_then, ⊤}
use Rattle.std.specs.Result.{result_ok}
use Rattle.std.specs.Borrow.{Lends, LendsIf, LendsSo, Fml, RattleType, MutBor, follows_so, name_if_ok}
use mathlib.Core.Option as maybe
use Rattle.std.specs.contracts.option.Option.{the_row as option_row}
use Rattle.pu_map.specs.Cache.{CacheState, slot_with_value, with_value, looked_up, written, touched, filled, IsGot}
use Rattle.pu_map.specs.declared.cache.CacheSlot.{CacheSlot}
use Rattle.pu_map.specs.contracts.cache.CacheSlot as slot
use Rattle.pu_map.specs.contracts.cache.FastFixedCache.{the_row}

module _ (K V : RattleType) where
  -- once the borrow r ends, the slot has what it held, with the last values written through r
  abbrev pub lends_slot : MutBor (Option (CacheSlot K.Denot V.Denot)) → MutBor (CacheSlot K.Denot V.Denot) → Fml
  lends_slot s r = Lends (option_row (slot.the_row K V)) (slot.the_row K V) s r Some

  abbrev pub lends_slot_value : MutBor (Option (CacheSlot K.Denot V.Denot)) → MutBor V.Denot → Fml
  lends_slot_value s r = Lends (option_row (slot.the_row K V)) V s r (slot_with_value s.now)

  module _ (c : MutBor (CacheState K.Denot V.Denot)) where
    -- the slot has the last value written through r
    abbrev pub lends_value : ℕ → MutBor V.Denot → Fml
    lends_value i r = Lends (the_row K V) V c r (with_value c.now i)

    -- the slot was hit, and has the last value written through r
    abbrev pub lends_hit : ℕ → MutBor V.Denot → Fml
    lends_hit i r = Lends (the_row K V) V c r (with_value (touched c.now i) i)

    -- the same of the place that a look-up found, and without one the cache stays as it is
    abbrev pub lends_found : Option ℕ → Option (MutBor V.Denot) → Fml
    lends_found place r = LendsIf (the_row K V) V c r (written c.now place) c.now

    -- the cache is as after a look-up
    abbrev pub ends_looked_up : Option ℕ → Fml
    ends_looked_up place = follows_so (the_row K V) (the_row K V) c.ghost_name maybe.none (λ _ _. ⊤) (λ n. n ≡ looked_up c.now place)

    -- the slot was filled with the key and the last value written through r
    abbrev pub lends_filled : ℕ → K.Denot → MutBor V.Denot → Fml
    lends_filled i key r = Lends (the_row K V) V c r (filled c.now i key)

    -- the cache has what a look-up found or else put in, with the last value written through r; at `Err` it stays as it is
    abbrev pub lends_got : {E : Type 0} → Option ℕ → ℕ → (K.Denot → V.Denot → Type 0) → Result (MutBor V.Denot) E → Fml
    lends_got place free Made r =
        follows_so (the_row K V) V c.ghost_name (name_if_ok (λ x. x.ghost_name) r)
        (λ w n. IfOk r (λ x. IsGot (λ key. Made key x.now) c.now place free w n))
        (λ n. OnErr r (n ≡ c.now))

    -- the reference that a result of two layers holds, if it holds one
    abbrev pub lent_in : {E G : Type 0} → Result (Result (MutBor V.Denot) E) G → Option (MutBor V.Denot)
    lent_in r = option_and_then result_ok (result_ok r)

    -- the same for a result of two layers: at either `Err` the cache stays as it is
    abbrev pub lends_tried : {E G : Type 0} → Option ℕ → ℕ → (K.Denot → V.Denot → Type 0) → Result (Result (MutBor V.Denot) E) G → Fml
    lends_tried place free Made r =
        LendsSo (the_row K V) V c (lent_in r)
        (λ n w. IfSome (lent_in r) (λ x. IsGot (λ key. Made key x.now) c.now place free w n))
        (λ n. IfNone (lent_in r) (n ≡ c.now))
