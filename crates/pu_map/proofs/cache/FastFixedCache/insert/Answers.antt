use Rattle.std.proofs.Common.{◌≡◌, Some, refl, sym, ap, ◌∙◌}
use Rattle.std.specs.Option.{option_map}
use Rattle.pu_map.specs.Cache.{CacheState, slot_at, key_hash, place_to_fill, counter_after, with_value, filled}
use Rattle.pu_map.proofs.CacheLemmas.{value-refilled, slot_at-set}
use Rattle.pu_map.proofs.cache.FastFixedCache.insert.Goals as goal

pub returns : goal.returns
returns g c =
    let old = c.args.self.now in
    let key = c.args.key in
    let value = c.args.value in
    let i = c.place_to_fill-place.result in
    let within = c.place_to_fill-place.ensures.within in
    let place : i ≡ place_to_fill g.K.PartialEq.eq old.slots (key_hash (g.K.Hash.hash_input key)) key = c.place_to_fill-place.ensures.place in
    let held : option_map (λ s. s.value) (slot_at (filled old i key value).slots i) ≡ Some value =
    ap (option_map (λ s. s.value)) (slot_at-set old.slots i (Some (record { last_access = old.counter; key = key; value = value })) within) in
    let read = sym c.value_mut.ensures.value ∙ ap (λ (s : CacheState _ _). option_map (λ s. s.value) (slot_at s.slots i)) c.fill.ensures ∙ held in (
      (
        refl,
        λ w. ap (λ s. with_value s i w) c.fill.ensures
            ∙ ap (λ slots. record { slots = slots; counter = counter_after old.counter }) (value-refilled old.slots i (record { last_access = old.counter; key = key; value = value }) w within)
            ∙ ap (λ j. filled old j key w) place,
      ),
      record { fills = tt; value = cc },
    )
