use Rattle.std.proofs.Common.{refl}
use Rattle.pu_map.specs.Cache.{key_hash, place_of, place_to_fill, AnswersCopy}
use Rattle.pu_map.proofs.CacheLemmas.{got}
use Rattle.pu_map.proofs.cache.FastFixedCache.get_or_insert_with.Goals as goal

pub returns : goal.returns
returns g c =
    let old = c.args.self.now in
    let key = c.args.key.now in
    let hash = key_hash (g.K.Hash.hash_input key) in
    let made : g.row.K.Denot → g.row.V.Denot → Type 0 = λ copy value. AnswersCopy g.K.Clone.is_clone g.F.FnOnce c.args.f key copy value in
    let lent = got made old c.place_with.new.self (place_to_fill g.K.PartialEq.eq old.slots hash key) c.in_ok-place.place c.value_mut.result.now c.value_mut.ensures.value _ (place_of g.K.PartialEq.eq old.slots hash key) c.in_ok-place.ensures.hit c.in_ok-place.ensures.filled in
    ((refl, lent.0, tt), record { writes_back = tt; value = lent.1; found = λ _. refl; memory = tt })
