use Rattle.std.proofs.Common.{refl, Ok}
use Rattle.pu_map.specs.Cache.{key_hash, place_of, place_to_fill, AnswersCopy}
use Rattle.pu_map.proofs.CacheLemmas.{got}
use Rattle.pu_map.proofs.cache.FastFixedCache.try_got_with.Goals as goal

pub returns-in-Ok : goal.returns-in-Ok
returns-in-Ok g c =
    let old = c.args.self.now in
    let key = c.args.key.now in
    let hash = key_hash (g.K.Hash.hash_input key) in
    let made : g.row.K.Denot → g.row.V.Denot → Type 0 = λ copy value. AnswersCopy g.K.Clone.is_clone g.F.FnOnce c.args.f key copy (Ok value) in
    let lent = got made old c.try_place_with.new.self (place_to_fill g.K.PartialEq.eq old.slots hash key) c.in-Ok.place c.value_mut.result.now c.value_mut.ensures.value _ (place_of g.K.PartialEq.eq old.slots hash key) c.in-Ok.ensures.hit c.in-Ok.ensures.filled in
    ((refl, lent.0, tt), record { writes_back = tt; value = lent.1; refused = λ e is. absurd cc; found = λ _. refl })
