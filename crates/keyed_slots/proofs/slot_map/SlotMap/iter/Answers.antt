use Rattle.std.proofs.Common.{◌≡◌, rules}
use Rattle.keyed_slots.proofs.LiveLemmas.{live-found, live-complete, live-rise}
use Rattle.keyed_slots.proofs.slot_map.SlotMap.iter.Goals as goal

pub returns-clause-found : goal.returns-clause-found
returns-clause-found g c =
    let same : c.as_slice.result.now ≡ c.args.self.now.slots = search rules in
    rw same (live-found g.K.Key.number_of g.K.Key.key_of g.met.K.Key.number_of_key c.args.self.now.slots)

pub returns-clause-complete : goal.returns-clause-complete
returns-clause-complete g c =
    let same : c.as_slice.result.now ≡ c.args.self.now.slots = search rules in
    rw same (live-complete g.K.Key.number_of g.K.Key.key_of g.met.K.Key.key_of_number c.args.self.now.slots)

pub returns-clause-rise : goal.returns-clause-rise
returns-clause-rise g c =
    let same : c.as_slice.result.now ≡ c.args.self.now.slots = search rules in
    rw same (live-rise g.K.Key.number_of g.K.Key.key_of g.met.K.Key.number_of_key c.args.self.now.slots)
