use Rattle.keyed_slots.proofs.LiveLemmas.{keys-found, keys-complete, keys-rise, differ-from_rise}
use Rattle.keyed_slots.proofs.slot_map.SlotMap.keys.Goals as goal

pub returns-clause-found : goal.returns-clause-found
returns-clause-found g c = rw c.iter.ensures.list (keys-found g.K.Key.number_of g.K.Key.key_of g.met.K.Key.number_of_key c.args.self.now.slots)

pub returns-clause-complete : goal.returns-clause-complete
returns-clause-complete g c = rw c.iter.ensures.list (keys-complete g.K.Key.number_of g.K.Key.key_of g.met.K.Key.key_of_number c.args.self.now.slots)

pub returns-clause-rise : goal.returns-clause-rise
returns-clause-rise g c = rw c.iter.ensures.list (keys-rise g.K.Key.number_of g.K.Key.key_of g.met.K.Key.number_of_key c.args.self.now.slots)

pub returns-clause-differ : goal.returns-clause-differ
returns-clause-differ g c =
    rw c.iter.ensures.list
    (differ-from_rise g.K.Key.number_of _ (keys-rise g.K.Key.number_of g.K.Key.key_of g.met.K.Key.number_of_key c.args.self.now.slots))
