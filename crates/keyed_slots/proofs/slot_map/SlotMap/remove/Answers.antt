use Rattle.std.proofs.Common.{◌≡◌, None, set, rules, arith, ap, ◌∙◌}
use Rattle.std.proofs.lemmas.List.{set_past}
use Rattle.keyed_slots.specs.Slots.{live}
use Rattle.keyed_slots.proofs.SlotLemmas.{live-removed}
use Rattle.keyed_slots.proofs.slot_map.SlotMap.remove.Goals as goal

pub returns-then-number-len-clause-live : goal.returns-then-number-len-clause-live
returns-then-number-len-clause-live g c =
    let removed : c.args.self.now.slots ≡ set c.args.self.now.slots (g.K.Key.number_of c.args.key) None = grind (arith, set_past) in
    ap (live g.K.Key.key_of) removed
    ∙ live-removed g.K.Key.number_of g.K.Key.key_of g.met.K.Key.number_of_key c.args.self.now.slots (g.K.Key.number_of c.args.key)

pub returns-then-is_some-clause-live : goal.returns-then-is_some-clause-live
returns-then-is_some-clause-live g c =
    let removed : set c.self.inside.slots.items c.number-number.result c.take-value.new.self ≡ set c.args.self.now.slots (g.K.Key.number_of c.args.key) None = search rules in
    ap (live g.K.Key.key_of) removed
    ∙ live-removed g.K.Key.number_of g.K.Key.key_of g.met.K.Key.number_of_key c.args.self.now.slots (g.K.Key.number_of c.args.key)

pub returns-else-is_some-clause-live : goal.returns-else-is_some-clause-live
returns-else-is_some-clause-live g c =
    let removed : set c.self.inside.slots.items c.number-number.result c.take-value.new.self ≡ set c.args.self.now.slots (g.K.Key.number_of c.args.key) None = search rules in
    ap (live g.K.Key.key_of) removed
    ∙ live-removed g.K.Key.number_of g.K.Key.key_of g.met.K.Key.number_of_key c.args.self.now.slots (g.K.Key.number_of c.args.key)
