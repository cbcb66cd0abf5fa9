use Rattle.std.proofs.Common.{◌≡◌, ◌+◌, Some, [], ◌∷◌, ◌++◌, length, rules, ap, ◌∙◌}
use Rattle.keyed_slots.specs.Slots.{live}
use Rattle.keyed_slots.proofs.SlotLemmas.{live_from-push}
use Rattle.keyed_slots.proofs.slot_map.SlotMap.insert.Goals as goal

pub returns-clause-live : goal.returns-clause-live
returns-clause-live g c =
    let key_of = g.K.Key.key_of in
    let added : c.push_reserved.new.self.items ≡ c.args.self.now.slots ++ Some c.args.value ∷ [] = search rules in
    let key : key_of (0 + length c.args.self.now.slots) ≡ c.from_number.result = search rules in
    ap (live key_of) added ∙ live_from-push key_of 0 c.args.self.now.slots c.args.value
    ∙ ap (λ k. live key_of c.args.self.now.slots ++ (k, c.args.value) ∷ []) key
