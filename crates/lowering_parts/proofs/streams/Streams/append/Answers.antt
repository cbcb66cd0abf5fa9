use Rattle.std.proofs.Common.{ap, sym, ◌∙◌}
use Rattle.lowering_parts.proofs.StreamLemmas.{placed, placed_already, places_stay}
use Rattle.lowering_parts.proofs.streams.Streams.append.Goals as goal
use Rattle.lowering_parts.proofs.streams.Streams.append.Goals.{then-not-contains_key+in_ok-_none, else-not-contains_key}

pub invariant_of-self-2 : goal.invariant_of-self-2
invariant_of-self-2 c =
    elim c.if-not-contains_key.branch [
      | then-not-contains_key+in_ok-_none w ↦
          placed c.self.inside.list.items c.if-not-contains_key.self-inside.list.items c.push_reserved.new.self.items c.args.stream c.self.inside.places w.insert.new.self c.if-not-contains_key.self-inside.places c.number-number.result w.len.result
          c.number-number.ensures w.in_ok-_none.ensures.updates c.self.invariant (ap (λ i. i.list.items) w.self-inside-is ∙ c.reserve.ensures.items) c.push_reserved.ensures.items (ap (λ i. i.places) w.self-inside-is)
      | else-not-contains_key w ↦
          placed_already c.self.inside.list.items c.if-not-contains_key.self-inside.list.items c.push_reserved.new.self.items c.args.stream c.self.inside.places c.if-not-contains_key.self-inside.places c.number-number.result
          c.number-number.ensures (sym c.contains_key.ensures ∙ w.if-not-contains_key.false) c.self.invariant (ap (λ i. i.list.items) w.self-inside-is ∙ c.reserve.ensures.items) c.push_reserved.ensures.items (ap (λ i. i.places) w.self-inside-is)
    ]

pub invariant_of-self-in_err-_none : goal.invariant_of-self-in_err-_none
invariant_of-self-in_err-_none c =
    places_stay c.self.inside.list.items c.reserve.new.self.items c.self.inside.places c.insert.new.self c.self.invariant c.reserve.ensures.items c.in_err-_none.ensures.err
