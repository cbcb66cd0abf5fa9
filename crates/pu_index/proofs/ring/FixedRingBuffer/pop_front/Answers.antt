use Rattle.std.proofs.Common.{arith}
use Rattle.pu_index.proofs.Rings.{first_place, first_taken}
use Rattle.pu_index.proofs.ring.FixedRingBuffer.pop_front.Goals as goal

pub read-item-requires : goal.read-item-requires
read-item-requires g c = first_place c.self.inside c.self.invariant (omega (arith, c.if-self-eq0.false))

pub invariant_of-self : goal.invariant_of-self
invariant_of-self g c =
    (first_taken c.self.inside c.self.invariant (omega (arith, c.if-self-eq0.false)) c.read-item.result c.read-item.new.self c.wrapped-self-inside.result c.read-item.ensures.value c.read-item.ensures.slots c.wrapped-self-inside.ensures).0

pub returns-clause-items : goal.returns-clause-items
returns-clause-items g c =
    rw (← c.self.view_is) ((first_taken c.self.inside c.self.invariant (omega (arith, c.if-self-eq0.false)) c.read-item.result c.read-item.new.self c.wrapped-self-inside.result c.read-item.ensures.value c.read-item.ensures.slots c.wrapped-self-inside.ensures).1)
