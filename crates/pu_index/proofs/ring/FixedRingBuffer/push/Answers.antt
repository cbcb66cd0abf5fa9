use Rattle.std.proofs.Common.{◌<◌, ap, arith}
use Rattle.pu_index.specs.FixedRing.{ring}
use Rattle.pu_index.proofs.Rings.{place_after, put_last}
use Rattle.pu_index.proofs.ring.FixedRingBuffer.push.Goals as goal

pub write-requires : goal.write-requires
write-requires g c =
    let r = c.self.inside in let h = c.self.invariant in let within = h.len.0 in let some : r.len < r.capacity = omega (arith, c.if-self.false) in
    place_after r h c.wrapped-end.result some c.wrapped-end.ensures

pub invariant_of-self : goal.invariant_of-self
invariant_of-self g c =
    let r = c.self.inside in let h = c.self.invariant in let within = h.len.0 in let some : r.len < r.capacity = omega (arith, c.if-self.false) in
    (put_last r h c.wrapped-end.result some c.wrapped-end.ensures c.args.value c.write.new.self c.write.ensures).0

pub returns-clause-pushed : goal.returns-clause-pushed
returns-clause-pushed g c =
    let r = c.self.inside in let h = c.self.invariant in let within = h.len.0 in let some : r.len < r.capacity = omega (arith, c.if-self.false) in
    rw (← c.self.view_is) (ap (λ xs. ring xs r.capacity) (put_last r h c.wrapped-end.result some c.wrapped-end.ensures c.args.value c.write.new.self c.write.ensures).1)
