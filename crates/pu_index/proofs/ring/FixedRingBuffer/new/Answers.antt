use Rattle.std.proofs.Common.{refl, ap, arith}
use Rattle.std.proofs.lemmas.Grind.{common_steps}
use Rattle.pu_index.specs.FixedRing.{ring}
use Rattle.pu_index.specs.declared.ring.FixedRingBuffer.TheInside.{Inside}
use Rattle.pu_index.proofs.Rings.{made}
use Rattle.pu_index.proofs.ring.FixedRingBuffer.new.Goals as goal

pub invariant_of-result : goal.invariant_of-result
invariant_of-result g c =
    let got = c.in_ok-places.ensures in let fits = (c.may_hold.ensures (grind (arith, common_steps))).1 in
    let r : Inside g.row.T.Denot = record { places = c.in_ok-places.places; capacity = c.args.capacity; start = 0; len = 0; deed = c.in_ok-places.deed; alloc = c.args.alloc } in
    (made r (got.1, got.2, got.3) got.0 fits refl refl).0

pub returns-clause-empty : goal.returns-clause-empty
returns-clause-empty g c =
    let got = c.in_ok-places.ensures in let fits = (c.may_hold.ensures (grind (arith, common_steps))).1 in
    let r : Inside g.row.T.Denot = record { places = c.in_ok-places.places; capacity = c.args.capacity; start = 0; len = 0; deed = c.in_ok-places.deed; alloc = c.args.alloc } in
    ap (λ xs. ring xs c.args.capacity) (made r (got.1, got.2, got.3) got.0 fits refl refl).1
