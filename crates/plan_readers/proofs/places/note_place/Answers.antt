use Rattle.std.proofs.Common.{refl}
use Rattle.ps_phys.proofs.Places.{placed-known, placed-new}
use Rattle.plan_readers.proofs.places.note_place.Goals as goal

pub returns-then-contains_key-clause-placed : goal.returns-then-contains_key-clause-placed
returns-then-contains_key-clause-placed c = λ before size placed. placed-known before c.args.places.now.slots c.args.key.0 placed (c.if-contains_key.ensures.0 refl)

pub returns-clause-placed : goal.returns-clause-placed
returns-clause-placed c = λ before size placed.
    placed-new before c.args.places.now.slots c.insert.new.self.slots c.args.key.0 c.args.place placed c.if-contains_key.ensures.1 size c.in_ok-insert.ensures.updates
