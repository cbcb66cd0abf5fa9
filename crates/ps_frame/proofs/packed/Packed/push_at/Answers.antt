use Rattle.ps_frame.proofs.Packing.{packed-again}
use Rattle.ps_frame.proofs.packed.Packed.push_at.Goals as goal

pub returns-in_ok-push-in-Some-clause-taken : goal.returns-in_ok-push-in-Some-clause-taken
returns-in_ok-push-in-Some-clause-taken c =
    let a = c.self.inside in
    let there = rw c.as_slice.ensures.value at c.in-Some.ensures in
    packed-again a.dtype a.few.items a.places.items c.args.self.now c.args.value.now c.push.new.self.items c.in-Some.place c.self.view_is there c.in_ok-push-in-Some.ensures.items
