use Rattle.std.proofs.Common.{ap, ◌∙◌, w64}
use Rattle.std.specs.Prelude.{Some}
use Rattle.std.proofs.lemmas.Int.{to_z-of_z}
use Rattle.ps_frame.proofs.Packing.{packed-again}
use Rattle.ps_frame.specs.declared.value.Value.TheVariants as val
use Rattle.ps_frame.proofs.packed.Packed.push_number.Goals as goal

pub returns-in_ok-push-in-Some-clause-taken : goal.returns-in_ok-push-in-Some-clause-taken
returns-in_ok-push-in-Some-clause-taken c =
    let a = c.self.inside in
    let there = rw c.as_slice.ensures.value at c.in-Some.ensures in
    let number = to_z-of_z w64 c.args.number c.ranges.number in
    packed-again a.dtype a.few.items a.places.items c.args.self.now (val.Int64 c.args.number) c.push.new.self.items c.in-Some.place c.self.view_is (there ∙ ap (λ z. Some (val.Int64 z)) number) c.in_ok-push-in-Some.ensures.items
