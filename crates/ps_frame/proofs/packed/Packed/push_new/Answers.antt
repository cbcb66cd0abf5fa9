use Rattle.std.proofs.Common.{◌≡◌, List, ℕ, length, ap, ◌∙◌, arith}
use Rattle.std.specs.Prelude.{Some}
use Rattle.ps_frame.proofs.Packing.{on_err, packed-new, packed-wider}
use Rattle.ps_frame.specs.Gathered.{picked}
use Rattle.ps_frame.specs.Series.{Series}
use Rattle.ps_frame.proofs.packed.Packed.push_new.Goals as goal

pub returns-in_err-push-2-clause-refused : goal.returns-in_err-push-2-clause-refused
returns-in_err-push-2-clause-refused c =
    let a = c.self.inside in
    let wide = c.push.new.self.items in
    let same =
    ap (λ (places : List ℕ). let t : Series = record { kind = a.dtype; values = picked (Some places) wide } in t) c.in_err-push-2.ensures.items
    ∙ packed-wider a.dtype a.few.items a.places.items c.args.self.now c.args.value wide c.self.view_is c.self.invariant.0 c.in_ok-push.ensures.items in
    on_err c.from_residual-in_err-push-2.result same

pub returns-clause-taken : goal.returns-clause-taken
returns-clause-taken c =
    let a = c.self.inside in
    let is : c.len-place.result ≡ length a.few.items = omega arith in
    packed-new a.dtype a.few.items a.places.items c.args.self.now c.args.value c.push.new.self.items c.push-2.new.self.items c.len-place.result c.self.view_is c.self.invariant.0 c.in_ok-push.ensures.items is c.in_ok-push-2.ensures.items
