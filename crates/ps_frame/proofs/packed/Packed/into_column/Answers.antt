use Rattle.std.proofs.Common.{◌≡◌, List, length, ap, subst, sym, ◌∙◌, arith}
use Rattle.std.specs.Prelude.{IfOk}
use Rattle.ps_frame.proofs.Packing.{picked-in_order}
use Rattle.ps_frame.specs.Series.{Series}
use Rattle.ps_frame.specs.declared.value.Value.{Value}
use Rattle.ps_frame.proofs.packed.Packed.into_column.Goals as goal

pub returns-then-are_in_order-clause-made : goal.returns-then-are_in_order-clause-made
returns-then-are_in_order-clause-made c =
    let a = c.self.inside in
    let ordered = rw c.as_slice.ensures.value at (c.are_in_order.ensures c.if-are_in_order.true) in
    let count : length a.few.items ≡ length a.places.items = omega arith in
    let same =
    ap (λ (values : List Value). let t : Series = record { kind = a.dtype; values = values } in t) (sym (picked-in_order a.few.items a.places.items ordered count))
    ∙ c.self.view_is in
    subst (λ (t : Series). IfOk c.of_values.result (λ column. column ≡ t)) same c.of_values.ensures.made
