use Rattle.std.proofs.Common.{◌∙◌, ap, refl, arith, rules}
use Rattle.std.specs.Prelude.{pos, ◌+ℤ◌, ◌≤ℤ◌}
use Rattle.std.proofs.lemmas.Int.{ints, to_z-of_z}
use Rattle.std.specs.Int.{w64}
use Rattle.ps_expr_eval.specs.Held.{values_of}
use Rattle.ps_expr_eval.proofs.WholeOperands.{slice-keeps}
use Rattle.ps_frame.specs.Eval.{clipped, slice_start}
use Rattle.ps_expr_eval.proofs.whole.slice_whole.Goals as goal

pub returns-clause-cells : goal.returns-clause-cells
returns-clause-cells c =
    let least : pos 0 ≤ℤ c.args.length = first_of (omega (arith, ints), search rules, grind (arith, ints)) in
    let offset = to_z-of_z w64 c.args.offset c.ranges.offset in
    let length = to_z-of_z w64 c.args.length c.ranges.length in
    let from = rw offset at c.slice_bounds-from.ensures.from in
    let to = rw (offset, length) at c.slice_bounds-from.ensures.to in
    slice-keeps _ (values_of c.args.values.now) (values_of c.in_ok-values.values) c.args.offset c.args.length _ _ least refl refl c.in_ok-values.ensures
    (from ∙ ap (λ n. clipped n (slice_start n c.args.offset)) c.len.ensures)
    (to ∙ ap (λ n. clipped n (slice_start n c.args.offset +ℤ c.args.length)) c.len.ensures)
