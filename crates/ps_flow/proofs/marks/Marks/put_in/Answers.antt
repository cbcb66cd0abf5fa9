-- A mark is set.
use Rattle.std.proofs.Common.{◌≡◌, ◌∙◌, ◌+◌, ◌++◌, ◌∷◌, [], Bool, ap, arith, length, slice_index_or, slice_set, subst}
use Rattle.ps_flow.proofs.Marking.{marks_long, put_mark, put_past}
use Rattle.ps_flow.proofs.marks.Marks.put_in.Goals as goal
use Rattle.ps_flow.specs.Marked.{phase_marks}

pub returns-then-place-len : goal.returns-then-place-len
returns-then-place-len c = λ ms ns is.
    let test = c.if-place-len.true in
    let len = c.len.ensures in
    let long = ap length is ∙ marks_long ns 0 ms in
    let m = c.index_mut.result.now in
    let whole : 0 + c.args.place ≡ c.args.place = omega arith in
    let here = subst (λ l. m ≡ slice_index_or l c.args.place m) is c.index_mut.ensures.value in
    ap (λ l. slice_set l c.args.place (record m { in_phase = Bool.true })) is ∙ put_mark ns 0 c.args.place ms m (omega (arith, test, len, long)) here ∙ ap (λ j. phase_marks (ns ++ j ∷ []) 0 ms) whole

pub returns-else-place-len : goal.returns-else-place-len
returns-else-place-len c = λ ms ns is.
    let test = c.if-place-len.false in
    let len = c.len.ensures in
    let long = ap length is ∙ marks_long ns 0 ms in
    is ∙ put_past ns c.args.place ms (omega (arith, test, len, long))
