-- One place more, and in the end all.
use Rattle.std.proofs.Common.{◌≡◌, Bool, add-one, ap, ◌∙◌, arith, slice_set, slice_index_or, subst}
use Rattle.ps_flow.proofs.Marking.{out_all, out_more}
use Rattle.ps_flow.proofs.marks.Marks.leave_out.Goals as goal

pub loop-place-preserved : goal.loop-place-preserved
loop-place-preserved c =
    let test = c.loop-place-test.true in
    let len = c.len-place-end.ensures in
    let i = c.loop-place.place in
    let m = c.index_mut.result.now in
    let here = subst (λ l. m ≡ slice_index_or l i m) c.loop-place.invariant c.index_mut.ensures.value in
    rw add-one (ap (λ l. slice_set l i (record m { in_phase = Bool.false })) c.loop-place.invariant ∙ out_more i c.args.self.now.list.items m (omega (arith, test, len)) here)

pub returns : goal.returns
returns c =
    let over = c.loop-place-test.false in
    let len = c.len-place-end.ensures in
    c.loop-place.invariant ∙ out_all c.loop-place.place 0 c.args.self.now.list.items (omega (arith, over, len))
