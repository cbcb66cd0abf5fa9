-- One place more, and in the end all.
use Rattle.std.proofs.Common.{add-one, ap, ◌∙◌, arith, slice_set}
use Rattle.ps_flow.proofs.Marking.{end_all, end_more}
use Rattle.ps_flow.proofs.marks.Marks.end.Goals as goal
use Rattle.ps_flow.specs.Marked.{unmarked}

pub loop-place-preserved : goal.loop-place-preserved
loop-place-preserved c =
    let test = c.loop-place-test.true in
    let len = c.len-place-end.ensures in
    let i = c.loop-place.place in
    rw add-one (ap (λ l. slice_set l i unmarked) c.loop-place.invariant ∙ end_more i c.args.self.now.list.items (omega (arith, test, len)))

pub returns : goal.returns
returns c =
    let over = c.loop-place-test.false in
    let len = c.len-place-end.ensures in
    c.loop-place.invariant ∙ end_all c.loop-place.place c.args.self.now.list.items (omega (arith, over, len))
