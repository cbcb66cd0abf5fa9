use Rattle.std.proofs.Common.{List, sym, subst, ◌∙◌, arith}
use Rattle.std.proofs.lemmas.List.{take_all}
use Rattle.ps_frame.proofs.Broadcasts.{broadcast_height-first, broadcast_height-ones}
use Rattle.ps_frame.specs.Frames.{AllOfHeight}
use Rattle.ps_frame.specs.Series.{Series}
use Rattle.ps_frame.proofs.frame.common_height.Goals as goal

pub returns-then-len-ne1 : goal.returns-then-len-ne1
returns-then-len-ne1 c =
    let other = c.if-len-ne1.true in
    let here = c.len.ensures in
    c.len-then-len-ne1.ensures
    ∙ sym (broadcast_height-first c.args.columns.now c.loop-column.column-index c.column-item.result c.loop-column.invariant (omega arith) c.column-item.is (λ one. other (here ∙ one)))

pub returns : goal.returns
returns c =
    let all = subst (λ (cs : List Series). AllOfHeight 1 cs) (take_all c.loop-column.column-index c.args.columns.now (omega arith)) c.loop-column.invariant in
    c.min.ensures ∙ sym (broadcast_height-ones c.args.columns.now all)
