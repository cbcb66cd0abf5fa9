use Rattle.ps_phys.proofs.order.Walk.run.Goals as goal

pub loop-next-preserved : goal.loop-next-preserved
loop-next-preserved c = λ root u.
    let f = c.in-Ok-Some.ensures.found root (c.loop-next.invariant root u) in
    rw c.in-Ok-Some.field-0-is at f

pub returns-in-Ok-None-clause-left : goal.returns-in-Ok-None-clause-left
returns-in-Ok-None-clause-left c = λ root u.
    let f = c.in-Ok-None.ensures.found root (c.loop-next.invariant root u) in
    rw c.in-Ok-None.field-0-is at f
