use Rattle.std.proofs.Common.{subst, sym}
use Rattle.ps_survey.specs.Search.{Ended, IsOrderFrom}
use Rattle.ps_survey.proofs.Fresh.{order-of}
use Rattle.ps_survey.proofs.search.order_from.Goals as goal

pub returns-in-Ok-visit-clause-found : goal.returns-in-Ok-visit-clause-found
returns-in-Ok-visit-clause-found g c =
    let next = g.N.Names.named c.args.names.now in
    let count = g.N.Names.count c.args.names.now in
    let e = c.in-Ok-visit.ensures in
    let new = c.visit.new.self in
    let f = subst (λ before. Ended next c.args.start before new.order.items new.marks.items) c.in-Ok.ensures.order e.found in
    subst (λ order. IsOrderFrom next count c.args.start order) (sym c.into_order.ensures) (order-of next count c.args.start new.order.items new.marks.items e.size f)
