use Rattle.std.proofs.Common.{◌∙◌}
use Rattle.ps_phys.proofs.Walking.{order-shown, started}
use Rattle.ps_phys.proofs.order.leaving_order.Goals as goal

pub returns-clause-order : goal.returns-clause-order
returns-clause-order c = λ f.
    let e =
    started c.args.phys.now.slots c.requires.whole c.args.root c.new.result.slots c.insert.new.self.slots c.new-2.result.items c.new-3.result.items c.run.new.self.left.items
    c.requires.root c.new.ensures c.in_ok-insert.ensures.updates c.new-2.ensures.items c.new-3.ensures.items c.in_ok-run.ensures.left in
    e.order ∙ order-shown f c.args.phys.now.slots c.args.root.0

pub returns-clause-there : goal.returns-clause-there
returns-clause-there c =
    let e =
    started c.args.phys.now.slots c.requires.whole c.args.root c.new.result.slots c.insert.new.self.slots c.new-2.result.items c.new-3.result.items c.run.new.self.left.items
    c.requires.root c.new.ensures c.in_ok-insert.ensures.updates c.new-2.ensures.items c.new-3.ensures.items c.in_ok-run.ensures.left in
    e.there
