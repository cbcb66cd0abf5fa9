use Rattle.std.proofs.Common.{refl}
use Rattle.keyed_slots.specs.Slots.{value_at}
use Rattle.ps_multiplexers.proofs.Visited.{left-new, there-new, unknown-is, waits-known, waits-new}
use Rattle.ps_multiplexers.proofs.visits.Visits.push_if_new.Goals as goal

pub returns-then-contains_key-clause-waits : goal.returns-then-contains_key-clause-waits
returns-then-contains_key-clause-waits c = λ w waits. waits-known c.args.self.now.pushed.slots c.args.self.now.waiting.items w c.args.node.0 waits (c.if-contains_key.ensures.0 refl)

pub returns-clause-waits : goal.returns-clause-waits
returns-clause-waits c = λ w waits.
    waits-new c.args.self.now.pushed.slots c.insert.new.self.slots c.args.self.now.waiting.items c.push.new.self.items w c.args.node waits
    (unknown-is (value_at c.args.self.now.pushed.slots c.args.node.0) c.if-contains_key.ensures.1) c.in_ok-insert.ensures.updates c.in_ok-push.ensures.items

pub returns-clause-left : goal.returns-clause-left
returns-clause-left c = λ count within.
    left-new c.args.self.now.pushed.slots c.insert.new.self.slots c.args.self.now.waiting.items c.push.new.self.items c.args.node count
    (unknown-is (value_at c.args.self.now.pushed.slots c.args.node.0) c.if-contains_key.ensures.1) c.in_ok-insert.ensures.updates c.in_ok-push.ensures.items within

pub returns-clause-there : goal.returns-clause-there
returns-clause-there c = λ slots here all. there-new slots c.args.self.now.waiting.items c.push.new.self.items c.args.node here all c.in_ok-push.ensures.items
