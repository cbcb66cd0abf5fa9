use Rattle.std.proofs.Common.{◌∙◌, length, sym}
use Rattle.ps_multiplexers.proofs.Visited.{inputs-within, took}
use Rattle.ps_multiplexers.proofs.visits.Visits.take.Goals as goal

pub returns-clause-visiting : goal.returns-clause-visiting
returns-clause-visiting c = λ root v.
    let slots = c.args.phys.now.slots in
    let here = sym c.in-Some.ensures in
    let e = c.in_ok-read_inputs.ensures in
    took slots c.requires.whole c.args.node c.in-Some.entry.now here root c.args.self.now.pushed.slots c.read_inputs.new.self.pushed.slots c.args.self.now.waiting.items c.read_inputs.new.self.waiting.items
    c.args.self.now.taken.items c.read_inputs.new.self.taken.items c.args.self.now.read.items c.read_inputs.new.self.read.items
    e.waits (e.left (length slots) (inputs-within slots c.requires.whole c.args.node c.in-Some.entry.now here)) (e.there slots (c.requires.whole c.args.node.0 c.in-Some.entry.now here)) (e.taken ∙ c.in_ok-push.ensures.items) e.read v

pub returns-clause-waiting : goal.returns-clause-waiting
returns-clause-waiting c = λ all. c.in_ok-read_inputs.ensures.there c.args.phys.now.slots (c.requires.whole c.args.node.0 c.in-Some.entry.now (sym c.in-Some.ensures)) all

pub returns-clause-left : goal.returns-clause-left
returns-clause-left c = c.in_ok-read_inputs.ensures.left (length c.args.phys.now.slots) (inputs-within c.args.phys.now.slots c.requires.whole c.args.node c.in-Some.entry.now (sym c.in-Some.ensures))
