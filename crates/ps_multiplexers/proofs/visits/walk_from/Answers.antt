use Rattle.ps_multiplexers.proofs.Visited.{root-waits, started}
use Rattle.ps_multiplexers.proofs.visits.walk_from.Goals as goal

pub run-requires-clause-there : goal.run-requires-clause-there
run-requires-clause-there c = root-waits c.args.phys.now.slots c.args.root c.new-2.result.items c.push.new.self.items c.requires.root c.new-2.ensures.items c.in_ok-push.ensures.items

pub returns-clause-visited : goal.returns-clause-visited
returns-clause-visited c =
    c.in_ok-run.ensures.visited c.args.root.0
    (started c.args.phys.now.slots c.args.root c.new.result.slots c.insert.new.self.slots c.new-2.result.items c.push.new.self.items c.new-3.result.items c.new-4.result.items
    c.requires.root c.new.ensures c.in_ok-insert.ensures.updates c.new-2.ensures.items c.in_ok-push.ensures.items c.new-3.ensures.items c.new-4.ensures.items)
