use Rattle.std.proofs.Common.{arith}
use Rattle.ps_multiplexers.proofs.Finished.{finished, there-grown}
use Rattle.ps_multiplexers.proofs.multiplexers.insert_for.Goals as goal

pub returns-clause-nodes : goal.returns-clause-nodes
returns-clause-nodes c = λ f root v.
    let e = c.in_ok-readers.ensures in
    finished f c.args.phys.now.slots c.readers_of.new.phys.slots c.rewire_all.new.phys.slots root c.args.taken.now c.args.read.now c.in_ok-readers.readers.slots v e.noted (e.nodes f) e.few (c.rewire_all.ensures.nodes f)

pub returns-clause-inserts : goal.returns-clause-inserts
returns-clause-inserts c = let same = c.rewire_all.ensures.count in let few = c.in_ok-readers.ensures.inserts in omega (arith, same, few)

pub returns-clause-there : goal.returns-clause-there
returns-clause-there c = λ n h. c.rewire_all.ensures.there n (there-grown c.args.phys.now.slots c.readers_of.new.phys.slots n c.in_ok-readers.ensures.grown h)

pub returns-clause-filled : goal.returns-clause-filled
returns-clause-filled c = λ n low high. let same = c.rewire_all.ensures.count in c.rewire_all.ensures.there n (c.in_ok-readers.ensures.filled n low (omega (arith, same, high)))
