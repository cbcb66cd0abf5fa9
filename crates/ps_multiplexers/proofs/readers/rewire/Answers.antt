use Rattle.std.proofs.Common.{refl}
use Rattle.ps_multiplexers.proofs.Rewiring.{rewired-none, rewired-some, set-there}
use Rattle.ps_multiplexers.proofs.readers.rewire.Goals as goal

pub returns-in-Some-clause-through : goal.returns-in-Some-clause-through
returns-in-Some-clause-through c = λ f number before ports fits.
    let e = c.go_through_node.ensures in
    rewired-some f c.args.phys.now.slots _ c.args.node.0 c.in-Some.reader.now c.go_through_node.new.node number before c.go_through_node.new.readers.slots c.in-Some.ensures.value refl
    e.schema e.origin (e.kind f) (e.through number before ports) fits

pub returns-in-None-clause-through : goal.returns-in-None-clause-through
returns-in-None-clause-through c = λ f number before ports fits. rewired-none f c.args.phys.now.slots c.args.node.0 number before c.args.readers.now.slots c.in-None.ensures.value ports

pub returns-in-Some-clause-there : goal.returns-in-Some-clause-there
returns-in-Some-clause-there c = λ n h. set-there c.args.phys.now.slots c.args.node.0 n c.go_through_node.new.node h
