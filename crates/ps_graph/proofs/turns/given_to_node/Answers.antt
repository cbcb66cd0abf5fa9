-- The keys name the node's pipes, so what is read by ports is what the node is given.
use Rattle.ps_graph.proofs.Reading.{alike_inputs, alike_outputs, at_inputs, at_outputs, inputs_given, outputs_given}
use Rattle.ps_graph.proofs.turns.given_to_node.Goals as goal

pub given-requires-clause-there : goal.given-requires-clause-there
given-requires-clause-there c = at_inputs c.args._number c.args.inputs.now c.args.outputs.now c.args.pipes.now.slots c.requires.keys

pub given-requires-clause-alike : goal.given-requires-clause-alike
given-requires-clause-alike c = alike_inputs c.args._number c.args.inputs.now c.args.outputs.now c.args.pipes.now.slots c.requires.keys

pub given-requires-2-clause-there : goal.given-requires-2-clause-there
given-requires-2-clause-there c = at_outputs c.args._number c.args.inputs.now c.args.outputs.now c.args.pipes.now.slots c.requires.keys

pub given-requires-2-clause-alike : goal.given-requires-2-clause-alike
given-requires-2-clause-alike c = alike_outputs c.args._number c.args.inputs.now c.args.outputs.now c.args.pipes.now.slots c.requires.keys

pub returns-clause-given : goal.returns-clause-given
returns-clause-given c =
    let ins = inputs_given c.args._number c.args.inputs.now c.args.outputs.now c.args.pipes.now.slots c.requires.keys c.in_ok-recv.recv.items c.in_ok-recv.ensures.long c.in_ok-recv.ensures.states in
    let outs = outputs_given c.args._number c.args.inputs.now c.args.outputs.now c.args.pipes.now.slots c.requires.keys c.in_ok-send.send.items c.in_ok-send.ensures.long c.in_ok-send.ensures.states in
    λ i. record { inputs = ins i; outputs = outs i }
