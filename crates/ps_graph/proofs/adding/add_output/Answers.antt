-- The sender has the pipe as an output more.
use Rattle.std.proofs.Common.{◌≡◌, Some, rules}
use Rattle.keyed_slots.specs.Slots.{value_at}
use Rattle.ps_graph.proofs.Growing.{with_output}
use Rattle.ps_graph.proofs.adding.add_output.Goals as goal

pub returns-in-Some-clause-named : goal.returns-in-Some-clause-named
returns-in-Some-clause-named g c =
    let here : value_at c.args.nodes.now.slots c.args.sender.0 ≡ Some c.in-Some.node.now = search rules in
    with_output c.add_output.result c.args.nodes.now.slots c.args.sender.0 c.args.pipe c.in-Some.node.now c.add_output.new.self here c.add_output.ensures.outputs c.add_output.ensures.compute c.add_output.ensures.origin
    c.add_output.ensures.inputs
