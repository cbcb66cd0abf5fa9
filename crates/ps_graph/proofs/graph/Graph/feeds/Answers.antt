-- What the node's keys tell is what its wires tell.
use Rattle.std.proofs.Common.{◌≡◌, Some, ◌∙◌, rules}
use Rattle.keyed_slots.specs.Slots.{value_at}
use Rattle.ps_graph.specs.Running.{feeds_flagged}
use Rattle.ps_graph.proofs.Scanning.{node_feeds}
use Rattle.ps_graph.proofs.graph.Graph.feeds.Goals as goal

pub returns-in-Some : goal.returns-in-Some
returns-in-Some g c =
    let stands : value_at c.args.self.now.nodes.slots c.args.number ≡ Some c.in-Some.node.now = search rules in
    c.feeds.ensures ∙ node_feeds c.args.self.now c.requires.linked c.args.number c.in-Some.node.now stands (feeds_flagged c.args.flags.now)
