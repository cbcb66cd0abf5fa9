-- What the node's keys tell is what its wires tell.
use Rattle.std.proofs.Common.{◌≡◌, Some, ◌∙◌, rules}
use Rattle.keyed_slots.specs.Slots.{value_at}
use Rattle.ps_graph.proofs.Scanning.{node_intensive}
use Rattle.ps_graph.proofs.graph.Graph.is_intensive.Goals as goal

pub returns-in-Some : goal.returns-in-Some
returns-in-Some g c =
    let stands : value_at c.args.self.now.nodes.slots c.args.number ≡ Some c.in-Some.node.now = search rules in
    c.is_memory_intensive_pipeline_blocker.ensures ∙ node_intensive c.args.self.now c.requires.linked c.args.number c.in-Some.node.now stands g.N.ComputeNode.intensive
