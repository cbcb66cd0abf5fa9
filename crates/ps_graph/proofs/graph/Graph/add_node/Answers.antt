-- The pipes, and then the node with their keys.
use Rattle.std.proofs.Common.{refl, arith}
use Rattle.ps_graph.proofs.Growing.{node_linked, node_nodes, node_origins, pipes_count}
use Rattle.ps_graph.proofs.graph.Graph.add_node.Goals as goal

pub returns-clause-linked : goal.returns-clause-linked
returns-clause-linked g c =
    let long = pipes_count c.add_pipes.new.self.nodes.slots c.insert.new.self.slots _ c.in_ok-key.ensures.added in
    let room = c.requires.nodes in
    let count = c.in_ok-pipes.ensures.added.count in
    node_linked c.args.self.now c.add_pipes.new.self (record { nodes = c.insert.new.self; pipes = c.add_pipes.new.self.pipes }) _ c.in_ok-pipes.pipes.items c.in_ok-pipes.ensures.added
    (record { compute = c.args.node; origin = c.args.origin; inputs = c.in_ok-pipes.pipes; outputs = c.new.result }) refl c.new.ensures.items (omega (arith, long, room, count)) refl c.in_ok-key.ensures.added

pub returns-clause-nodes : goal.returns-clause-nodes
returns-clause-nodes g c =
    let long = pipes_count c.add_pipes.new.self.nodes.slots c.insert.new.self.slots _ c.in_ok-key.ensures.added in
    let room = c.requires.nodes in
    let count = c.in_ok-pipes.ensures.added.count in
    node_nodes c.args.self.now c.add_pipes.new.self (record { nodes = c.insert.new.self; pipes = c.add_pipes.new.self.pipes }) _ c.in_ok-pipes.pipes.items c.in_ok-pipes.ensures.added
    (record { compute = c.args.node; origin = c.args.origin; inputs = c.in_ok-pipes.pipes; outputs = c.new.result }) refl c.new.ensures.items (omega (arith, long, room, count)) refl c.in_ok-key.ensures.added

pub returns-clause-origins : goal.returns-clause-origins
returns-clause-origins g c =
    let long = pipes_count c.add_pipes.new.self.nodes.slots c.insert.new.self.slots _ c.in_ok-key.ensures.added in
    let room = c.requires.nodes in
    let count = c.in_ok-pipes.ensures.added.count in
    node_origins c.args.self.now c.add_pipes.new.self (record { nodes = c.insert.new.self; pipes = c.add_pipes.new.self.pipes }) _ c.in_ok-pipes.pipes.items c.in_ok-pipes.ensures.added
    (record { compute = c.args.node; origin = c.args.origin; inputs = c.in_ok-pipes.pipes; outputs = c.new.result }) refl c.new.ensures.items (omega (arith, long, room, count)) refl c.in_ok-key.ensures.added
