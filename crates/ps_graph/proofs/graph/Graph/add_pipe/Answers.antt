-- One pipe more: what was linked still is.
use Rattle.std.proofs.Common.{◌≡◌, ◌+◌, length, arith}
use Rattle.ps_graph.proofs.Growing.{linked_more, nodes_same, origins_same, pipes_count, sender_stands}
use Rattle.ps_graph.proofs.graph.Graph.add_pipe.Goals as goal

pub returns-clause-linked : goal.returns-clause-linked
returns-clause-linked g c =
    let sender = sender_stands c.args.self.now c.requires.linked c.args.sender.0 c.requires.sender in
    let named = rw sender.1 at c.in_ok-add_output.ensures.named in
    let long : length c.insert.new.self.slots ≡ length c.args.self.now.pipes.slots + 1 = pipes_count c.args.self.now.pipes.slots c.insert.new.self.slots _ c.in_ok-pipe.ensures.added in
    let room = c.requires.room in
    linked_more c.args.self.now (record { nodes = c.add_output.new.nodes; pipes = c.insert.new.self }) c.requires.linked c.args.sender c.args.receiver c.args.port c.args.input c.in_ok-pipe.pipe sender.0 c.requires.sender c.requires.receiver (omega (arith, long, room))
    c.in_ok-pipe.ensures.key c.in_ok-pipe.ensures.added sender.1 named c.requires.input

pub returns-clause-nodes : goal.returns-clause-nodes
returns-clause-nodes g c =
    let sender = sender_stands c.args.self.now c.requires.linked c.args.sender.0 c.requires.sender in
    let named = rw sender.1 at c.in_ok-add_output.ensures.named in
    let long : length c.insert.new.self.slots ≡ length c.args.self.now.pipes.slots + 1 = pipes_count c.args.self.now.pipes.slots c.insert.new.self.slots _ c.in_ok-pipe.ensures.added in
    let room = c.requires.room in
    nodes_same c.args.self.now (record { nodes = c.add_output.new.nodes; pipes = c.insert.new.self }) c.requires.linked c.args.sender c.args.receiver c.args.port c.args.input c.in_ok-pipe.pipe sender.0 c.requires.sender c.requires.receiver (omega (arith, long, room))
    c.in_ok-pipe.ensures.key c.in_ok-pipe.ensures.added sender.1 named c.requires.input

pub returns-clause-origins : goal.returns-clause-origins
returns-clause-origins g c =
    let sender = sender_stands c.args.self.now c.requires.linked c.args.sender.0 c.requires.sender in
    let named = rw sender.1 at c.in_ok-add_output.ensures.named in
    let long : length c.insert.new.self.slots ≡ length c.args.self.now.pipes.slots + 1 = pipes_count c.args.self.now.pipes.slots c.insert.new.self.slots _ c.in_ok-pipe.ensures.added in
    let room = c.requires.room in
    origins_same c.args.self.now (record { nodes = c.add_output.new.nodes; pipes = c.insert.new.self }) c.requires.linked c.args.sender c.args.receiver c.args.port c.args.input c.in_ok-pipe.pipe sender.0 c.requires.sender c.requires.receiver (omega (arith, long, room))
    c.in_ok-pipe.ensures.key c.in_ok-pipe.ensures.added sender.1 named c.requires.input
