-- The node is there.
use Rattle.std.proofs.Common.{rules, ◌≡◌, None}
use Rattle.flow_moves.proofs.node_moves.move_at_work.Goals as goal
use Rattle.keyed_slots.specs.Slots.{value_at}
use Rattle.ps_flow.proofs.Stepping.{inside, is_there}

pub returns-in-Some : goal.returns-in-Some
returns-in-Some g c = c.move_by.ensures

pub returns-in-None : goal.returns-in-None
returns-in-None g c = λ F w x stands may at uncut.
    let h = c.args.world.now in
    let none : value_at h.graph.nodes.slots c.args.node ≡ None = search rules in
    absurd (is_there h.graph stands.linked w.pipes stands.wires c.args.node (inside g.N.RunNode.Has w h stands c.args.node x at.0) none)
