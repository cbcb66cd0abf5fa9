-- The reader is that of the world's pipe.
use Rattle.std.proofs.Common.{rules, ◌≡◌, ◌∙◌, ap, cond, nat_eq, None, Some}
use Rattle.std.specs.Prelude.{◌&&◌, count_by}
use Rattle.flow_moves.proofs.Parts.{graph_linked, graph_wires}
use Rattle.flow_moves.proofs.OnePlace.{pipe_there, same_wire, small_input}
use Rattle.flow_moves.proofs.places.places_kept.Goals as goal
use Rattle.keyed_slots.specs.Slots.{value_at}
use Rattle.ps_ports.specs.Wires.{Wire}
use Rattle.ps_turns.specs.Tasks.{Piece}
use Rattle.ps_world.specs.World.{gives_on}

pub returns-in-Some : goal.returns-in-Some
returns-in-Some g c = λ F w p stands may at.
    let h = c.args.world.now in
    let graph = c.graph.result.now in
    let linked = graph_linked g.N.RunNode.Has w h stands graph c.graph.ensures in
    let wires = graph_wires g.N.RunNode.Has w h stands graph c.graph.ensures in
    let there : value_at graph.pipes.slots c.args.key.0 ≡ Some c.in-Some.pipe.now = search rules in
    let wire = same_wire graph linked w.pipes wires c.args.key p at c.in-Some.pipe.now there in
    let reader = c.number.ensures ∙ ap (λ (v : Wire). v.receiver) wire in
    let input = ap (λ (v : Wire). v.input) wire in
    c.kept_by.ensures F w stands may (small_input graph linked c.args.key.0 c.in-Some.pipe.now there)
    ∙ (λ i. cond (gives_on w (reader i)) 0 (count_by (λ (q : Piece). nat_eq q.node (reader i) && nat_eq q.input (input i)) w.outs))

pub returns-in-None : goal.returns-in-None
returns-in-None g c = λ F w p stands may at.
    let h = c.args.world.now in
    let graph = c.graph.result.now in
    let linked = graph_linked g.N.RunNode.Has w h stands graph c.graph.ensures in
    let wires = graph_wires g.N.RunNode.Has w h stands graph c.graph.ensures in
    let none : value_at graph.pipes.slots c.args.key.0 ≡ None = search rules in
    absurd (pipe_there graph linked w.pipes wires c.args.key p at none)
