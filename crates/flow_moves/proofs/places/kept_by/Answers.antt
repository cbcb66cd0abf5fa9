-- What gives on keeps no place.
use Rattle.std.proofs.Common.{◌∙◌, ap, arith, cond, nat_eq, sym}
use Rattle.std.specs.Prelude.{◌&&◌, count_by}
use Rattle.flow_moves.proofs.Parts.{graph_linked, graph_wires, outs_out, pipes_shown}
use Rattle.flow_moves.proofs.OnePlace.{gives_same, outputs_one}
use Rattle.flow_moves.proofs.places.kept_by.Goals as goal
use Rattle.ps_flow.specs.Standing.{setting_of}
use Rattle.ps_turns.specs.Tasks.{Piece}
use Rattle.ps_world.specs.World.{shape_of}

pub returns-then-gives_on : goal.returns-then-gives_on
returns-then-gives_on g c = λ F w stands may few.
    let h = c.args.world.now in
    let shown = pipes_shown g.N.RunNode.Has w h stands c.pipes.result.now c.pipes.ensures in
    let linked = graph_linked g.N.RunNode.Has w h stands c.graph.result.now c.graph.ensures in
    let wires = graph_wires g.N.RunNode.Has w h stands c.graph.result.now c.graph.ensures in
    let gives = c.gives_on.ensures (setting_of (shape_of w) w.options) w.pipes shown linked wires (outputs_one F w may c.args.node) ∙ gives_same F w may c.args.node in
    ap (λ b. cond b 0 (count_by (λ (q : Piece). nat_eq q.node c.args.node && nat_eq q.input c.args.input) w.outs)) (sym c.if-gives_on.true ∙ gives)

pub returns-then-input : goal.returns-then-input
returns-then-input g c = λ F w stands may few. let over = c.if-input.true in absurd (omega (arith, few, over))

pub returns : goal.returns
returns g c = λ F w stands may few.
    let h = c.args.world.now in
    let shown = pipes_shown g.N.RunNode.Has w h stands c.pipes.result.now c.pipes.ensures in
    let linked = graph_linked g.N.RunNode.Has w h stands c.graph.result.now c.graph.ensures in
    let wires = graph_wires g.N.RunNode.Has w h stands c.graph.result.now c.graph.ensures in
    let gives = c.gives_on.ensures (setting_of (shape_of w) w.options) w.pipes shown linked wires (outputs_one F w may c.args.node) ∙ gives_same F w may c.args.node in
    let out = outs_out g.N.RunNode.Has w h stands c.outs.result.now c.outs.ensures in
    c.count.ensures w.options.workers w.outs out ∙ ap (λ b. cond b 0 (count_by (λ (q : Piece). nat_eq q.node c.args.node && nat_eq q.input c.args.input) w.outs)) (sym c.if-gives_on.false ∙ gives)
