-- By whether the node is at work, and whether it is cut off.
use Rattle.std.proofs.Common.{◌∙◌, ap, inr, sym}
use Rattle.flow_moves.proofs.AtWork.{at_work, idle}
use Rattle.flow_moves.proofs.Moves.{cut_takes_nothing}
use Rattle.flow_moves.proofs.Parts.{graph_linked, graph_wires, pipes_shown}
use Rattle.flow_moves.proofs.OnePlace.{outputs_one}
use Rattle.flow_moves.proofs.node_moves.move_of.Goals as goal
use Rattle.ps_flow.proofs.Dropping.{cut_off_is}
use Rattle.ps_flow.specs.Standing.{setting_of}
use Rattle.ps_flow.specs.declared.marks.Marks.{Marks}
use Rattle.ps_world.specs.World.{shape_of}

pub returns-then-not-is_at_work : goal.returns-then-not-is_at_work
returns-then-not-is_at_work g c = λ F w stands may open_phase runs.
    let marks = c.as_slice.ensures ∙ ap (λ (m : Marks). m.list.items) c.marks.ensures ∙ stands.marks in
    idle w c.args.node c.as_slice.result.now marks c.is_at_work.result c.is_at_work.ensures.there F c.if-not-is_at_work.true

pub returns-then-is_cut_off : goal.returns-then-is_cut_off
returns-then-is_cut_off g c = λ F w stands may open_phase runs.
    let n = c.args.node in
    let h = c.args.world.now in
    let marks = c.as_slice.ensures ∙ ap (λ (m : Marks). m.list.items) c.marks.ensures ∙ stands.marks in
    let x = at_work w n c.as_slice.result.now marks c.is_at_work.result c.is_at_work.ensures.there c.is_at_work.ensures.none c.if-not-is_at_work.false open_phase runs in
    let one = outputs_one F w may n in
    let shown = pipes_shown g.N.RunNode.Has w h stands c.pipes.result.now c.pipes.ensures in
    let linked = graph_linked g.N.RunNode.Has w h stands c.graph.result.now c.graph.ensures in
    let wires = graph_wires g.N.RunNode.Has w h stands c.graph.result.now c.graph.ensures in
    let cut = cut_off_is h.graph stands.linked w stands.wires may.all_stream n one ∙ sym (c.is_cut_off.ensures (setting_of (shape_of w) w.options) w.pipes shown linked wires one) ∙ c.if-is_cut_off.true in
    c.close_of.ensures F w x.0 stands x.1 (inr cut) (cut_takes_nothing F w n cut)

pub returns : goal.returns
returns g c = λ F w stands may open_phase runs.
    let n = c.args.node in
    let h = c.args.world.now in
    let marks = c.as_slice.ensures ∙ ap (λ (m : Marks). m.list.items) c.marks.ensures ∙ stands.marks in
    let x = at_work w n c.as_slice.result.now marks c.is_at_work.result c.is_at_work.ensures.there c.is_at_work.ensures.none c.if-not-is_at_work.false open_phase runs in
    let one = outputs_one F w may n in
    let shown = pipes_shown g.N.RunNode.Has w h stands c.pipes.result.now c.pipes.ensures in
    let linked = graph_linked g.N.RunNode.Has w h stands c.graph.result.now c.graph.ensures in
    let wires = graph_wires g.N.RunNode.Has w h stands c.graph.result.now c.graph.ensures in
    let uncut = cut_off_is h.graph stands.linked w stands.wires may.all_stream n one ∙ sym (c.is_cut_off.ensures (setting_of (shape_of w) w.options) w.pipes shown linked wires one) ∙ c.if-is_cut_off.false in
    c.move_at_work.ensures F w x.0 stands may x.1 uncut
