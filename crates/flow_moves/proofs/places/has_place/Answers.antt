-- By the one pipe that leaves the node.
use Rattle.std.proofs.Common.{◌≡◌, ◌∙◌, ◌∷◌, [], ap, cond, false, refl, subst, sym, true}
use Rattle.std.specs.Prelude.{IsTrue, nat_eq}
use Rattle.std.specs.List.{AllByRecursion}
use Rattle.flow_moves.proofs.Parts.{graph_linked, graph_wires, pipes_shown}
use Rattle.flow_moves.proofs.OnePlace.{live_by, live_none, outputs_one, place_is}
use Rattle.flow_moves.proofs.places.has_place.Goals as goal
use Rattle.ps_flow.proofs.Claims.{pipe_named}
use Rattle.ps_flow.specs.Standing.{setting_of}
use Rattle.ps_world.specs.World.{Pipe, has_place, live_outs, shape_of}

pub returns-then-in_phase : goal.returns-then-in_phase
returns-then-in_phase g c = λ F w stands may.
    let n = c.args.node in
    let h = c.args.world.now in
    let s = setting_of (shape_of w) w.options in
    let shown = pipes_shown g.N.RunNode.Has w h stands c.pipes-pipes.result.now c.pipes-pipes.ensures in
    let linked = graph_linked g.N.RunNode.Has w h stands c.graph.result.now c.graph.ensures in
    let wires = graph_wires g.N.RunNode.Has w h stands c.graph.result.now c.graph.ensures in
    let names = c.in-Some.ensures.key w.pipes linked wires (outputs_one F w may n) in
    let p = pipe_named (λ (q : Pipe). nat_eq q.wire.sender n) c.in-Some.key w.pipes names in
    let here : true ≡ p.0.in_phase = sym c.if-in_phase.true ∙ c.in_phase.ensures s w.pipes p.0 shown p.1 in
    let live : live_outs w n ≡ p.0 ∷ [] = live_by F w may n c.in-Some.key names p.0 p.1 ∙ ap (λ b. cond b (p.0 ∷ []) []) (sym here) in
    let is : c.has_place.result ≡ has_place w p.0 = c.has_place.ensures s w.pipes p.0 shown p.1 ∙ place_is F w may p.0 c.places_kept.result (c.places_kept.ensures F w p.0 stands may p.1) in (
      (λ t. subst (AllByRecursion (λ (q : Pipe). IsTrue (has_place w q))) (sym live) (sym is ∙ t, tt)),
      (λ all. is ∙ (subst (AllByRecursion (λ (q : Pipe). IsTrue (has_place w q))) live all).0),
    )

pub returns-else-in_phase : goal.returns-else-in_phase
returns-else-in_phase g c = λ F w stands may.
    let n = c.args.node in
    let h = c.args.world.now in
    let s = setting_of (shape_of w) w.options in
    let shown = pipes_shown g.N.RunNode.Has w h stands c.pipes-pipes.result.now c.pipes-pipes.ensures in
    let linked = graph_linked g.N.RunNode.Has w h stands c.graph.result.now c.graph.ensures in
    let wires = graph_wires g.N.RunNode.Has w h stands c.graph.result.now c.graph.ensures in
    let names = c.in-Some.ensures.key w.pipes linked wires (outputs_one F w may n) in
    let p = pipe_named (λ (q : Pipe). nat_eq q.wire.sender n) c.in-Some.key w.pipes names in
    let here : false ≡ p.0.in_phase = sym c.if-in_phase.false ∙ c.in_phase.ensures s w.pipes p.0 shown p.1 in
    let live : live_outs w n ≡ [] = live_by F w may n c.in-Some.key names p.0 p.1 ∙ ap (λ b. cond b (p.0 ∷ []) []) (sym here) in
    ((λ t. subst (AllByRecursion (λ (q : Pipe). IsTrue (has_place w q))) (sym live) tt), (λ all. refl))

pub returns-in-None : goal.returns-in-None
returns-in-None g c = λ F w stands may.
    let h = c.args.world.now in
    let linked = graph_linked g.N.RunNode.Has w h stands c.graph.result.now c.graph.ensures in
    let wires = graph_wires g.N.RunNode.Has w h stands c.graph.result.now c.graph.ensures in
    let live : live_outs w c.args.node ≡ [] = live_none F w may c.args.node (λ p among. c.in-None.ensures.none w.pipes p linked wires among) in
    ((λ t. subst (AllByRecursion (λ (q : Pipe). IsTrue (has_place w q))) (sym live) tt), (λ all. refl))
