-- By the one pipe that leaves the node.
use Rattle.std.proofs.Common.{◌≡◌, ◌∙◌, ap, false, sym, true}
use Rattle.std.specs.Prelude.{◌&&◌, not}
use Rattle.flow_moves.proofs.Looking.{gives_at, gives_none}
use Rattle.flow_moves.proofs.places.gives_on.Goals as goal

pub returns-then-in_phase : goal.returns-then-in_phase
returns-then-in_phase g c = λ s ps shown linked wires one.
    let p = gives_at c.args.graph.now linked ps wires c.args.node one c.in-Some.key (c.in-Some.ensures.key ps linked wires one) in
    let here : true ≡ p.0.in_phase = sym c.if-in_phase.true ∙ c.in_phase.ensures s ps p.0 shown p.1 in
    ap not (c.is_dropped.ensures s ps p.0 shown p.1) ∙ ap (λ b. b && not p.0.is_dropped) here ∙ sym p.2

pub returns-else-in_phase : goal.returns-else-in_phase
returns-else-in_phase g c = λ s ps shown linked wires one.
    let p = gives_at c.args.graph.now linked ps wires c.args.node one c.in-Some.key (c.in-Some.ensures.key ps linked wires one) in
    let here : false ≡ p.0.in_phase = sym c.if-in_phase.false ∙ c.in_phase.ensures s ps p.0 shown p.1 in
    ap (λ b. b && not p.0.is_dropped) here ∙ sym p.2

pub returns-in-None : goal.returns-in-None
returns-in-None g c = λ s ps shown linked wires one. sym (gives_none c.args.node ps (λ p among. c.in-None.ensures.none ps p linked wires among))
