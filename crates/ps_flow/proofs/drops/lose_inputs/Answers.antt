-- The keys of what leads to a node are those of the pipes that do.
use Rattle.std.proofs.Common.{rules, ◌≡◌, ◌∙◌, None, Some, ap, nat_eq}
use Rattle.keyed_slots.specs.Slots.{value_at}
use Rattle.ps_flow.proofs.InputKeys.{keys_in}
use Rattle.ps_flow.proofs.Stepping.{is_there}
use Rattle.ps_flow.proofs.drops.lose_inputs.Goals as goal
use Rattle.ps_graph.specs.Shown.{numbers}
use Rattle.ps_world.specs.World.{Pipe}

pub returns-in-Some : goal.returns-in-Some
returns-in-Some g c = λ s ps shown linked wires within.
    let at : value_at c.args.graph.now.nodes.slots c.args.node ≡ Some c.in-Some.lost.now = search rules in
    c.lose_in_phase.ensures s ps (λ (p : Pipe). nat_eq p.wire.receiver c.args.node) shown (ap numbers c.as_slice.ensures.value ∙ keys_in c.args.graph.now linked ps wires c.args.node c.in-Some.lost.now at)

pub returns-in_default : goal.returns-in_default
returns-in_default g c = λ s ps shown linked wires within.
    let none : value_at c.args.graph.now.nodes.slots c.args.node ≡ None = search rules in
    absurd (is_there c.args.graph.now linked ps wires c.args.node within none)
