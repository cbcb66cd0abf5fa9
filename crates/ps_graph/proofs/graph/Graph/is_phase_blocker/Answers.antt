-- A blocker of the phase is one that isn't memory intensive, or the one that is chosen.
use Rattle.std.proofs.Common.{◌≡◌, ℕ, Bool, true, false, not, List, Option, length, sym, ap, ◌∙◌}
use Rattle.std.specs.Prelude.{◌&&◌, ◌||◌}
use Rattle.ps_ports.specs.Phases.{is_blocker}
use Rattle.ps_ports.specs.Wires.{Wire}
use Rattle.ps_graph.specs.Running.{are_intensive, chosen_below, is_named}
use Rattle.ps_graph.specs.Shown.{wires_of}
use Rattle.ps_graph.proofs.Choosing.{blocks}
use Rattle.ps_graph.proofs.graph.Graph.is_phase_blocker.Goals as goal

pub returns-then-is_light_blocker : goal.returns-then-is_light_blocker
returns-then-is_light_blocker g c =
    let ws : List Wire = wires_of c.args.self.now.pipes.slots in
    let intensive : ℕ → Bool = are_intensive g.N.ComputeNode.intensive c.args.self.now in
    let nodes : ℕ = length c.args.self.now.nodes.slots in
    let light : (is_blocker ws c.args.number && not (intensive c.args.number)) ≡ true = sym c.is_light_blocker.ensures ∙ c.if-is_light_blocker.true in
    c.if-is_light_blocker.true ∙ sym (blocks ws intensive nodes c.args.number c.requires.inside ∙ ap (λ b. b || is_named (chosen_below ws intensive nodes) c.args.number) light)

pub returns-else-is_light_blocker : goal.returns-else-is_light_blocker
returns-else-is_light_blocker g c =
    let ws : List Wire = wires_of c.args.self.now.pipes.slots in
    let intensive : ℕ → Bool = are_intensive g.N.ComputeNode.intensive c.args.self.now in
    let nodes : ℕ = length c.args.self.now.nodes.slots in
    let other : (is_blocker ws c.args.number && not (intensive c.args.number)) ≡ false = sym c.is_light_blocker.ensures ∙ c.if-is_light_blocker.false in
    c.is_named.ensures ∙ ap (λ (a : Option ℕ). is_named a c.args.number) c.requires.chosen
    ∙ sym (blocks ws intensive nodes c.args.number c.requires.inside ∙ ap (λ b. b || is_named (chosen_below ws intensive nodes) c.args.number) other)
