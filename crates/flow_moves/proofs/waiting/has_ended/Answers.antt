-- By whether it is in the phase.
use Rattle.std.proofs.Common.{◌≡◌, ◌∙◌, false, sym, ap, true}
use Rattle.std.specs.Prelude.{◌||◌, not}
use Rattle.flow_moves.proofs.waiting.has_ended.Goals as goal
use Rattle.ps_world.specs.World.{is_over}

pub returns-then-in_phase : goal.returns-then-in_phase
returns-then-in_phase c = λ s ps p shown at.
    let here : true ≡ p.in_phase = sym c.if-in_phase.true ∙ c.in_phase.ensures s ps p shown at in
    ap (λ b. not b || is_over p) (sym here) ∙ sym (c.is_over.ensures s ps p shown at)

pub returns-else-in_phase : goal.returns-else-in_phase
returns-else-in_phase c = λ s ps p shown at.
    let here : false ≡ p.in_phase = sym c.if-in_phase.false ∙ c.in_phase.ensures s ps p shown at in
    ap (λ b. not b || is_over p) (sym here)
