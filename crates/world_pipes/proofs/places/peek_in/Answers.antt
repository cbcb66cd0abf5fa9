-- What isn't in the phase has no next morsel in it.
use Rattle.std.proofs.Common.{◌≡◌, ◌∙◌, None, ap, cond, false, sym, true}
use Rattle.ps_pipes.specs.Shown.{next_table}
use Rattle.world_pipes.proofs.places.peek_in.Goals as goal

pub returns-then-in_phase : goal.returns-then-in_phase
returns-then-in_phase c = λ s p shown.
    let here : true ≡ p.in_phase = sym c.if-in_phase.true ∙ c.in_phase.ensures s p shown in
    c.peek.ensures s p shown ∙ ap (λ b. cond b (next_table s p) None) here

pub returns-else-in_phase : goal.returns-else-in_phase
returns-else-in_phase c = λ s p shown.
    let here : false ≡ p.in_phase = sym c.if-in_phase.false ∙ c.in_phase.ensures s p shown in
    ap (λ b. cond b (next_table s p) None) here
