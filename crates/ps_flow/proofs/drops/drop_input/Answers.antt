-- The input is dropped, and then all that feeds nobody.
use Rattle.std.proofs.Common.{◌∙◌, refl, sym}
use Rattle.ps_flow.proofs.Dropping.{changed_one_output}
use Rattle.ps_flow.proofs.Stepping.{same_wires}
use Rattle.ps_flow.proofs.drops.drop_input.Goals as goal
use Rattle.ps_world.specs.Pipes.{change_pipes, dropped_pipe, is_input}

pub returns : goal.returns
returns g c = λ s ps n i shown names wires one.
    c.drop_all.ensures s (change_pipes (is_input n i) dropped_pipe ps) (c.lose_at.ensures s ps n i shown names) (wires ∙ sym (same_wires dropped_pipe (λ p. refl) (is_input n i) ps))
    (λ m. changed_one_output (is_input n i) dropped_pipe ps (λ p. refl) m (one m))
