use Rattle.ps_world.specs.Laws.{AnyKind}
use Rattle.run_promises.proofs.AllPromises.{promised}
use Rattle.run_promises.proofs.EachKind.{every_kind}
use Rattle.run_promises.proofs.Together.{pieces_have_results}
use Rattle.run_promises.proofs.promised.runs_keep_promises.Goals as goal

pub returns : goal.returns
returns c = λ F shape o w laws sound r.
    let law = every_kind F laws in
    let stuck = c.no_run_is_stuck.ensures F shape o sound in
    promised F AnyKind law shape sound (λ n p e. tt) o w r stuck (c.runs_end.ensures F shape o w sound r) (c.ends_are_reached.ensures F shape o w sound stuck (pieces_have_results F AnyKind law shape o sound (λ n p e. tt)) r)
