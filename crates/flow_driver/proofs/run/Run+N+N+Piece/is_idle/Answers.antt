-- By the worker's place.
use Rattle.std.proofs.Common.{ap, sym, ◌∙◌, slice_get}
use Rattle.flow_driver.proofs.run.Run+N+N+Piece.is_idle.Goals as goal

pub returns : goal.returns
returns g c =
    let same = ap (λ l. slice_get l c.args.worker) c.as_slice.ensures.value in
    ((λ t. sym same ∙ c.is_idle.ensures.0 t), λ e. c.is_idle.ensures.1 (same ∙ e))
