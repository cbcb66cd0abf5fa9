-- A worker without a piece.
use Rattle.std.proofs.Common.{ap, sym, ◌∙◌, Option, List, slice_get}
use Rattle.ps_outs.proofs.Counting.{free_seat, seat_free}
use Rattle.ps_outs.proofs.outs.Outs.is_free.Goals as goal
use Rattle.ps_outs.specs.declared.outs.Out.{Out}

pub returns-clause-seat : goal.returns-clause-seat
returns-clause-seat c =
    let same = ap (λ (l : List (Option Out)). slice_get l c.args.worker) c.as_slice.ensures.value in
    ((λ t. sym same ∙ c.is_idle.ensures.0 t), λ e. c.is_idle.ensures.1 (same ∙ e))

pub returns-clause-free : goal.returns-clause-free
returns-clause-free c = λ workers outs out.
    let same = ap (λ (l : List (Option Out)). slice_get l c.args.worker) c.as_slice.ensures.value in
    ((λ t. free_seat workers outs c.args.self.now out c.args.worker (sym same ∙ c.is_idle.ensures.0 t)), λ f. c.is_idle.ensures.1 (same ∙ seat_free workers outs c.args.self.now out c.args.worker f))
