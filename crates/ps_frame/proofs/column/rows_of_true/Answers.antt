use Rattle.std.proofs.Common.{sym, refl, ◌∙◌, length, take, ap, arith}
use Rattle.std.proofs.lemmas.List.{take_all}
use Rattle.std.proofs.lemmas.Option.{get_or_from_slice_get}
use Rattle.ps_frame.proofs.Gathers.{get_or-below, length-below}
use Rattle.ps_frame.proofs.Masks.{kept-step_false, kept-step_true}
use Rattle.ps_frame.specs.Frames.{kept}
use Rattle.ps_frame.specs.Zip.{below}
use Rattle.ps_frame.proofs.column.rows_of_true.Goals as goal
use Rattle.ps_frame.proofs.column.rows_of_true.Goals.{then-is_true+in_ok-push, else-is_true}

pub loop-i-preserved : goal.loop-i-preserved
loop-i-preserved c =
    let ms = c.args.column.now.values in
    let i = c.loop-i.i in
    let n = length-below (length ms) in
    elim c.if-is_true.branch [
      | then-is_true+in_ok-push w ↦
          kept-step_true ms (below (length ms)) i c.value.result.now i c.loop-i.rows.items c.if-is_true.rows.items c.loop-i.invariant (sym (get_or_from_slice_get ms i c.value.result.now c.value.result.now c.value.ensures)) (sym (get_or-below (length ms) i i (omega arith)))
          (sym c.is_true.ensures ∙ w.if-is_true.true) (rw (w.rows-is, w.in_ok-push.ensures.items) refl) (omega arith) (omega arith)
      | else-is_true w ↦
          rw w.rows-is
          (kept-step_false ms (below (length ms)) i c.value.result.now i c.loop-i.rows.items c.loop-i.invariant (sym (get_or_from_slice_get ms i c.value.result.now c.value.result.now c.value.ensures)) (sym c.is_true.ensures ∙ w.if-is_true.false) (omega arith) (omega arith))
    ]

pub returns-clause-chosen : goal.returns-clause-chosen
returns-clause-chosen c =
    let ms = c.args.column.now.values in
    let n = length-below (length ms) in
    c.loop-i.invariant ∙ ap (λ ns. kept ns (take c.loop-i.i (below (length ms)))) (take_all c.loop-i.i ms (omega arith)) ∙ ap (kept ms) (take_all c.loop-i.i (below (length ms)) (omega arith))
