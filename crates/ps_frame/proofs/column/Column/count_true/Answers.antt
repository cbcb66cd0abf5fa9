use Rattle.std.proofs.Common.{sym, ◌∙◌, arith}
use Rattle.ps_frame.proofs.Masks.{count-step_false, count-step_true}
use Rattle.ps_frame.proofs.column.Column.count_true.Goals as goal
use Rattle.ps_frame.proofs.column.Column.count_true.Goals.{then-is_true, else-is_true}

pub loop-i-preserved : goal.loop-i-preserved
loop-i-preserved c =
    let values = c.args.self.now.values in
    elim c.if-is_true.branch [
      | then-is_true w ↦
          record { below = omega arith; counted = rw w.count-is (count-step_true values c.loop-i.i c.loop-i.count c.value.result.now c.loop-i.invariant.counted c.value.ensures (sym c.is_true.ensures ∙ w.if-is_true.true)) }
      | else-is_true w ↦
          record { below = omega arith; counted = rw w.count-is (count-step_false values c.loop-i.i c.loop-i.count c.value.result.now c.loop-i.invariant.counted c.value.ensures (sym c.is_true.ensures ∙ w.if-is_true.false)) }
    ]
