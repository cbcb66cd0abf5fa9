use Rattle.std.proofs.Common.{◌∙◌, ◌++◌, ◌∷◌, [], sym, ap}
use Rattle.ps_compute.proofs.KeyOrder.{numbers-more}
use Rattle.ps_expr_eval.proofs.sort_by.row_numbers.Goals as goal

pub loop-i-preserved : goal.loop-i-preserved
loop-i-preserved c = c.in_ok-push.ensures.items ∙ ap (λ l. l ++ c.loop-i.i ∷ []) c.loop-i.invariant ∙ sym (numbers-more c.loop-i.i)
