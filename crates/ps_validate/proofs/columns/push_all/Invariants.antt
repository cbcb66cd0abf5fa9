use Rattle.ps_frame.specs.Tables.{Fields}
use Rattle.ps_validate.proofs.Pushing.{Pushing}
use Rattle.ps_validate.proofs.columns.push_all.Given as goal

abbrev pub invariant-loop-i : goal.invariant-loop-i
invariant-loop-i l = Pushing (λ (fs : Fields). fs) l.initial.schema l.others l.i l.schema
