use Rattle.ps_validate.proofs.Pushing.{Pushing}
use Rattle.ps_validate.proofs.columns.push_absent.Given as goal
use Rattle.ps_validate.specs.Columns.{absent_from}

abbrev pub invariant-loop-i : goal.invariant-loop-i
invariant-loop-i l = Pushing (absent_from l.others) l.initial.schema l.fields l.i l.schema
