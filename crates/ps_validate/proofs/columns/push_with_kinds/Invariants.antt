use Rattle.ps_validate.proofs.Pushing.{Pushing}
use Rattle.ps_validate.proofs.columns.push_with_kinds.Given as goal
use Rattle.ps_validate.specs.Columns.{with_kinds}

abbrev pub invariant-loop-i : goal.invariant-loop-i
invariant-loop-i l = Pushing (with_kinds l.kinds) l.initial.schema l.fields l.i l.schema
