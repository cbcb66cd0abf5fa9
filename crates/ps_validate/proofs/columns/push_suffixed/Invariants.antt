use Rattle.ps_meaning.specs.Schemas.{names_of, suffixed}
use Rattle.ps_validate.proofs.Pushing.{Pushing}
use Rattle.ps_validate.proofs.columns.push_suffixed.Given as goal

abbrev pub invariant-loop-i : goal.invariant-loop-i
invariant-loop-i l = Pushing (suffixed l.suffix (names_of l.taken)) l.initial.schema l.fields l.i l.schema
