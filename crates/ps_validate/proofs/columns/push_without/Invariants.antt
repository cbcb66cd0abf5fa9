use Rattle.std.proofs.Common.{◌≡◌, List}
use Rattle.std.specs.BTreeSet.{contains_text}
use Rattle.ps_meaning.specs.Schemas.{is_among, without}
use Rattle.ps_meaning.specs.Steps.{Name}
use Rattle.ps_validate.proofs.Pushing.{Pushing}
use Rattle.ps_validate.proofs.columns.push_without.Given as goal

abbrev pub invariant-loop-i : goal.invariant-loop-i
invariant-loop-i l = (ns : List Name) → ((n : Name) → contains_text l.hidden n ≡ is_among n ns) → Pushing (without ns) l.initial.schema l.fields l.i l.schema
