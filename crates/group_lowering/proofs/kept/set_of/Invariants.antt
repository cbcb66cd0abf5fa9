use Rattle.std.proofs.Common.{◌≡◌, take}
use Rattle.std.specs.BTreeSet.{contains_text}
use Rattle.ps_meaning.specs.Schemas.{is_among}
use Rattle.ps_meaning.specs.Steps.{Name}
use Rattle.group_lowering.proofs.kept.set_of.Given as goal

abbrev pub invariant-loop-name : goal.invariant-loop-name
invariant-loop-name l = (n : Name) → contains_text l.set n ≡ is_among n (take l.name-index l.names)
