use Rattle.std.proofs.Common.{◌≡◌, take, get_or}
use Rattle.std.specs.Prelude.{map}
use Rattle.ps_frame.specs.declared.value.Value.TheVariants as val
use Rattle.ps_frame.proofs.column.clones_at.Given as goal

abbrev pub invariant-loop-place : goal.invariant-loop-place
invariant-loop-place l = l.out.items ≡ map (λ i. get_or l.values i val.Null) (take l.place-index l.places)
