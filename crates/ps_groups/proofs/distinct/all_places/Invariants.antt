use Rattle.std.proofs.Common.{◌≡◌}
use Rattle.ps_frame.specs.Zip.{below}
use Rattle.ps_groups.proofs.distinct.all_places.Given as goal

abbrev pub invariant-loop-place : goal.invariant-loop-place
invariant-loop-place l = l.places.items ≡ below l.place
