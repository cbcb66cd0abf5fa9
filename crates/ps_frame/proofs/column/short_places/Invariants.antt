use Rattle.std.proofs.Common.{◌≡◌, take}
use Rattle.ps_frame.proofs.column.short_places.Given as goal

abbrev pub invariant-loop-place : goal.invariant-loop-place
invariant-loop-place l = l.short.items ≡ take l.place-index l.places
