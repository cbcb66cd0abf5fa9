use Rattle.std.proofs.Common.{◌≡◌, ◌+◌, ◌++◌, map, take}
use Rattle.ps_frame.specs.Zip.{below}
use Rattle.ps_frame.proofs.column.push_places.Given as goal

abbrev pub invariant-loop-place : goal.invariant-loop-place
invariant-loop-place l = l.out.items ≡ l.fn.out.items ++ map (λ i. l.before + i) (take l.place-index l.place-items)

abbrev pub invariant-loop-place-2 : goal.invariant-loop-place-2
invariant-loop-place-2 l = l.out.items ≡ l.fn.out.items ++ map (λ i. l.before + i) (below l.place)
