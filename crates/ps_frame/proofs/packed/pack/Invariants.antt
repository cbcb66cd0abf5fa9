use Rattle.std.proofs.Common.{◌≡◌, take}
use Rattle.ps_frame.proofs.packed.pack.Given as goal

abbrev pub invariant-loop-value : goal.invariant-loop-value
invariant-loop-value l = l.packed ≡ record { kind = l.fn.dtype; values = take l.value-index l.values }
