use Rattle.std.proofs.Common.{ℕ, ◌+◌, ◌<◌, ◌^◌, List, Option, length}
use Rattle.ps_multiplexers.proofs.Through.{AreThrough}
use Rattle.ps_multiplexers.specs.Readers.{HasPorts}
use Rattle.ps_phys.specs.Shown.{streams_of}
use Rattle.ps_multiplexers.proofs.readers.go_through_each.Given as goal

abbrev pub invariant-loop-place : goal.invariant-loop-place
invariant-loop-place l =
    (number : ℕ → Option ℕ) (before : List ℕ) → HasPorts number before l.fn.readers.slots → length before + length l.fn.inputs < 2 ^ 64 → AreThrough number before (streams_of l.fn.inputs) l.place l.inputs l.readers.slots
