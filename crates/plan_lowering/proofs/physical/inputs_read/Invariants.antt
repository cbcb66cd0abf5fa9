use Rattle.std.proofs.Common.{◌-◌, ◌≤◌, length}
use Rattle.ps_phys.specs.Shown.{inputs_of}
use Rattle.plan_lowering.proofs.physical.inputs_read.Given as goal

abbrev pub invariant-loop-place : goal.invariant-loop-place
invariant-loop-place l = l.place ≤ length (inputs_of l.kind)

abbrev pub decreases-loop-place : goal.decreases-loop-place
decreases-loop-place l = length (inputs_of l.kind) - l.place
