use Rattle.std.proofs.Common.{◌≡◌, ◌≤◌, ◌+◌, drop, length}
use Rattle.ps_frame.specs.Values.{same_value}
use Rattle.ps_compute.specs.Runs.{runs}
use Rattle.ps_compute.proofs.aggregates.count_runs.Given as goal

abbrev pub invariant-loop-from : goal.invariant-loop-from
invariant-loop-from l = record { within : l.from ≤ length l.sorted; counted : l.runs ≡ runs (drop l.from l.sorted) (λ a b. same_value a.now b.now); few : l.runs + l.from ≤ length l.sorted }

abbrev pub decreases-loop-from : goal.decreases-loop-from
decreases-loop-from l = l.from
