use Rattle.ps_frame.specs.Values.{same_value}
use Rattle.ps_compute.proofs.Distinct.{run-ends}
use Rattle.ps_compute.proofs.aggregates.ends_run.Goals as goal

pub returns-then-i-sorted : goal.returns-then-i-sorted
returns-then-i-sorted c = run-ends c.args.sorted.now (λ a b. same_value a.now b.now) c.args.i c.if-i-sorted.true
