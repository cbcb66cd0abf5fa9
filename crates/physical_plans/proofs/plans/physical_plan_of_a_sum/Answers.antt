use Rattle.std.proofs.Common.{arith}
use Rattle.std.specs.Prelude.{refl, []}
use Rattle.std.specs.Fmt.{digits}
use Rattle.ps_frame.specs.Trees.{tree_within}
use Rattle.ps_plan.specs.Plans.{plan_within}
use Rattle.ps_rules.specs.Worked.{counter}
use Rattle.physical_plans.proofs.SmallPlans.{known}
use Rattle.physical_plans.proofs.plans.physical_plan_of_a_sum.Goals as goal

pub returns : goal.returns
unfolding digits plan_within tree_within
returns c F = record { names = counter [] 0; in_use = known F; none_given = refl; in_range = omega arith; given = refl }
