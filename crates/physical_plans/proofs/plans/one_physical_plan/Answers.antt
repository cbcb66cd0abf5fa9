use Rattle.std.proofs.Common.{ap, sym, ◌∙◌}
use Rattle.ps_fresh.specs.InPlans.{IsNameUnder}
use Rattle.ps_plan.specs.Plans.{tree_of}
use Rattle.physical_plans.proofs.SameNames.{same_names}
use Rattle.physical_plans.proofs.plans.one_physical_plan.Goals as goal
use Rattle.physical_plans.specs.PhysicalPlans.{physical_shape}

pub returns : goal.returns
returns c F plan shape other p q =
    p.given
    ∙ ap (λ names. physical_shape F names (tree_of plan plan.root.0)) (same_names p.names q.names (IsNameUnder F plan) p.in_use q.in_use p.none_given q.none_given)
    ∙ sym q.given
