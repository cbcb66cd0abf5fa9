-- What isn't proved of every valid plan: that each call keeps its step.
use Rattle.std.specs.Prelude.{◌≡◌, ◌≤◌, ◌^◌}
use Rattle.ps_frame.specs.Functions.{Functions}
use Rattle.ps_fresh.specs.InPlans.{IsNameUnder}
use Rattle.ps_plan.specs.Graph.{EachReached}
use Rattle.ps_plan.specs.Plans.{Plan, tree_of}
use Rattle.ps_rules.specs.Names.{Knows, Names}
use Rattle.plan_keeps.specs.Kept.{IsKeptPlan}
use Rattle.plan_rules.specs.Plans.{lowering_of, nothing_yet}
use Rattle.rule_parts.specs.Good.{HoldsTable}

-- each name under the plan's root is in use, and no fresh one was given
abbrev pub AreAllInUse : Functions → Plan → Names → Type 0
AreAllInUse F plan names = Knows names (IsNameUnder F plan) × (names.next ≡ 0)

-- Each call that the plan makes keeps its step, where the tables that it scans fit their schemas and the counter of names stays in 64 bits: past that two numbers may have one name.
abbrev pub KeepsSteps : Functions → Plan → Type 0
KeepsSteps F plan =
    let t = tree_of plan plan.root.0 in
    (names : Names) → AreAllInUse F plan names → EachReached HoldsTable plan → (lowering_of F names t).progress.state.names.next ≤ 2 ^ 64 → IsKeptPlan F t (nothing_yet names)
