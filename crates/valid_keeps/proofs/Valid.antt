-- A valid plan of steps of kept kinds: its calls keep their steps, so its physical plan is a lowering of it.
use Rattle.std.proofs.Common.{◌-◌, length}
use Rattle.ps_frame.specs.Functions.{Functions, IsLawful}
use Rattle.ps_meaning.specs.Shape.{Shape}
use Rattle.ps_plan.specs.Graph.{EachReached}
use Rattle.ps_plan.specs.Lowering.{IsLoweringOf}
use Rattle.ps_plan.specs.Plans.{Plan, tree_of}
use Rattle.ps_plan.specs.Refusals.{IsValid}
use Rattle.arena_keeps.proofs.Stored.{stored, whole_stands}
use Rattle.rule_parts.specs.Good.{HoldsTable}
use Rattle.physical_plans.specs.PhysicalPlans.{IsPhysicalPlan}
use Rattle.physical_laws.proofs.Good.{good_plan, known_plan}
use Rattle.physical_laws.proofs.Joined.{is_lowering}
use Rattle.physical_laws.specs.Premises.{KeepsSteps}
use Rattle.plans_keep.specs.Kinds.{IsOfKeptKinds}
use Rattle.plans_keep.proofs.Plans.{root_kept}

module _ (F : Functions) (plan : Plan) (valid : IsValid F plan) (kinds : IsOfKeptKinds F (tree_of plan plan.root.0)) where
  pub steps_kept : KeepsSteps F plan
  steps_kept names used holds small = root_kept F (stored F plan valid) names (tree_of plan plan.root.0) (whole_stands F plan valid) (good_plan F plan valid holds) (known_plan F plan valid names used.0) kinds small

  pub lowered : (shape : Shape) → IsLawful F → EachReached HoldsTable plan → IsPhysicalPlan F plan shape → IsLoweringOf F plan shape (length shape - 1)
  lowered shape lawful holds p = is_lowering F plan shape valid p lawful holds steps_kept
