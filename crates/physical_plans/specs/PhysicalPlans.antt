-- The physical plan of a plan.
use Rattle.std.specs.Prelude.{◌≡◌, ◌≤◌, ◌^◌}
use Rattle.ps_frame.specs.Functions.{Functions}
use Rattle.ps_fresh.specs.InPlans.{IsNameUnder}
use Rattle.ps_meaning.specs.PlanTrees.{PlanTree}
use Rattle.ps_meaning.specs.Shape.{Shape}
use Rattle.ps_multiplexers.specs.Multiplexers.{with_multiplexers}
use Rattle.ps_phys.specs.Walks.{shape_from}
use Rattle.ps_plan.specs.Plans.{Plan, tree_of}
use Rattle.ps_rules.specs.Names.{Knows, Names}
use Rattle.plan_rules.specs.Plans.{lowering_of}

-- The nodes of a plan, node by node, then a multiplexer for each that several nodes read; of all these the ones that the root reaches, numbered as a walk from the root leaves them. The root is the last one.
abbrev pub physical_shape : Functions → Names → PlanTree → Shape
physical_shape F names t =
    let l = lowering_of F names t in
    shape_from (with_multiplexers l.stream.0 l.progress.state.nodes) l.stream.0

-- The shape that the rules give for a plan: each name under its root is in use before, and no fresh one was given. The counter of names stays in 64 bits: past that two numbers may have one name.
pub record IsPhysicalPlan (F : Functions) (plan : Plan) (shape : Shape) : Type 0 where
  pub names : Names
  pub in_use : Knows names (IsNameUnder F plan)
  pub none_given : names.next ≡ 0
  pub in_range : (lowering_of F names (tree_of plan plan.root.0)).progress.state.names.next ≤ 2 ^ 64
  pub given : shape ≡ physical_shape F names (tree_of plan plan.root.0)
