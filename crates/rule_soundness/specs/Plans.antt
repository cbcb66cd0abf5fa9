-- Plans whose steps no rule refuses, and what is made of them.
use Rattle.std.specs.Prelude.{◌≤◌, ◌^◌, ℕ, ⊤}
use Rattle.ps_frame.specs.Functions.{Functions}
use Rattle.ps_meaning.specs.PlanTrees.{PlanTree, PlanTrees, missing, no_trees, node, tree}
use Rattle.ps_meaning.specs.Schemas.{tree_schema, tree_schemas}
use Rattle.ps_meaning.specs.Sound.{IsSoundButForReaders}
use Rattle.ps_rules.specs.Names.{Names}
use Rattle.plan_rules.specs.Plans.{lowering_of}
use Rattle.plan_laws.specs.Laws.{StandsOver}
use Rattle.rule_parts.specs.Good.{IsGoodStep, KnowsNames}

abbrev mutual
  -- nothing is missing, and no rule refuses a step over the schemas of its inputs
  pub IsGoodPlan : Functions → PlanTree → Type 0
  IsGoodPlan F (node at step below) = IsGoodStep F step (tree_schemas F below) × AreGoodPlans F below
  IsGoodPlan F missing = ⊥

  pub AreGoodPlans : Functions → PlanTrees → Type 0
  AreGoodPlans F no_trees = ⊤
  AreGoodPlans F (tree t ts) = IsGoodPlan F t × AreGoodPlans F ts

abbrev mutual
  -- no fresh name will be one of a schema's in the tree
  pub KnowsPlan : Functions → Names → PlanTree → Type 0
  KnowsPlan F names (node at step below) = KnowsNames names (tree_schema F (node at step below)) × KnowPlans F names below
  KnowsPlan F names missing = ⊤

  pub KnowPlans : Functions → Names → PlanTrees → Type 0
  KnowPlans F names no_trees = ⊤
  KnowPlans F names (tree t ts) = KnowsPlan F names t × KnowPlans F names ts

-- The counter of names stays in 64 bits: past that two numbers may have one name.
abbrev pub PlansStaySound : Type 0
PlansStaySound =
    (F : Functions) (stored : ℕ → PlanTree) (names : Names) (t : PlanTree) → StandsOver stored t → IsGoodPlan F t → KnowsPlan F names t
    → let l = lowering_of F names t in
    l.progress.state.names.next ≤ 2 ^ 64 → IsSoundButForReaders F l.progress.state.nodes
