-- Plans whose steps have the inputs that they read, and those without sinks.
use Rattle.std.specs.Prelude.{⊤}
use Rattle.ps_meaning.specs.PlanTrees.{PlanTree, PlanTrees, missing, no_trees, node, tree}
use Rattle.ps_meaning.specs.StepRefusals.{IsSinkStep}
use Rattle.ps_meaning.specs.Steps.{Step, hconcat, join, left_out, scan, union}

abbrev pub HasFirst : PlanTrees → Type 0
HasFirst no_trees = ⊥
HasFirst (tree t ts) = ⊤

abbrev pub HasSecond : PlanTrees → Type 0
HasSecond no_trees = ⊥
HasSecond (tree t ts) = HasFirst ts

-- two inputs of a join, at least one of another step that reads a stream
abbrev pub IsFed : Step → PlanTrees → Type 0
IsFed (scan table columns) below = ⊤
IsFed (union cut) below = ⊤
IsFed hconcat below = ⊤
IsFed (left_out what) below = ⊤
IsFed (join o) below = HasSecond below
IsFed _ below = HasFirst below

abbrev mutual
  -- nothing is missing, and each step is fed
  pub IsFedPlan : PlanTree → Type 0
  IsFedPlan (node at step below) = IsFed step below × AreFedPlans below
  IsFedPlan missing = ⊥

  pub AreFedPlans : PlanTrees → Type 0
  AreFedPlans no_trees = ⊤
  AreFedPlans (tree t ts) = IsFedPlan t × AreFedPlans ts

abbrev mutual
  pub HasNoSink : PlanTree → Type 0
  HasNoSink (node at step below) = (¬ IsSinkStep step) × HaveNoSinks below
  HasNoSink missing = ⊤

  pub HaveNoSinks : PlanTrees → Type 0
  HaveNoSinks no_trees = ⊤
  HaveNoSinks (tree t ts) = HasNoSink t × HaveNoSinks ts

-- a sink over a plan without sinks
abbrev pub IsSunk : PlanTree → Type 0
IsSunk (node at step below) = IsSinkStep step × HaveNoSinks below
IsSunk missing = ⊥
