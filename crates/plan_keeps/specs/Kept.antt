-- When each call that a plan makes keeps its step, and what is kept of the plan then.
use Rattle.std.specs.Prelude.{◌≡◌, ◌⊎◌, ◌<◌, ℕ, List, [], length, slice_get, Option, Some, None, ⊤}
use Rattle.ps_frame.specs.Causes.{Cause}
use Rattle.ps_frame.specs.Functions.{Functions}
use Rattle.ps_frame.specs.Tables.{Fields, Table}
use Rattle.ps_meaning.specs.Meaning.{Choice, IsAnyLarge, IsBrokenBy, IsLarge, IsMeaning}
use Rattle.ps_meaning.specs.PlanTrees.{PlanTree, PlanTrees, missing, no_trees, node, tree}
use Rattle.ps_meaning.specs.Schemas.{tree_schema}
use Rattle.ps_meaning.specs.Shape.{PhysicalBrokenBy, PhysicalIsLarge, PhysicalMeans, PhysicalNode, Shape}
use Rattle.ps_meaning.specs.Steps.{Step, cache}
use Rattle.ps_meaning.specs.Within.{Within}
use Rattle.ps_rules.specs.Slots.{Stream}
use Rattle.plan_rules.specs.Nodes.{step_stream}
use Rattle.plan_rules.specs.Plans.{LoweredPlans, Progress, lower_plan, lower_plans, stream_of_cache}
use Rattle.step_keeps.specs.Kept.{SomeIsLarge}
use Rattle.plan_keeps.specs.Small.{KeepsStepOver}

-- no table at or under these nodes is large, whatever the caches give
abbrev pub AreSmall : Functions → PlanTrees → Type 0
AreSmall F ts = (choice : Choice) → ¬ IsAnyLarge F choice ts

-- The call keeps the step; where nothing at or under its inputs is large, it need do so only over inputs of which none is.
abbrev pub IsKeptCall : Functions → ℕ → Step → Fields → Type 0 → LoweredPlans → Type 0
IsKeptCall F at step schema small r =
    let m = step_stream at F step schema r.streams r.progress.state in
    KeepsStepOver (λ ts. small → ¬ SomeIsLarge ts) F at step r.progress.state m.state r.streams m.stream

-- where a cache id has a stream no call is made
abbrev pub IsKeptCache : Option Stream → Type 0 → Type 0
IsKeptCache (Some stream) below = ⊤
IsKeptCache None below = below

-- what is below is kept, and the call of the step over it keeps the step
abbrev pub IsKeptNode : Functions → ℕ → Step → Fields → Type 0 → (Progress → Type 0) → (Progress → LoweredPlans) → Progress → Type 0
IsKeptNode F at (cache id) schema small below lower p = IsKeptCache (stream_of_cache id p.cached) (below p)
IsKeptNode F at step schema small below lower p = below p × IsKeptCall F at step schema small (lower p)

abbrev mutual
  pub IsKeptPlan : Functions → PlanTree → Progress → Type 0
  IsKeptPlan F (node at step below) = IsKeptNode F at step (tree_schema F (node at step below)) (AreSmall F below) (AreKeptPlans F below) (lower_plans F below)
  IsKeptPlan F missing = λ p. ⊥

  pub AreKeptPlans : Functions → PlanTrees → Progress → Type 0
  AreKeptPlans F no_trees = λ p. ⊤
  AreKeptPlans F (tree t ts) = λ p. IsKeptPlan F t p × AreKeptPlans F ts (lower_plan F t p).progress

-- each table that a node means is within one that the tree means
abbrev pub MeansWithin : Functions → Shape → ℕ → PlanTree → Type 0
MeansWithin F shape n t = (T : Table) → PhysicalMeans F shape n T → (L : Table) × IsMeaning F t L × Within T L

-- the number of a tree's node
abbrev pub number_of : PlanTree → ℕ
number_of (node at step below) = at
number_of missing = 0

abbrev mutual
  -- a node of this number stands in the tree
  pub HasNumber : ℕ → PlanTree → Type 0
  HasNumber n (node at step below) = (n ≡ at) ⊎ SomeHasNumber n below
  HasNumber n missing = ⊥

  pub SomeHasNumber : ℕ → PlanTrees → Type 0
  SomeHasNumber n no_trees = ⊥
  SomeHasNumber n (tree t ts) = HasNumber n t ⊎ SomeHasNumber n ts

abbrev mutual
  -- u is the tree, or stands below
  pub IsPartOf : PlanTree → PlanTree → Type 0
  IsPartOf u (node at step below) = (u ≡ node at step below) ⊎ IsPartOfSome u below
  IsPartOf u missing = ⊥

  pub IsPartOfSome : PlanTree → PlanTrees → Type 0
  IsPartOfSome u no_trees = ⊥
  IsPartOfSome u (tree t ts) = IsPartOf u t ⊎ IsPartOfSome u ts

abbrev mutual
  -- no node stands below one of its own number
  pub IsNumberedApart : PlanTree → Type 0
  IsNumberedApart (node at step below) = (¬ SomeHasNumber at below) × AreNumberedApart below
  IsNumberedApart missing = ⊤

  pub AreNumberedApart : PlanTrees → Type 0
  AreNumberedApart no_trees = ⊤
  AreNumberedApart (tree t ts) = IsNumberedApart t × AreNumberedApart ts

-- The physical node was made for this node of a plan: it has its number as origin, what it makes there breaks that one, and where it is large that one is.
pub record IsMadeOf (F : Functions) (shape : Shape) (n : ℕ) (u : PlanTree) : Type 0 where
  pub origin : (p : PhysicalNode) → slice_get shape n ≡ Some p → p.origin ≡ number_of u
  pub causes : (c : Cause) → c.node ≡ number_of u → PhysicalBrokenBy F shape n c → IsBrokenBy F u c
  pub sizes : PhysicalIsLarge F shape n → IsLarge F u

-- each node of the shape was made for one of the tree
abbrev pub AreMadeOf : Functions → Shape → PlanTree → Type 0
AreMadeOf F shape t = (n : ℕ) → n < length shape → (u : PlanTree) × IsPartOf u t × IsMadeOf F shape n u
