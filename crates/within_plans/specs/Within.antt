-- When each call keeps its step unless an input is large, and its stream's table stays within those that the step gives; and what is so of the plan then.
use Rattle.std.specs.Prelude.{◌≡◌, ◌++◌, ◌<◌, ◌≤◌, ◌⊎◌, ℕ, List, [], ◌∷◌, length, slice_get, Contains, Some, ⊤}
use Rattle.std.specs.List.{AllByRecursion}
use Rattle.ps_frame.specs.Causes.{Cause}
use Rattle.ps_frame.specs.Functions.{Functions}
use Rattle.ps_frame.specs.Tables.{Fields, Table}
use Rattle.ps_meaning.specs.Cases.{Case}
use Rattle.ps_meaning.specs.Meaning.{Choice, IsBrokenBy, IsLarge, Means}
use Rattle.ps_meaning.specs.PlanTrees.{PlanTree, PlanTrees, missing, no_trees, node, tree}
use Rattle.ps_meaning.specs.Schemas.{tree_schema}
use Rattle.ps_meaning.specs.Shape.{IsPhysicalChoice, PhysicalBrokenBy, PhysicalIsLarge, PhysicalNode, Shape}
use Rattle.ps_meaning.specs.Steps.{Step, cache}
use Rattle.ps_meaning.specs.Within.{EndAlike, Within}
use Rattle.ps_plan.specs.Lowering.{AgreesOn, AreTablesOf, Cached}
use Rattle.ps_rules.specs.Slots.{State, Stream}
use Rattle.plan_rules.specs.Nodes.{step_stream}
use Rattle.plan_rules.specs.Plans.{LoweredPlans, Progress, lower_plan, lower_plans, stream_of_cache}
use Rattle.step_keeps.specs.Kept.{EndsAsStep, HaveRows, IsMadeFor, ShowsOnlyStep, SomeIsLarge, tables_from}
use Rattle.plan_keeps.specs.Kept.{IsKeptCache, IsPartOf, number_of}

-- Nodes are only added, and the stream is one of them or an input. Whatever tables the nodes mean, where those of the inputs have rows of their schemas, the stream's table lies within one that the step gives over them; and the step is kept, unless one of them is large.
pub record StaysWithinStep (F : Functions) (at : ℕ) (step : Step) (before after : State) (inputs : List Stream) (stream : Stream) : Type 0 where
  pub more : Shape
  pub nodes : after.nodes ≡ before.nodes ++ more
  pub made : AllByRecursion (IsMadeFor at before.nodes inputs) more
  pub there : stream.0 < length after.nodes
  pub fed : (length before.nodes ≤ stream.0) ⊎ Contains inputs stream
  pub table : (tables : ℕ → Table) → IsPhysicalChoice F after.nodes tables → HaveRows before.nodes tables inputs → (K : Table) × Case F at step (tables_from tables inputs) K × Within (tables stream.0) K
  pub kept : (tables : ℕ → Table) → IsPhysicalChoice F after.nodes tables → HaveRows before.nodes tables inputs
      → (EndsAsStep F at step (tables_from tables inputs) (tables stream.0) × ShowsOnlyStep F before.nodes after.nodes tables at step (tables_from tables inputs)) ⊎ SomeIsLarge (tables_from tables inputs)

-- the call of a step over streams
abbrev pub IsWithinCall : Functions → ℕ → Step → Fields → LoweredPlans → Type 0
IsWithinCall F at step schema r =
    let m = step_stream at F step schema r.streams r.progress.state in
    StaysWithinStep F at step r.progress.state m.state r.streams m.stream

-- what is below stays within, and so does the call of the step over it
abbrev pub IsWithinNode : Functions → ℕ → Step → Fields → (Progress → Type 0) → (Progress → LoweredPlans) → Progress → Type 0
IsWithinNode F at (cache id) schema below lower p = IsKeptCache (stream_of_cache id p.cached) (below p)
IsWithinNode F at step schema below lower p = below p × IsWithinCall F at step schema (lower p)

abbrev mutual
  pub IsWithinPlan : Functions → PlanTree → Progress → Type 0
  IsWithinPlan F (node at step below) = IsWithinNode F at step (tree_schema F (node at step below)) (AreWithinPlans F below) (lower_plans F below)
  IsWithinPlan F missing = λ p. ⊥

  pub AreWithinPlans : Functions → PlanTrees → Progress → Type 0
  AreWithinPlans F no_trees = λ p. ⊤
  AreWithinPlans F (tree t ts) = λ p. IsWithinPlan F t p × AreWithinPlans F ts (lower_plan F t p).progress

-- The table lies within one of the tree, and ends as that unless some table at or under the tree is large.
abbrev pub IsMet : Functions → PlanTree → Table → Table → Type 0
IsMet F t P L = Within P L × (EndAlike P L ⊎ IsLarge F t)

-- each for its own
abbrev pub AllMet : Functions → PlanTrees → List Table → List Table → Type 0
AllMet F no_trees [] [] = ⊤
AllMet F (tree t ts) (p ∷ ps) (l ∷ ls) = IsMet F t p l × AllMet F ts ps ls
AllMet F _ _ _ = ⊥

-- Under the choice each cached id has a table of its input, which is met by what its stream means.
abbrev pub ServesWithin : Functions → (ℕ → Table) → List Cached → Choice → Type 0
ServesWithin F tables cached choice = (c : Cached) → Contains cached c → Means F choice c.input (choice c.id) × IsMet F c.input (tables c.from) (choice c.id)

-- Whatever tables the nodes of the shape mean, and whatever the caches had been given, there is a choice that goes on from there, and a table of the tree that the stream's meets.
abbrev pub LowersWithin : Functions → Shape → (before after : List Cached) → PlanTree → (stream : ℕ) → Type 0
LowersWithin F shape before after t stream =
    (tables : ℕ → Table) → AreTablesOf F shape tables → (choice : Choice) → ServesWithin F tables before choice
    → (other : Choice) × AgreesOn before choice other × ServesWithin F tables after other × ((L : Table) × Means F other t L × IsMet F t (tables stream) L)

-- The physical node was made for this node of a plan: it has its number as origin; what it makes there breaks that one, and where it is large that one is, unless some table at or under that one is large anyway.
pub record IsMadeOrLarge (F : Functions) (shape : Shape) (n : ℕ) (u : PlanTree) : Type 0 where
  pub origin : (p : PhysicalNode) → slice_get shape n ≡ Some p → p.origin ≡ number_of u
  pub causes : (c : Cause) → c.node ≡ number_of u → PhysicalBrokenBy F shape n c → IsBrokenBy F u c ⊎ IsLarge F u
  pub sizes : PhysicalIsLarge F shape n → IsLarge F u

-- each node of the shape was made for one of the tree
abbrev pub AreMadeOrLarge : Functions → Shape → PlanTree → Type 0
AreMadeOrLarge F shape t = (n : ℕ) → n < length shape → (u : PlanTree) × IsPartOf u t × IsMadeOrLarge F shape n u
