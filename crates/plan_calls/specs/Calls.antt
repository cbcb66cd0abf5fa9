-- What calls on a plan may have come to, and what one more call keeps of the node that it lowers.
use Rattle.std.specs.Prelude.{◌≡◌, ◌↔◌, ◌⊎◌, ◌++◌, ◌<◌, ◌≤◌, ℕ, List, [], ◌∷◌, length, slice_get, Some}
use Rattle.std.specs.List.{AllByRecursion}
use Rattle.plan_keeps.specs.Kept.{IsPartOf}
use Rattle.plan_rules.specs.Nodes.{step_stream}
use Rattle.plan_rules.specs.Plans.{Progress, lower_plan}
use Rattle.ps_frame.specs.Causes.{Cause}
use Rattle.ps_frame.specs.Functions.{Functions}
use Rattle.ps_frame.specs.Tables.{Fields, Table}
use Rattle.ps_meaning.specs.PlanTrees.{PlanTree}
use Rattle.ps_meaning.specs.Schemas.{schema_or_empty, tree_schema}
use Rattle.ps_meaning.specs.Shape.{PhysicalBrokenBy, PhysicalIsLarge, PhysicalMeans, PhysicalNode, Shape}
use Rattle.ps_meaning.specs.Sound.{IsSoundButForReaders}
use Rattle.ps_meaning.specs.Steps.{Step, cache}
use Rattle.ps_meaning.specs.Within.{Within}
use Rattle.ps_plan.specs.Graph.{Path, inputs_at}
use Rattle.ps_plan.specs.PlanMeanings.{NodeBrokenBy, NodeIsLarge, PlanMeans}
use Rattle.ps_plan.specs.Plans.{Plan, tree_of}
use Rattle.ps_rules.specs.Slots.{State, Stream}
use Rattle.ps_shares.specs.Kept.{IsInRange}
use Rattle.rule_parts.specs.Good.{AreStreams, IsGoodStep, IsStream, KnowsNames}
use Rattle.rule_soundness.specs.Plans.{KnowsPlan}
use Rattle.within_plans.specs.Within.{StaysWithinStep}

-- The nodes are those of a shape that is sound but for its readers, and no fresh name will be one of a schema's in the tree.
pub record IsFitFor (F : Functions) (t : PlanTree) (s : State) : Type 0 where
  pub sound : IsSoundButForReaders F s.nodes
  pub known : KnowsPlan F s.names t

-- How far calls on a plan with this tree may have come. They begin where no cache id has a stream, beside whatever nodes of a sound shape stand; each call lowers a part of the tree; and between two calls other nodes may be added, over which the shape is still sound. The counter of names stays in 64 bits: past that two numbers may have one name.
pub data HasCome (F : Functions) (t : PlanTree) : Progress → Type 0 where
  begun : (s : State) → IsFitFor F t s → HasCome F t (record { state = s; cached = [] })
  called : (p : Progress) (u : PlanTree) → HasCome F t p → IsPartOf u t → IsInRange (lower_plan F u p).progress.state → HasCome F t (lower_plan F u p).progress
  added : (p : Progress) (s : State) (more : Shape) → HasCome F t p → s.nodes ≡ p.state.nodes ++ more → IsFitFor F t s → HasCome F t (record { state = s; cached = p.cached })

-- A node means the tables that it meant before others came behind it; nothing else breaks it, and it is large only where it was.
pub record MeansAsBefore (F : Functions) (before after : Shape) (n : ℕ) : Type 0 where
  pub tables : (T : Table) → PhysicalMeans F after n T ↔ PhysicalMeans F before n T
  pub causes : (c : Cause) → PhysicalBrokenBy F after n c → PhysicalBrokenBy F before n c
  pub sizes : PhysicalIsLarge F after n → PhysicalIsLarge F before n

-- What a call keeps of a node of a plan. Nodes are only added, and the shape stays sound but for its readers; what stood means what it meant. The stream has the node's schema, and each table that it means lies within one that the node means under some choice. Each new node was made for the node or for one that it leads to, which is its origin. What it makes breaks that one, and where it is large that one is, unless some table at or under that one is large anyway.
pub record KeepsNode (F : Functions) (plan : Plan) (node : ℕ) (before after : Shape) (stream : Stream) : Type 0 where
  pub more : Shape
  pub nodes : after ≡ before ++ more
  pub sound : IsSoundButForReaders F after
  pub stood : (n : ℕ) → n < length before → MeansAsBefore F before after n
  pub stream_is : IsStream after stream (tree_schema F (tree_of plan node))
  pub tables : (T : Table) → PhysicalMeans F after stream.0 T → (L : Table) × PlanMeans F plan node L × Within T L
  pub made : (n : ℕ) (p : PhysicalNode) → length before ≤ n → slice_get after n ≡ Some p → Path (inputs_at plan) node p.origin
  pub causes : (n : ℕ) (p : PhysicalNode) (c : Cause) → length before ≤ n → slice_get after n ≡ Some p → c.node ≡ p.origin → PhysicalBrokenBy F after n c → NodeBrokenBy F plan p.origin c ⊎ NodeIsLarge F plan p.origin
  pub sizes : (n : ℕ) (p : PhysicalNode) → length before ≤ n → slice_get after n ≡ Some p → PhysicalIsLarge F after n → NodeIsLarge F plan p.origin

-- The rule of each step but a cache, over streams of a shape that is sound but for its readers, stays within the step, where no rule refuses that, names are known and the counter of names is in range.
abbrev pub StepsStayWithin : Functions → Type 0
StepsStayWithin F =
    (at : ℕ) (s : State) (step : Step) (inputs : List Stream) (ss : List Fields) → ((id : ℕ) → ¬ (cache id ≡ step)) → IsSoundButForReaders F s.nodes → AreStreams s.nodes inputs ss → IsGoodStep F step ss → AllByRecursion (KnowsNames s.names) (schema_or_empty F step ss ∷ ss)
    → let m = step_stream at F step (schema_or_empty F step ss) inputs s in
    IsInRange m.state → StaysWithinStep F at step s m.state inputs m.stream
