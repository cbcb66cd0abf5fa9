-- Which graph of a run a graph becomes.
use Rattle.std.specs.Prelude.{◌≡◌, ℕ, ◌<◌, ◌++◌, ◌∷◌, List, [], Option, Some, IsTrue, length, map, slice_get}
use Rattle.flow_runs.specs.Running.{IsNewNode}
use Rattle.flow_runs.specs.declared.node.RunningNode.{RunningNode}
use Rattle.keyed_slots.specs.Slots.{value_at}
use Rattle.ps_flow.specs.Claiming.{streams}
use Rattle.ps_frame.specs.Tables.{Fields}
use Rattle.ps_graph.specs.declared.graph.GraphNode.{GraphNode}
use Rattle.ps_meaning.specs.Shape.{PhysicalNode, Shape}
use Rattle.ps_meaning.specs.Sound.{HasInputs}
use Rattle.ps_nodes.specs.Seen.{IsNew, kind_of}
use Rattle.ps_nodes.specs.declared.flow.FlowNode.{FlowNode}

-- The node of a run that a node of a graph becomes: with its pipes, of the logical node that it comes from, and new where that is new.
pub record RunsAs (a : GraphNode FlowNode) (s : Fields) (b : GraphNode RunningNode) : Type 0 where
  pub origin : b.origin ≡ a.origin
  pub inputs : b.inputs ≡ a.inputs
  pub outputs : b.outputs ≡ a.outputs
  pub new : (p : PhysicalNode) (ss : List Fields) → IsNew p.kind a.compute → p.schema ≡ s → p.origin ≡ a.origin.0 → HasInputs p.kind (length p.inputs) → IsNewNode b.compute p ss

-- the next one stands behind the others
abbrev pub IsNextIn : Option (GraphNode FlowNode) → Option Fields → (old new : List (Option (GraphNode RunningNode))) → Type 0
IsNextIn (Some a) (Some s) old new = (b : GraphNode RunningNode) × RunsAs a s b × (new ≡ old ++ Some b ∷ [])
IsNextIn a s old new = ⊥

-- each of these nodes streams
abbrev pub AllStreamIn : List (Option (GraphNode FlowNode)) → Type 0
AllStreamIn slots = (k : ℕ) (a : GraphNode FlowNode) → value_at slots k ≡ Some a → IsTrue (streams (kind_of a.compute))

-- the node at a place, with the schema of its table, became the one at the same place
pub record RunsAt (old : List (Option (GraphNode FlowNode))) (ss : List Fields) (new : List (Option (GraphNode RunningNode))) (k : ℕ) : Type 0 where
  pub was : GraphNode FlowNode
  pub schema : Fields
  pub is : GraphNode RunningNode
  pub old_at : value_at old k ≡ Some was
  pub schema_at : slice_get ss k ≡ Some schema
  pub new_at : value_at new k ≡ Some is
  pub runs : RunsAs was schema is

-- so many nodes became those of a run
pub record AreRunning (count : ℕ) (old : List (Option (GraphNode FlowNode))) (ss : List Fields) (new : List (Option (GraphNode RunningNode))) : Type 0 where
  pub long : length new ≡ count
  pub each : (k : ℕ) → k < count → RunsAt old ss new k

-- the schemas of the tables of a shape's nodes
abbrev pub schemas_of : Shape → List Fields
schemas_of shape = map (λ (p : PhysicalNode). p.schema) shape

-- each node has as many inputs as one of its kind
abbrev pub HaveFitInputs : Shape → Type 0
HaveFitInputs shape = (k : ℕ) (p : PhysicalNode) → slice_get shape k ≡ Some p → HasInputs p.kind (length p.inputs)
