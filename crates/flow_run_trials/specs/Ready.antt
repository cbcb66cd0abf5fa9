-- Graphs whose runs a trial may drive.
use Rattle.std.specs.Prelude.{◌≡◌, ℕ, IsTrue, List, Option, Some}
use Rattle.flow_driver.specs.Runs.{CanBeDriven, HasOneSink}
use Rattle.flow_runs.specs.Running.{IsNewNode}
use Rattle.flow_runs.specs.declared.node.RunningNode.{RunningNode}
use Rattle.keyed_slots.specs.Slots.{value_at}
use Rattle.plan_graphs.specs.Wiring.{IsBuiltOf as IsPutTogetherOf}
use Rattle.ps_flow.specs.Claiming.{streams}
use Rattle.ps_flow.specs.Openings.{IsBuiltOf}
use Rattle.ps_frame.specs.Functions.{Functions}
use Rattle.ps_frame.specs.Tables.{Fields}
use Rattle.ps_graph.specs.Shown.{IsLinked}
use Rattle.ps_graph.specs.declared.graph.Graph.{Graph}
use Rattle.ps_graph.specs.declared.graph.GraphNode.{GraphNode}
use Rattle.ps_meaning.specs.Shape.{PhysicalNode, Shape, in_memory_sink}
use Rattle.ps_nodes.specs.Seen.{kind_of}
use Rattle.ps_nodes.specs.declared.flow.FlowNode.{FlowNode}
use Rattle.run_graphs.specs.Runs.{AllStreamIn, HaveFitInputs, schemas_of}

-- a node streams, and one is a sink
abbrev pub Streams : GraphNode FlowNode → Type 0
Streams a = IsTrue (streams (kind_of a.compute))

abbrev pub IsSink : GraphNode FlowNode → Type 0
IsSink a = kind_of a.compute ≡ in_memory_sink

-- one node of a graph is a sink, that at this place, and no other
pub record IsOneSink (slots : List (Option (GraphNode FlowNode))) (place : ℕ) : Type 0 where
  pub sink : GraphNode FlowNode
  pub there : value_at slots place ≡ Some sink
  pub kind : IsSink sink
  pub only : (k : ℕ) (a : GraphNode FlowNode) → value_at slots k ≡ Some a → IsSink a → k ≡ place

-- The graph of a run that a graph becomes whose nodes' tables have these schemas. All nodes stream, and one is a sink.
pub record IsRunOf (g : Graph FlowNode) (schemas : List Fields) (run : Graph RunningNode) : Type 0 where
  pub linked : IsLinked run
  pub built : (shape : Shape) → IsPutTogetherOf shape g → schemas_of shape ≡ schemas → HaveFitInputs shape → IsBuiltOf IsNewNode shape run
  pub streaming : AllStreamIn g.nodes.slots
  pub place : ℕ
  pub one_sink : IsOneSink g.nodes.slots place

-- The graph is as it was put together of a sound shape with one sink, whose nodes stream.
pub record IsReady {N : Type 0} (IsNew : N → PhysicalNode → List Fields → Type 0) (F : Functions) (g : Graph N) : Type 0 where
  pub linked : IsLinked g
  pub shape : Shape
  pub driven : CanBeDriven F shape
  pub one_sink : HasOneSink shape
  pub built : IsBuiltOf IsNew shape g
