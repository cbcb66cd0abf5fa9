-- What is known while a graph is put together, node by node.
use Rattle.std.specs.Prelude.{◌≡◌, ℕ, List, Option, take}
use Rattle.std.specs.List.{AllZip}
use Rattle.graph_parts.specs.Keyed.{IsKeyed}
use Rattle.graph_parts.specs.Wires.{origins_in, wires_from}
use Rattle.ps_meaning.specs.Shape.{Shape}
use Rattle.ps_graph.specs.Shown.{IsLinked, nodes_of as graph_nodes, wires_of}
use Rattle.ps_graph.specs.Turning.{origins_of}
use Rattle.ps_graph.specs.declared.graph.Graph.{Graph}
use Rattle.ps_graph.specs.declared.key.GraphNodeKey.{GraphNodeKey}
use Rattle.ps_nodes.specs.declared.flow.FlowNode.{FlowNode}
use Rattle.plan_graphs.specs.Wiring.{IsMadeIn}

-- The nodes of the first places are in the graph, with their pipes, and have their keys.
pub record IsUnderway (shape : Shape) (order : List ℕ) (place : ℕ) (g : Graph FlowNode) (keys : List (Option GraphNodeKey)) : Type 0 where
  pub linked : IsLinked g
  pub nodes : AllZip (IsMadeIn shape) (take place shape) (graph_nodes g.nodes.slots)
  pub origins : origins_of g.nodes.slots ≡ origins_in (take place shape)
  pub wires : wires_of g.pipes.slots ≡ wires_from 0 (take place shape)
  pub keyed : IsKeyed (take place order) keys
