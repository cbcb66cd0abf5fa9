-- A graph as it is put together of a shape.
use Rattle.std.specs.Prelude.{◌≡◌}
use Rattle.std.specs.List.{AllZip}
use Rattle.graph_parts.specs.Wires.{origins_in, wires_from}
use Rattle.ps_meaning.specs.Shape.{PhysicalNode, Shape}
use Rattle.ps_meaning.specs.Sound.{input_schemas}
use Rattle.ps_graph.specs.Shown.{nodes_of, wires_of}
use Rattle.ps_graph.specs.Turning.{origins_of}
use Rattle.ps_graph.specs.declared.graph.Graph.{Graph}
use Rattle.ps_nodes.specs.declared.flow.FlowNode.{FlowNode}
use Rattle.plan_graphs.specs.Made.{IsMadeOf}

-- the node of a graph is new and made of a node of the shape
abbrev pub IsMadeIn : Shape → PhysicalNode → FlowNode → Type 0
IsMadeIn shape p n = IsMadeOf p.kind p.schema (input_schemas shape p) n

-- The graph shows the shape, and is as it was put together: its nodes are new and made of those of the shape, k-th of k-th, they come from the same logical nodes, and its pipes are the shape's inputs, blocked on both ends.
pub record IsBuiltOf (shape : Shape) (g : Graph FlowNode) : Type 0 where
  pub nodes : AllZip (IsMadeIn shape) shape (nodes_of g.nodes.slots)
  pub origins : origins_of g.nodes.slots ≡ origins_in shape
  pub wires : wires_of g.pipes.slots ≡ wires_from 0 shape
