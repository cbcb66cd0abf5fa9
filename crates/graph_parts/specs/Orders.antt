-- The shape of physical nodes in an order.
use Rattle.std.specs.Prelude.{◌-◌, ◌<◌, ◌^◌, List, Option, length}
use Rattle.pu_base.specs.declared.arena.Node.{Node}
use Rattle.ps_frame.specs.Functions.{Functions}
use Rattle.ps_frame.specs.Trees.{Tree}
use Rattle.ps_meaning.specs.Shape.{Shape}
use Rattle.ps_meaning.specs.Sound.{IsSoundButForReaders, all_inputs}
use Rattle.ps_phys.specs.Shown.{nodes_of}
use Rattle.ps_phys.specs.Underway.{AreThere, numbers_in}
use Rattle.ps_phys.specs.Walks.{shape_in}
use Rattle.ps_phys.specs.declared.phys.PhysNode.{PhysNode}
use Rattle.ps_phys.specs.declared.phys.PhysNodeKey.{PhysNodeKey}

-- the shape of physical nodes in this order
abbrev pub ordered : (Node → Tree) → List (Option PhysNode) → List PhysNodeKey → Shape
ordered f slots order = shape_in (numbers_in order) (nodes_of f slots)

-- The nodes of this order are there, and their shape is sound but for the number of readers; there are few enough of them, and of their inputs, for a graph.
pub record IsSoundOrder (f : Node → Tree) (slots : List (Option PhysNode)) (order : List PhysNodeKey) : Type 0 where
  pub there : AreThere slots order
  pub functions : Functions
  pub sound : IsSoundButForReaders functions (ordered f slots order)
  pub few : length order < 2 ^ 32 - 1
  pub few_inputs : length (all_inputs (ordered f slots order)) < 2 ^ 32 - 1
