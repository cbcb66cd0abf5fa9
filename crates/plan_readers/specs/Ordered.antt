-- Physical nodes in an order, and whether what one of them reads stands before it.
use Rattle.std.specs.Prelude.{ℕ, ◌<◌, List, map, Option}
use Rattle.std.specs.List.{AllByRecursion}
use Rattle.pu_base.specs.declared.arena.Node.{Node}
use Rattle.ps_frame.specs.Trees.{Tree}
use Rattle.ps_meaning.specs.Shape.{Shape}
use Rattle.ps_phys.specs.Placed.{placed}
use Rattle.ps_phys.specs.Shown.{nodes_of}
use Rattle.ps_phys.specs.Underway.{numbers_in}
use Rattle.ps_phys.specs.Walks.{Stream, shape_in}
use Rattle.ps_phys.specs.declared.phys.PhysNode.{PhysNode}
use Rattle.ps_phys.specs.declared.phys.PhysNodeKey.{PhysNodeKey}

-- the shape of physical nodes in this order
abbrev pub ordered : (Node → Tree) → List (Option PhysNode) → List PhysNodeKey → Shape
ordered f slots order = shape_in (numbers_in order) (nodes_of f slots)

-- each of these streams is of a node with a place before this one
abbrev pub AreEarlier : List (Option ℕ) → ℕ → List Stream → Type 0
AreEarlier places before inputs = AllByRecursion (λ (i : Stream). i.0 < before) (map (placed places before) inputs)
