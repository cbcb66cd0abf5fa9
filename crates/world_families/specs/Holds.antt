-- What a world keeps of a node and its own pipes, by the node's kind.
use Rattle.std.specs.Prelude.{◌≡◌, ℕ, Some, slice_get}
use Rattle.ps_frame.specs.Functions.{Functions}
use Rattle.ps_meaning.specs.Shape.{PhysicalKind, equi_join, group_by_node, in_memory_join, in_memory_map, in_memory_sink, in_memory_source, independent_select, multiplexer, negative_slice, ordered_union, reduce, zip_node}
use Rattle.ps_world.specs.World.{Node, World}
use Rattle.world_families.specs.Joins.{HoldsJoin}
use Rattle.world_families.specs.Keepers.{HoldsGroups, HoldsMade, HoldsReduce, StoresAll}
use Rattle.world_families.specs.Onward.{HoldsPassing, HoldsPorts}
use Rattle.world_families.specs.Sources.{HoldsSelect, HoldsSource}
use Rattle.world_families.specs.Unions.{HoldsUnion}
use Rattle.world_families.specs.Work.{PipesHold}
use Rattle.world_families.specs.Zips.{HoldsZip}

abbrev pub HoldsOfKind : Functions → World → ℕ → Node → PhysicalKind → Type 0
HoldsOfKind F w n node (in_memory_source t) = HoldsSource F w n node t.rows
HoldsOfKind F w n node (independent_select es) = HoldsSelect F w n node
HoldsOfKind F w n node (in_memory_map step) = HoldsMade F w n node
HoldsOfKind F w n node (in_memory_join j) = HoldsMade F w n node
HoldsOfKind F w n node (negative_slice back count) = HoldsMade F w n node
HoldsOfKind F w n node in_memory_sink = StoresAll w n node
HoldsOfKind F w n node (reduce es) = HoldsReduce F w n node
HoldsOfKind F w n node (group_by_node keys aggregates) = HoldsGroups F w n node
HoldsOfKind F w n node (equi_join j) = HoldsJoin F w n node j
HoldsOfKind F w n node ordered_union = HoldsUnion F w n node
HoldsOfKind F w n node (zip_node extend) = HoldsZip F w n node extend
HoldsOfKind F w n node multiplexer = HoldsPorts w n
HoldsOfKind F w n node kind = HoldsPassing F w n node

pub record HoldsAt (F : Functions) (w : World) (n : ℕ) (node : Node) : Type 0 where
  pub pipes : PipesHold w n
  pub own : HoldsOfKind F w n node node.node.kind

-- of a number that is no node's, nothing
abbrev pub Holds : Functions → World → ℕ → Type 0
Holds F w n = (node : Node) → slice_get w.nodes n ≡ Some node → HoldsAt F w n node
