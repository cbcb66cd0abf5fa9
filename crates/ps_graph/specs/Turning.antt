-- One update of one node of a graph, and which errors updates may give.
use Rattle.std.specs.Prelude.{◌≡◌, ◌≢◌, ℕ, ◌⊎◌, Bool, true, false, List, Option, Some, map, slice_get, slice_set}
use Rattle.pu_base.specs.declared.arena.Node.{Node}
use Rattle.ps_frame.specs.declared.refusal.PolarsError.{PolarsError}
use Rattle.ps_frame.specs.declared.refusal.PolarsError.TheVariants as error
use Rattle.ps_ports.specs.Ports.{Sides}
use Rattle.ps_ports.specs.Wires.{given_to}
use Rattle.ps_settle.specs.Standings.{Standing, Updates}
use Rattle.ps_graph.specs.declared.graph.GraphNode.{GraphNode}
use Rattle.ps_graph.specs.declared.turns.Ends.{Ends}
use Rattle.ps_graph.specs.Origins.{at_node}
use Rattle.ps_graph.specs.Shown.{values}

abbrev pub sides_of : Ends → Sides
sides_of e = record { inputs = e.recv.items; outputs = e.send.items }

abbrev pub origins_of : {N : Type 0} → List (Option (GraphNode N)) → List Node
origins_of slots = map (λ (n : GraphNode _). n.origin) (values slots)

module _ {N : Type 0} (rank : N → ℕ) (Update : N → Sides → N → Sides → Type 0) (Faults : N → Sides → PolarsError → Type 0) where
  -- Updates of single nodes lead to one whose next update gives this error; it is told at the node's origin.
  pub record FaultsAfter (s : Standing N) (origins : List Node) (e : PolarsError) : Type 0 where
    pub last : Standing N
    pub reached : Updates rank Update s last
    pub number : ℕ
    pub node : N
    pub fault : PolarsError
    pub origin : Node
    pub stands : slice_get last.nodes number ≡ Some node
    pub comes_from : slice_get origins number ≡ Some origin
    pub faults : Faults node (given_to number last.wires) fault
    pub told : e ≡ at_node origin fault

  -- the errors of updates: out of memory, or a fault
  abbrev pub MayFail : Standing N → List Node → PolarsError → Type 0
  MayFail s origins e = (e ≡ error.OutOfMemory) ⊎ FaultsAfter s origins e

-- a node is replaced by what its update makes of it
pub record NodeTurned {N : Type 0} (rank : N → ℕ) (Update : N → Sides → N → Sides → Type 0) (node : GraphNode N) (number : ℕ) (slots slots' : List (Option (GraphNode N))) (given answer : Sides) (changed : Bool) : Type 0 where
  pub after : N
  pub update : Update node.compute given after answer
  pub next : slots' ≡ slice_set slots number (Some (record node { compute = after }))
  pub stays : changed ≡ false → rank node.compute ≡ rank after
  pub changes : changed ≡ true → rank node.compute ≢ rank after

-- the error of a node's update, at its origin
abbrev pub NodeFails : {N : Type 0} → (N → Sides → PolarsError → Type 0) → GraphNode N → Sides → PolarsError → Type 0
NodeFails Faults node given e = (e ≡ error.OutOfMemory) ⊎ ((fault : PolarsError) × Faults node.compute given fault × (e ≡ at_node node.origin fault))
