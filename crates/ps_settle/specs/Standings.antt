-- A graph of any nodes, its updates, and when it has come to rest.
use Rattle.std.specs.Prelude.{◌≡◌, ℕ, List, Some, slice_get, slice_set}
use Rattle.ps_ports.specs.Ports.{Sides}
use Rattle.ps_ports.specs.Wires.{Wire, given_to, said_by, written}

-- the nodes in the order in which they were added, and the wires between them
pub record Standing (N : Type 0) : Type 0 where
  pub nodes : List N
  pub wires : List Wire

-- a node has become another one, and its answer is written back to its pipes
abbrev pub updated : {N : Type 0} → ℕ → N → Sides → Standing N → Standing N
updated n b answer s = record { nodes = slice_set s.nodes n b; wires = written n answer s.wires }

-- rank and Update are as in the laws of updates
module _ {N : Type 0} (rank : N → ℕ) (Update : N → Sides → N → Sides → Type 0) where
  -- a list of updates of single nodes leads from one standing to another
  pub data Updates : Standing N → Standing N → Type 0 where
    no_update : {s : Standing N} → Updates s s
    one_update : {s t : Standing N} (n : ℕ) (a b : N) (answer : Sides) → slice_get s.nodes n ≡ Some a → Update a (given_to n s.wires) b answer → Updates (updated n b answer s) t → Updates s t

  -- Every node's update leaves the states of its ports and its stage as they are, and each node stands as such an update left it.
  pub record IsSettled (s : Standing N) : Type 0 where
    pub leaves : (n : ℕ) (a b : N) (answer : Sides) → slice_get s.nodes n ≡ Some a → Update a (given_to n s.wires) b answer → (answer ≡ said_by n s.wires) × (rank b ≡ rank a)
    pub left : (n : ℕ) (b : N) → slice_get s.nodes n ≡ Some b → (a : N) × Update a (given_to n s.wires) b (said_by n s.wires) × (rank a ≡ rank b)
