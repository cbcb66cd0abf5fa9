-- What a graph shows: its nodes and its wires, in the order in which they were added, and how nodes name their pipes.
use Rattle.std.specs.Prelude.{◌≡◌, ℕ, ◌+◌, ◌<◌, ◌^◌, Bool, cond, List, [], ◌∷◌, Option, Some, None, is_some, map, length, nat_eq, Contains, IsTrue}
use Rattle.std.specs.List.{filter as kept, list_all}
use Rattle.keyed_slots.specs.Slots.{value_at}
use Rattle.ps_frame.specs.Zip.{below}
use Rattle.ps_ports.specs.Wires.{IsWired, Wire, wires_in, wires_out}
use Rattle.ps_settle.specs.Standings.{Standing}
use Rattle.ps_graph.specs.declared.graph.Graph.{Graph}
use Rattle.ps_graph.specs.declared.graph.GraphNode.{GraphNode}
use Rattle.ps_graph.specs.declared.graph.LogicalPipe.{LogicalPipe}
use Rattle.ps_graph.specs.declared.key.LogicalPipeKey.{LogicalPipeKey}

-- the values of slots, and whether each has one
abbrev pub values : {A : Type 0} → List (Option A) → List A
values [] = []
values (None ∷ xs) = values xs
values (Some x ∷ xs) = x ∷ values xs

abbrev pub are_there : {A : Type 0} → List (Option A) → Bool
are_there xs = list_all is_some xs

-- the numbers from k on of the items that pass a test
abbrev pub places_from : {A : Type 0} → ℕ → (A → Bool) → List A → List ℕ
places_from k test [] = []
places_from k test (x ∷ xs) = cond (test x) (k ∷ places_from (k + 1) test xs) (places_from (k + 1) test xs)

abbrev pub wire_of : LogicalPipe → Wire
wire_of p = record { sender = p.sender.0; port = p.send_port; receiver = p.receiver.0; input = p.recv_port; send_state = p.send_state; receive_state = p.recv_state }

abbrev pub numbers : List LogicalPipeKey → List ℕ
numbers keys = map (λ (key : LogicalPipeKey). key.0) keys

abbrev pub is_to : ℕ → LogicalPipe → Bool
is_to n p = nat_eq p.receiver.0 n

abbrev pub is_from : ℕ → LogicalPipe → Bool
is_from n p = nat_eq p.sender.0 n

-- the inputs of a node that pipes lead to, in the order in which the pipes were added
abbrev pub inputs_into : ℕ → List LogicalPipe → List ℕ
inputs_into n pipes = map (λ (p : LogicalPipe). p.recv_port) (kept (is_to n) pipes)

abbrev pub wires_of : List (Option LogicalPipe) → List Wire
wires_of slots = map wire_of (values slots)

module _ {N : Type 0} where
  abbrev pub nodes_of : List (Option (GraphNode N)) → List N
  nodes_of slots = map (λ (n : GraphNode N). n.compute) (values slots)

  abbrev pub standing_of : Graph N → Standing N
  standing_of g = record { nodes = nodes_of g.nodes.slots; wires = wires_of g.pipes.slots }

  -- Nothing was removed, each node names the pipes into it and out of it, in the order in which they were added, each pipe leads from a node to a later one below the bound, and the pipes into a node lead to its inputs from 0 on.
  pub record IsLinkedUpTo (bound : ℕ) (g : Graph N) : Type 0 where
    pub nodes_there : IsTrue (are_there g.nodes.slots)
    pub pipes_there : IsTrue (are_there g.pipes.slots)
    pub few_nodes : length g.nodes.slots < 2 ^ 32
    pub few_pipes : length g.pipes.slots < 2 ^ 32
    pub inputs : (n : ℕ) (node : GraphNode N) → value_at g.nodes.slots n ≡ Some node → numbers node.inputs.items ≡ places_from 0 (is_to n) (values g.pipes.slots)
    pub outputs : (n : ℕ) (node : GraphNode N) → value_at g.nodes.slots n ≡ Some node → numbers node.outputs.items ≡ places_from 0 (is_from n) (values g.pipes.slots)
    pub inside : (p : LogicalPipe) → Contains (values g.pipes.slots) p → (p.sender.0 < length g.nodes.slots) × (p.sender.0 < p.receiver.0) × (p.receiver.0 < bound)
    pub numbered : (n : ℕ) → inputs_into n (values g.pipes.slots) ≡ below (length (inputs_into n (values g.pipes.slots)))

  -- each pipe leads from a node to a later one
  abbrev pub IsLinked : Graph N → Type 0
  IsLinked g = IsLinkedUpTo (length g.nodes.slots) g

  -- A graph that may run: linked, wired, and each node has as many pipes as it has ports.
  pub record CanRun (HasPorts : N → ℕ → ℕ → Type 0) (g : Graph N) : Type 0 where
    pub linked : IsLinked g
    pub wired : IsWired (length (nodes_of g.nodes.slots)) (wires_of g.pipes.slots)
    pub ports : (n : ℕ) (node : GraphNode N) → value_at g.nodes.slots n ≡ Some node → HasPorts node.compute (length (wires_in n (wires_of g.pipes.slots))) (length (wires_out n (wires_of g.pipes.slots)))
