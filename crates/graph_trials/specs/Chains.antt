-- Chains of trial nodes, each of which reads the one before it.
use Rattle.std.specs.Prelude.{◌≡◌, ℕ, zero, suc, List, [], ◌∷◌, ◌++◌, length, map}
use Rattle.ps_ports.specs.declared.port_state.PortState.TheVariants as port
use Rattle.ps_ports.specs.Examples.{a_wire}
use Rattle.ps_ports.specs.Wires.{Wire}
use Rattle.ps_graph.specs.declared.graph.Graph.{Graph}
use Rattle.ps_graph.specs.Shown.{IsLinked, nodes_of, wires_of}
use Rattle.graph_trials.specs.declared.kind.Kind.{Kind}
use Rattle.graph_trials.specs.declared.node.TrialNode.{TrialNode}

-- the wire from a node to the next one, and so many of them
abbrev pub link : ℕ → Wire
link k = a_wire k 0 (suc k) 0 port.Blocked port.Blocked

abbrev pub line : ℕ → List Wire
line zero = []
line (suc k) = line k ++ link k ∷ []

abbrev pub kinds_of : Graph TrialNode → List Kind
kinds_of g = map (λ (n : TrialNode). n.kind) (nodes_of g.nodes.slots)

-- a linked graph in which each node but the first reads the one before it
pub record IsChain (g : Graph TrialNode) : Type 0 where
  pub linked : IsLinked g
  pub count : length g.nodes.slots ≡ suc (length g.pipes.slots)
  pub wires : wires_of g.pipes.slots ≡ line (length g.pipes.slots)
