-- When a graph that was put together lacks nothing.
use Rattle.std.specs.Prelude.{◌≡◌, ℕ, ◌<◌, ◌&&◌, List, Some, count_by, nat_eq, slice_get}
use Rattle.ps_ports.specs.Wires.{Wire}
use Rattle.ps_settle.specs.Standings.{Standing}

-- how many wires lead to a node
abbrev pub inputs_of : ℕ → List Wire → ℕ
inputs_of n ws = count_by (λ (p : Wire). nat_eq p.receiver n) ws

-- how many wires lead from a node, and how many from one of its ports
abbrev pub readers_of : ℕ → List Wire → ℕ
readers_of n ws = count_by (λ (p : Wire). nat_eq p.sender n) ws

abbrev pub readers_of_port : (n port : ℕ) → List Wire → ℕ
readers_of_port n port ws = count_by (λ (p : Wire). nat_eq p.sender n && nat_eq p.port port) ws

-- Each port has one reader: a node has the ports from 0 on, as many as it has readers. And each node has as many inputs and readers as it asks for.
pub record IsComplete {N : Type 0} (HasPorts : N → (inputs outputs : ℕ) → Type 0) (s : Standing N) : Type 0 where
  pub one_reader : (n port : ℕ) → port < readers_of n s.wires → readers_of_port n port s.wires ≡ 1
  pub ports : (n : ℕ) (node : N) → slice_get s.nodes n ≡ Some node → HasPorts node (inputs_of n s.wires) (readers_of n s.wires)
