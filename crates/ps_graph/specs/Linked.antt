-- A node's keys name its pipes.
use Rattle.std.specs.Prelude.{◌≡◌, ℕ, List, Option, IsTrue, map, length}
use Rattle.ps_ports.specs.Wires.{IsWired}
use Rattle.ps_graph.specs.declared.graph.LogicalPipe.{LogicalPipe}
use Rattle.ps_graph.specs.declared.key.LogicalPipeKey.{LogicalPipeKey}
use Rattle.ps_graph.specs.Shown.{are_there, is_from, is_to, numbers, places_from, values, wires_of}

-- which ports a pipe joins
abbrev pub joined : LogicalPipe → ℕ × ℕ × ℕ × ℕ
joined p = (p.sender.0, p.send_port, p.receiver.0, p.recv_port)

-- the keys are those of the pipes into and out of a node, and the pipes are wired
pub record AreKeysOf (n : ℕ) (inputs outputs : List LogicalPipeKey) (slots : List (Option LogicalPipe)) : Type 0 where
  pub there : IsTrue (are_there slots)
  pub into : numbers inputs ≡ places_from 0 (is_to n) (values slots)
  pub from : numbers outputs ≡ places_from 0 (is_from n) (values slots)
  pub wired : (nodes : ℕ) × IsWired nodes (wires_of slots)

-- the pipes join what they joined
pub record JoinAlike (old new : List (Option LogicalPipe)) : Type 0 where
  pub there : IsTrue (are_there new)
  pub long : length new ≡ length old
  pub alike : map joined (values new) ≡ map joined (values old)
