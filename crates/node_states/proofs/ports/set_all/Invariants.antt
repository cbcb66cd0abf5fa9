-- What was set, and what is to be set, are the whole.
use Rattle.std.proofs.Common.{◌≡◌, ◌++◌, drop, take}
use Rattle.node_states.proofs.Steps.{set_rest}
use Rattle.node_states.proofs.ports.set_all.Given as goal

abbrev pub invariant-loop-port : goal.invariant-loop-port
invariant-loop-port l = take l.port-index l.ports ++ set_rest l.state (drop l.port-index l.ports) ≡ set_rest l.state l.fn.ports
