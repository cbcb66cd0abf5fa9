use Rattle.std.proofs.Common.{◌≡◌, ◌-◌, ◌^◌, length, take}
use Rattle.std.specs.Prelude.{map}
use Rattle.ps_phys.specs.Shown.{inputs_of}
use Rattle.graph_parts.specs.Keyed.{port_of}
use Rattle.graph_parts.proofs.keys.ports.Given as goal

abbrev pub invariant-loop-input : goal.invariant-loop-input
invariant-loop-input l = l.ports.items ≡ map (port_of (record { 0 = 2 ^ 32 - 1 }) l.keys.slots) (take l.place (inputs_of l.kind))

abbrev pub decreases-loop-input : goal.decreases-loop-input
decreases-loop-input l = length (inputs_of l.kind) - l.place
