use Rattle.std.proofs.Common.{◌≡◌, ◌++◌, ◌-◌, length, drop, map, string_bytes}
use Rattle.ps_phys.proofs.Lines.{more_inputs}
use Rattle.ps_phys.specs.Placed.{placed}
use Rattle.ps_phys.specs.Printed.{inputs_text}
use Rattle.ps_phys.specs.Shown.{inputs_of}
use Rattle.ps_phys.proofs.text.push_inputs.Given as goal

abbrev pub invariant-loop-input : goal.invariant-loop-input
invariant-loop-input l = string_bytes l.text ++ more_inputs l.places.slots l.count (drop l.place (inputs_of l.kind)) ≡ string_bytes l.fn.text ++ inputs_text (map (placed l.places.slots l.count) (inputs_of l.kind))

abbrev pub decreases-loop-input : goal.decreases-loop-input
decreases-loop-input l = length (inputs_of l.kind) - l.place
