-- The keys of the pipes so far.
use Rattle.std.proofs.Common.{◌≡◌, take}
use Rattle.ps_graph.specs.Running.{feeds_flagged}
use Rattle.ps_graph.specs.Shown.{numbers, places_from, values, wire_of}
use Rattle.ps_graph.proofs.phase.feeding_pipes.Given as goal

abbrev pub invariant-loop-number : goal.invariant-loop-number
invariant-loop-number l = numbers l.keys.items ≡ places_from 0 (λ p. feeds_flagged l.flags (wire_of p)) (take l.number (values l.pipes.slots))
