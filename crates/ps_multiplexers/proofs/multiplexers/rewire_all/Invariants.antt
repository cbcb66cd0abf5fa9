use Rattle.std.proofs.Common.{◌≡◌, ℕ, ◌<◌, ◌^◌, [], Option, drop, length}
use Rattle.std.specs.Prelude.{flat_map, IsSome}
use Rattle.keyed_slots.specs.Slots.{value_at}
use Rattle.pu_base.specs.declared.arena.Node.{Node}
use Rattle.ps_frame.specs.Trees.{Tree}
use Rattle.ps_multiplexers.proofs.Rewiring.{IsRewiring}
use Rattle.ps_multiplexers.specs.Readers.{HasPorts}
use Rattle.ps_phys.specs.Shown.{nodes_of}
use Rattle.ps_phys.specs.Underway.{numbers_in}
use Rattle.ps_phys.specs.Walks.{numbers_read}
use Rattle.ps_multiplexers.proofs.multiplexers.rewire_all.Given as goal

abbrev pub invariant-loop-place : goal.invariant-loop-place
invariant-loop-place l =
    ((f : Node → Tree) (number : ℕ → Option ℕ) → HasPorts number [] l.fn.readers.slots → length (flat_map (numbers_read (nodes_of f l.fn.phys.slots)) (numbers_in l.taken)) < 2 ^ 64
    → IsRewiring number (numbers_in l.taken) (nodes_of f l.fn.phys.slots) (numbers_in (drop l.place l.taken)) (nodes_of f l.phys.slots) l.readers.slots)
    × (length l.phys.slots ≡ length l.fn.phys.slots)
    × ((n : ℕ) → IsSome (value_at l.fn.phys.slots n) → IsSome (value_at l.phys.slots n))
