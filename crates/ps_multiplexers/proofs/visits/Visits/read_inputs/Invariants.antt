use Rattle.std.proofs.Common.{◌≡◌, ℕ, ◌++◌, ◌-◌, ◌<◌, List, Option, length, take}
use Rattle.std.specs.Prelude.{IsSome, fold}
use Rattle.std.specs.List.{AllByRecursion}
use Rattle.keyed_slots.specs.Slots.{value_at}
use Rattle.ps_multiplexers.specs.Multiplexers.{Waiting, push_if_new}
use Rattle.ps_multiplexers.specs.Visiting.{Waits, left_to_take}
use Rattle.ps_phys.specs.Shown.{inputs_of}
use Rattle.ps_phys.specs.Underway.{AreThere, numbers_in}
use Rattle.ps_phys.specs.Walks.{Stream, numbers_of}
use Rattle.ps_phys.specs.declared.phys.PhysNode.{PhysNode}
use Rattle.ps_multiplexers.proofs.visits.Visits.read_inputs.Given as goal

abbrev pub invariant-loop-input : goal.invariant-loop-input
invariant-loop-input l =
    ((w : Waiting) → Waits l.fn.self.pushed.slots l.fn.self.waiting.items w → Waits l.self.pushed.slots l.self.waiting.items (fold push_if_new w (numbers_of (take l.place (inputs_of l.kind)))))
    × ((count : ℕ) → AllByRecursion (λ (i : Stream). i.0 < count) (inputs_of l.kind) → left_to_take count l.self.pushed.slots l.self.waiting.items ≡ left_to_take count l.fn.self.pushed.slots l.fn.self.waiting.items)
    × ((slots : List (Option PhysNode)) → AllByRecursion (λ (i : Stream). IsSome (value_at slots i.0)) (inputs_of l.kind) → AreThere slots l.fn.self.waiting.items → AreThere slots l.self.waiting.items)
    × (l.self.taken.items ≡ l.fn.self.taken.items)
    × (numbers_in l.self.read.items ≡ numbers_in l.fn.self.read.items ++ numbers_of (take l.place (inputs_of l.kind)))

abbrev pub decreases-loop-input : goal.decreases-loop-input
decreases-loop-input l = length (inputs_of l.kind) - l.place
