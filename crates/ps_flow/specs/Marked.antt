-- The marks of nodes in a phase.
use Rattle.std.specs.Prelude.{ℕ, zero, suc, ◌+◌, true, false, List, [], ◌∷◌}
use Rattle.ps_ports.specs.Phases.{is_one_of}
use Rattle.ps_world.specs.World.{Node}
use Rattle.ps_flow.specs.declared.marks.Mark.{Mark}

abbrev pub mark_of : Node → Mark
mark_of n = record { in_phase = n.in_phase; is_closed = n.is_closed }

-- the mark of a node between phases
abbrev pub unmarked : Mark
unmarked = record { in_phase = false; is_closed = false }

-- the marks with that at one place closed
abbrev pub closed_at : ℕ → List Mark → List Mark
closed_at n [] = []
closed_at zero (m ∷ ms) = record m { is_closed = true } ∷ ms
closed_at (suc n) (m ∷ ms) = m ∷ closed_at n ms

-- the marks where a phase opens with these nodes alone; the first mark is that of node n
abbrev pub phase_marks : List ℕ → ℕ → List Mark → List Mark
phase_marks ns n [] = []
phase_marks ns n (m ∷ ms) = record m { in_phase = is_one_of n ns } ∷ phase_marks ns (n + 1) ms
