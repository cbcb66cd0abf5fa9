use Rattle.std.proofs.Common.{◌≡◌, ℕ, ◌<◌, ◌≤◌, max, get_or}
use Rattle.pu_map.proofs.sketch.raise_all.Given as goal

-- the registers before `i` are maxima, and the others as they were
abbrev pub invariant-registers : goal.invariant-registers
invariant-registers l =
    ((k : ℕ) → k < l.i → get_or l.registers k 0 ≡ max (get_or l.fn.registers k 0) (get_or l.others k 0))
    × ((k : ℕ) → l.i ≤ k → get_or l.registers k 0 ≡ get_or l.fn.registers k 0)
