-- Positions in a list that are counted from its end where they are negative.
use Rattle.std.specs.Prelude.{ℕ, ℤ, pos, negsuc, ◌+ℤ◌}

abbrev pub from_end : ℤ → ℕ → ℤ
from_end (pos n) len = pos n
from_end (negsuc n) len = negsuc n +ℤ pos len
