-- Which nodes are marked for an update.
use Rattle.std.specs.Prelude.{ℕ, Bool}
use Rattle.std.specs.Ordering.{nat_cmp}
use Rattle.std.specs.BTreeSet.{contains}
use Rattle.ps_graph.specs.declared.marks.Marks.{Marks}

abbrev pub is_marked : Marks → ℕ → Bool
is_marked m n = contains nat_cmp m.numbers n
